use Rattle.std.proofs.Common.{◌≡◌, drop}
use Rattle.std.specs.Prelude.{find}
use Rattle.export_table.specs.NeedTests.{need_fails, test_of}
use Rattle.export_table.proofs.needs.first_failing.Given as goal

abbrev pub invariant-loop-need : goal.invariant-loop-need
invariant-loop-need l =
    find (need_fails (test_of l.check) l.table l.facts) l.facts.needs
    ≡ find (need_fails (test_of l.check) l.table l.facts) (drop l.need-index l.facts.needs)
