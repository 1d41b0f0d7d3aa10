use Rattle.std.proofs.Common.{◌≡◌, drop}
use Rattle.std.specs.List.{find}
use Rattle.module_facts.specs.Faults.{is_twice}
use Rattle.module_facts.proofs.checks.first_twice.Given as goal

abbrev pub invariant-loop-export : goal.invariant-loop-export
invariant-loop-export l =
    find (is_twice l.exports) l.exports ≡ find (is_twice l.exports) (drop l.export-index l.exports)
