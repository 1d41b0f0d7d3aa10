use Rattle.std.proofs.Common.{◌≡◌, ℕ, List, take}
use Rattle.module_facts.specs.Times.{seen, times, times_seen}
use Rattle.module_facts.proofs.checks.seen_names.Given as goal

abbrev pub invariant-loop-export : goal.invariant-loop-export
invariant-loop-export l =
    (name : List ℕ) → times_seen l.table name ≡ seen (times (take l.export-index l.exports) name)
