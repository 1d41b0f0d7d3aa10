use Rattle.std.proofs.Common.{◌≡◌, ℕ, List, take}
use Rattle.name_table.specs.FirstSeen.{is_among}
use Rattle.remove_plan.proofs.asked.set_of.Given as goal

abbrev pub invariant-loop-name : goal.invariant-loop-name
invariant-loop-name l =
    (other : List ℕ) → is_among l.set other ≡ is_among (take l.name-index l.names) other
