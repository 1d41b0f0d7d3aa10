use Rattle.std.proofs.Common.{◌≡◌, take, ℕ, List}
use Rattle.name_table.specs.FirstSeen.{is_among}
use Rattle.planned_modules.proofs.members.name_set.Given as goal

abbrev pub invariant-loop-name : goal.invariant-loop-name
invariant-loop-name l =
    (name : List ℕ) → is_among l.set name ≡ is_among (take l.name-index l.names) name
