use Rattle.std.proofs.Common.{◌≡◌, ℕ, List, true, map, take, Some}
use Rattle.std.specs.List.{list_all}
use Rattle.name_table.specs.NameTable.{IsTableOf}
use Rattle.name_table.specs.FirstSeen.{is_among}
use Rattle.sheet_object.proofs.conditions.has_each.Given as goal

abbrev pub invariant-loop-item : goal.invariant-loop-item
invariant-loop-item g l =
    (others : List (List ℕ)) → IsTableOf l.table (map (λ n. Some n) others)
    → list_all (is_among others) (map g.T.Named.name (take l.item-index l.items)) ≡ true
