use Rattle.std.proofs.Common.{◌≡◌, ℕ, ◌≤◌, List, length, drop, true, nat_lt}
use Rattle.std.specs.List.{list_all}
use Rattle.index_write.specs.Lists.{shown_values}
use Rattle.index_write.proofs.lists.place_for.Given as goal

-- each value from here on has a greater priority
pub record PlaceSoFar (at : ℕ) (list : List (ℕ × List ℕ)) (priority : ℕ) : Type 0 where
  pub within : at ≤ length list
  pub greater : list_all (λ v. nat_lt priority v.0) (drop at list) ≡ true

abbrev pub invariant-loop-at : goal.invariant-loop-at
invariant-loop-at l = PlaceSoFar l.at (shown_values l.list) l.priority

abbrev pub decreases-loop-at : goal.decreases-loop-at
decreases-loop-at l = l.at
