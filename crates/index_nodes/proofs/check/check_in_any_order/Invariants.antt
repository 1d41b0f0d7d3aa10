use Rattle.std.proofs.Common.{ℕ, ◌+◌, ◌*◌, List, [], ◌∷◌, ◌++◌, length, vec_len}
use Rattle.index_nodes.specs.declared.check.Pending.{Pending as PendingChildren}
use Rattle.index_nodes.specs.declared.place_set.PlaceSet.{PlaceSet}
use Rattle.index_nodes.specs.declared.value_starts.ValueStarts.{ValueStarts}
use Rattle.index_nodes.specs.Pending.{arrivals_left}
use Rattle.index_nodes.specs.ValueStarts.{AreValueStarts}
use Rattle.index_nodes.proofs.CheckLemmas.{Walking}
use Rattle.index_nodes.proofs.check.check_in_any_order.Given as goal

-- the way through the file, and the places that are known
pub record Checking (b : List ℕ) (visited : PlaceSet) (starts : ValueStarts)
    (levels : List PendingChildren) : Type 0 where
  pub walk : Walking b visited levels
  pub starts_known : AreValueStarts b starts

abbrev pub invariant-level : goal.invariant-level
invariant-level l = Checking l.bytes l.visited l.starts (l.above.items ++ l.level ∷ [])

-- each turn visits a node, or goes back to a level above one whose children are all visited
abbrev pub decreases-level : goal.decreases-level
decreases-level l =
    2 * length (arrivals_left l.bytes (l.above.items ++ l.level ∷ [])) + vec_len l.above
