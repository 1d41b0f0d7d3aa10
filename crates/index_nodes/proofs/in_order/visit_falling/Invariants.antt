use Rattle.std.proofs.Common.{ℕ, ◌≤◌, List, length, take}
use Rattle.index_nodes.specs.declared.value_starts.ValueStarts.{ValueStarts}
use Rattle.index_nodes.specs.ValueStarts.{AreValueStarts}
use Rattle.index_nodes.proofs.OrderLemmas.{Falling}
use Rattle.index_nodes.proofs.in_order.visit_falling.Given as goal

-- what is left of the way, by the offsets that are pending
pub record Pends (b links : List ℕ) (count above : ℕ) (starts : ValueStarts) : Type 0 where
  pub within : count ≤ length links
  pub way : Falling b (take count links) above
  pub starts_known : AreValueStarts b starts

abbrev pub invariant-loop-count : goal.invariant-loop-count
invariant-loop-count l = Pends l.bytes l.links l.count l.above l.starts

-- the places fall
abbrev pub decreases-loop-count : goal.decreases-loop-count
decreases-loop-count l = l.above
