use Rattle.std.proofs.Common.{◌≡◌, ℕ, List, length, Option}
use Rattle.index_nodes.specs.declared.node.Node.{Node}
use Rattle.index_read.specs.declared.walk.KeyWalk.{KeyWalk}
use Rattle.index_read.specs.FirstSteps.{IsOnWay, first_items, still}
use Rattle.index_read.proofs.first.next_over.Given as goal

-- the nodes so far had no value
pub record Seeking (b : List ℕ) (start : KeyWalk) (first : Option Node) (w : KeyWalk)
    (root : Option Node) : Type 0 where
  pub way : IsOnWay b w root
  pub same : first_items b (still b w root) ≡ first_items b (still b start first)

abbrev pub invariant-loop-steps : goal.invariant-loop-steps
invariant-loop-steps g l = Seeking l.nodes l.fn.walk l.fn.root l.walk l.root

abbrev pub decreases-loop-steps : goal.decreases-loop-steps
decreases-loop-steps g l = length (still l.nodes l.walk l.root)
