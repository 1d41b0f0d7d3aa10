use Rattle.std.proofs.Common.{◌≡◌, ℕ, ◌+◌, List, length}
use Rattle.index_format.specs.Node.{root}
use Rattle.index_format.specs.Walk.{walk, visits}
use Rattle.index_format.specs.Nodes.{IsNode}
use Rattle.index_read.proofs.reach.reach.Given as goal

-- the walk of what is left of the key ends where the key's does, and the nodes so far and those to
-- come are its nodes
pub record Walking (b key rest : List ℕ) (link before now : ℕ) : Type 0 where
  pub node : IsNode b link
  pub reached : (walk b link rest).reached ≡ (walk b (root b) key).reached
  pub cost : now + length (walk b link rest).nodes ≡ before + visits b key

abbrev pub invariant-walk : goal.invariant-walk
invariant-walk g l = Walking l.nodes l.key l.rest l.at l.fn.steps l.steps

abbrev pub decreases-walk : goal.decreases-walk
decreases-walk g l = length l.rest
