use Rattle.std.proofs.Common.{◌≡◌, ℕ, ◌≤◌, ◌<◌, List, None}
use Rattle.index_format.specs.Node.{child}
use Rattle.index_nodes.proofs.read.next_link.Given as goal

-- no byte before this one leads to a child, and it isn't before the first that may
pub record NoneBefore (b : List ℕ) (link from first byte : ℕ) : Type 0 where
  pub low : first ≤ byte
  pub after : from ≤ byte
  pub none : (k : ℕ) → from ≤ k → k < byte → child b link k ≡ None

abbrev pub invariant-loop-byte : goal.invariant-loop-byte
invariant-loop-byte l = NoneBefore l.bytes l.node.link l.from l.first l.byte
