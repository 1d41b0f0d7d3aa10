use Rattle.std.proofs.Common.{◌≡◌, ℕ, ◌≤◌, ◌-◌, ◌++◌, List, length, take, drop}
use Rattle.index_format.specs.Tree.{common}
use Rattle.index_write.proofs.node.common_length.Given as goal

-- the first n bytes are common
pub record CommonSoFar (a b : List ℕ) (n : ℕ) : Type 0 where
  pub in_a : n ≤ length a
  pub in_b : n ≤ length b
  pub split : common a b ≡ take n a ++ common (drop n a) (drop n b)

abbrev pub invariant-loop-n : goal.invariant-loop-n
invariant-loop-n l = CommonSoFar l.a l.b l.n

abbrev pub decreases-loop-n : goal.decreases-loop-n
decreases-loop-n l = length l.a - l.n
