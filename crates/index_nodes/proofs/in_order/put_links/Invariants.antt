use Rattle.std.proofs.Common.{◌≡◌, ℕ, ◌+◌, ◌-◌, ◌*◌, ◌≤◌, List, ◌++◌, length, take}
use Rattle.index_nodes.specs.Pending.{links_at}
use Rattle.index_nodes.proofs.in_order.put_links.Given as goal

-- the children before the n-th are there
pub record ArePut (b : List ℕ) (next left count filled n : ℕ) (before links : List ℕ) : Type 0 where
  pub size : length links ≡ length before
  pub low : filled ≤ count + n
  pub put : take filled links ++ links_at b (next + 4 * n) (left - n)
      ≡ take count before ++ links_at b next left

abbrev pub invariant-loop-n : goal.invariant-loop-n
invariant-loop-n l =
    ArePut l.bytes l.children.next l.children.left l.count l.filled l.n l.fn.links l.links
