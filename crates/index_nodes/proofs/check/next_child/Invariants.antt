use Rattle.std.proofs.Common.{◌≡◌, ◌+◌, ◌-◌, ◌*◌}
use Rattle.index_nodes.specs.Pending.{links_at}
use Rattle.index_nodes.proofs.check.next_child.Given as goal

-- the offsets before the n-th lead to no child
abbrev pub invariant-loop-n : goal.invariant-loop-n
invariant-loop-n l =
    links_at l.bytes l.pending.next l.pending.left
    ≡ links_at l.bytes (l.pending.next + 4 * l.n) (l.pending.left - l.n)
