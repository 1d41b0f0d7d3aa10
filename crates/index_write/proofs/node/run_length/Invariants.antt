use Rattle.std.proofs.Common.{◌≡◌, ◌+◌, drop}
use Rattle.index_write.specs.Groups.{at_depth, leading}
use Rattle.index_write.proofs.node.run_length.Given as goal

abbrev pub invariant-loop-n : goal.invariant-loop-n
invariant-loop-n l =
    l.n + leading l.byte (drop l.n (at_depth l.depth l.entries))
    ≡ leading l.byte (at_depth l.depth l.entries)
