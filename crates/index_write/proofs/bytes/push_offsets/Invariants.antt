use Rattle.std.proofs.Common.{◌≡◌, ◌+◌, ◌-◌, ◌++◌}
use Rattle.index_write.specs.Links.{links_of}
use Rattle.index_write.specs.Parts.{offsets_bytes}
use Rattle.index_write.proofs.bytes.push_offsets.Given as goal

abbrev pub invariant-loop-n : goal.invariant-loop-n
invariant-loop-n l =
    l.out.items ++ offsets_bytes (links_of l.links) (l.first + l.n) (l.count - l.n)
    ≡ l.initial.out.items ++ offsets_bytes (links_of l.links) l.first l.count
