use Rattle.std.proofs.Common.{◌≡◌, drop}
use Rattle.index_format.specs.File.{offset}
use Rattle.index_write.specs.Links.{links_of}
use Rattle.index_write.proofs.bytes.offset_of.Given as goal

abbrev pub invariant-loop-link : goal.invariant-loop-link
invariant-loop-link l =
    offset (drop l.link-index (links_of l.links)) l.byte ≡ offset (links_of l.links) l.byte
