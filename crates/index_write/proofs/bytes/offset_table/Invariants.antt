use Rattle.std.proofs.Common.{◌≡◌, ℕ, ◌<◌, length, get_or, drop}
use Rattle.index_format.specs.File.{offset}
use Rattle.index_write.specs.Links.{links_of}
use Rattle.index_write.proofs.bytes.offset_table.Given as goal

-- the table has the offsets of the links from n on
abbrev pub invariant-loop-n : goal.invariant-loop-n
invariant-loop-n l =
    (length l.table ≡ 256)
    × ((byte : ℕ) → byte < 256
    → get_or l.table byte 0 ≡ offset (links_of (drop l.n l.links)) byte)
