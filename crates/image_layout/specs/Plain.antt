-- The bytes of the sections in the image, before any relocation. gABI 4, "Sections", SHT_NOBITS.
use Rattle.std.specs.Prelude.{ℕ, ◌+◌, ◌-◌, ◌&&◌, nat_le, nat_lt, Bool, if◌then◌else◌, List, [], map}
use Rattle.std.specs.Prelude.{length, find, slice_index, slice_get}
use Rattle.std.specs.List.{range_with_len}
use Rattle.std.specs.Option.{option_map_or}
use Rattle.elf_object.specs.Object.{FileObject}
use Rattle.elf_sections.specs.Sections.{bytes_of}
use Rattle.image_layout.specs.Offsets.{offset, image_size}

-- Bytes from a place of the image on.
pub record Piece : Type 0 where
  pub at : ℕ
  pub bytes : List ℕ

-- The bytes of the section i, from the file, if it is in memory. A section without bytes in the
-- file has none here.
unfoldable pub piece : FileObject → ℕ → Piece
piece o i = record {
  at = offset o.sections i;
  bytes = option_map_or (λ s. if s.kept then bytes_of o.file s else []) (slice_get o.sections i) [];
}

-- The bytes of all sections, which share no place.
abbrev pub pieces : FileObject → List Piece
pieces o = map (piece o) (range_with_len 0 (length o.sections))

-- Whether the piece covers the place x of the image.
abbrev pub has_place : ℕ → Piece → Bool
has_place x p = nat_le p.at x && nat_lt x (p.at + length p.bytes)

-- The byte at the place x: from the piece that covers it, and otherwise 0.
abbrev pub plain_byte : List Piece → ℕ → ℕ
plain_byte ps x = option_map_or (λ p. slice_index p.bytes (x - p.at)) (find (has_place x) ps) 0

-- This many bytes, with the pieces at their places and 0 elsewhere.
unfoldable pub filled : ℕ → List Piece → List ℕ
filled len ps = map (plain_byte ps) (range_with_len 0 len)

-- The image before any relocation.
abbrev pub plain_image : FileObject → List ℕ
plain_image o = filled (image_size o.sections) (pieces o)
