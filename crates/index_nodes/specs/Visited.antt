-- The places that were visited.
-- It belongs to the code: no public meaning rests on it.
use Rattle.std.specs.Prelude.{ℕ, ◌/◌, ◌%◌, ◌==◌, Bool, slice_index}
use Rattle.std.specs.Int.{bit_at}
use Rattle.index_nodes.specs.declared.place_set.PlaceSet.{PlaceSet}

-- Whether the bit of a place is 1.
abbrev pub has_place : PlaceSet → ℕ → Bool
has_place set place = bit_at (slice_index set.words.items (place / 64)) (place % 64) == 1
