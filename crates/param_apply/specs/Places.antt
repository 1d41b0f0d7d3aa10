-- The places in an image that values may have.
use Rattle.std.specs.Prelude.{ℕ, ◌+◌, ◌==◌, ◌&&◌, ◌||◌, nat_le, nat_lt, not, Bool, false, List}
use Rattle.std.specs.Prelude.{slice_get}
use Rattle.std.specs.List.{list_any, range_with_len}
use Rattle.std.specs.Option.{option_map_or}
use Rattle.elf_object.specs.declared.place.RelaPlace.{RelaPlace}
use Rattle.elf_object.specs.Object.{FileObject}
use Rattle.elf_object.specs.Places.{place_width}
use Rattle.image_layout.specs.Offsets.{offset}
use Rattle.param_apply.specs.Kinds.{width_of}
use Rattle.param_apply.specs.Table.{table_of}
use Rattle.param_apply.specs.Words.{Parameter, Setting}

-- Whether the byte at x is one of this many from a place on.
abbrev pub is_among : ℕ → ℕ → ℕ → Bool
is_among at size x = nat_le at x && nat_lt x (at + size)

-- Whether a relocation changes the byte at x of the image.
abbrev pub is_relocated_by : FileObject → ℕ → RelaPlace → Bool
is_relocated_by o x p = is_among (offset o.sections p.target + p.offset) (place_width p) x

-- Whether no value may have the byte at x: a relocation changes it, or it is in the table of
-- parameters.
unfoldable pub is_reserved : FileObject → ℕ → Bool
is_reserved o x =
    list_any (is_relocated_by o x) o.places || is_among (table_of o).at (table_of o).size x

-- The number of bytes of a parameter's value, and 0 if its type isn't known.
abbrev pub value_width : Parameter → ℕ
value_width p = option_map_or width_of p.kind 0

-- Whether the byte at x is in the value of the parameter k.
unfoldable pub is_in_value : List Parameter → ℕ → ℕ → Bool
is_in_value params k x =
    option_map_or (λ p. is_among p.at (value_width p) x) (slice_get params k) false

-- Whether a word names another parameter than k whose value has the byte at x.
abbrev pub is_of_other : List Parameter → ℕ → ℕ → Setting → Bool
is_of_other params k x s = not (s.number == k) && is_in_value params s.number x

-- Whether the value of the parameter k is misplaced, after these words. Its bytes leave the image,
-- or one of them is reserved or belongs to another parameter that one of the words names.
unfoldable pub is_misplaced : FileObject → List Parameter → ℕ → List Setting → ℕ → Parameter → Bool
is_misplaced o params len before k p =
    nat_lt len (p.at + value_width p)
    || list_any (λ x. is_reserved o x || list_any (is_of_other params k x) before)
    (range_with_len p.at (value_width p))
