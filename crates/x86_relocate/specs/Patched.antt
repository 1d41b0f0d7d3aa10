-- An image with words at places: each patch's bytes hold its word, the lowest byte first, and every
-- other byte is as before. System V ABI, x86-64 supplement, "Relocation".
use Rattle.std.specs.Prelude.{ℕ, ◌+◌, ◌-◌, ◌≤◌, ◌<◌, ◌&&◌, Bool, not, nat_le, nat_lt, List, []}
use Rattle.std.specs.Prelude.{length, map, slice_index, find, Option, Result, Ok, Err, is_ok}
use Rattle.std.specs.Int.{to_le_bytes, w32, w64}
use Rattle.std.specs.List.{range_with_len}
use Rattle.std.specs.Option.{option_map_or}
use Rattle.elf_format.specs.Relocation.{known_width}
use Rattle.x86_relocate.specs.Word.{word}
use Rattle.x86_relocate.specs.declared.patch.Overflow.{Overflow}
use Rattle.x86_relocate.specs.declared.patch.Patch.{Patch}
use Rattle.x86_relocate.specs.declared.word.TooWide.{TooWide}
use Rattle.x86_relocate.specs.declared.word.Written.{Written}
use Rattle.x86_relocate.specs.declared.word.Written.TheVariants.{Nothing, Four, Eight}

-- The patch covers this place of the image.
abbrev pub Covers : Patch → ℕ → Type 0
Covers patch place = (patch.at ≤ place) × (place < patch.at + known_width patch.kind)

-- Whether the patch covers this place of the image.
abbrev pub covers : ℕ → Patch → Bool
covers place patch = nat_le patch.at place && nat_lt place (patch.at + known_width patch.kind)

-- Each place of the patch is in an image of this many bytes.
abbrev pub IsWithin : ℕ → Patch → Type 0
IsWithin len patch = (place : ℕ) → Covers patch place → place < len

-- The two patches share no place.
abbrev pub IsApart : Patch → Patch → Type 0
IsApart one other = (place : ℕ) → Covers one place → Covers other place → ⊥

-- The word of a patch.
abbrev pub word_of : Patch → Result Written TooWide
word_of patch = word patch.kind patch.s patch.a patch.p

-- Whether the word fits its field.
abbrev pub fits : Patch → Bool
fits patch = is_ok (word_of patch)

-- The bytes of a word, the lowest first.
abbrev pub bytes_of : Result Written TooWide → List ℕ
bytes_of (Ok Nothing) = []
bytes_of (Ok (Four value)) = to_le_bytes w32 value
bytes_of (Ok (Eight value)) = to_le_bytes w64 value
bytes_of (Err too_wide) = []

-- The byte at a place: from the word of the patch that covers the place, or else the byte that was
-- there.
abbrev pub byte_at : List ℕ → List Patch → ℕ → ℕ
byte_at image patches place =
    option_map_or (λ patch. slice_index (bytes_of (word_of patch)) (place - patch.at))
    (find (covers place) patches) (slice_index image place)

-- The image with the words of these patches. No two of them share a place.
unfoldable pub patched : List ℕ → List Patch → List ℕ
patched image patches = map (byte_at image patches) (range_with_len 0 (length image))

-- The first patch whose word is too wide.
abbrev pub first_too_wide : List Patch → Option Patch
first_too_wide patches = find (λ patch. not (fits patch)) patches

-- The patch's entry and its section.
abbrev pub overflow_of : Patch → Overflow
overflow_of patch = record { section = patch.section; entry = patch.entry }
