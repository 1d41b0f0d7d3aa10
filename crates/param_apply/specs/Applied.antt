-- An image with the values of its parameters, or the fault of its options.
use Rattle.std.specs.Prelude.{ℕ, ◌-◌, ◌==◌, Bool, List, [], ◌∷◌, map, find, reverse, take, length}
use Rattle.std.specs.Prelude.{slice_get, slice_index, Option, Some, None, is_none, option_and_then}
use Rattle.std.specs.Prelude.{option_map, unwrap_or}
use Rattle.std.specs.List.{count_by, list_any, range_with_len}
use Rattle.std.specs.Option.{option_map_or}
use Rattle.elf_object.specs.Object.{FileObject}
use Rattle.elf_sections.specs.Shape.{each, fault_if}
use Rattle.km_names.specs.First.{first}
use Rattle.image_layout.specs.Plain.{Piece, has_place}
use Rattle.param_apply.specs.declared.kind.ParamType.{ParamType}
use Rattle.param_apply.specs.declared.fault.ParamFault.{ParamFault}
use Rattle.param_apply.specs.declared.fault.ParamFault.TheVariants.{BadValue, BadParamPlace}
use Rattle.param_apply.specs.declared.fault.ParamFault.TheVariants.{UnknownParamType}
use Rattle.param_apply.specs.Kinds.{bytes_of, number_of}
use Rattle.param_apply.specs.Table.{table_fault, table_of}
use Rattle.param_apply.specs.Words.{Parameter, Setting, parameters, settings}
use Rattle.param_apply.specs.Places.{is_misplaced}

-- The test that a word states a value of its parameter, by the parameter's type.
abbrev pub value_test : Setting → Parameter → Option ParamType → Option ParamFault
value_test s p None = Some (UnknownParamType p.name)
value_test s p (Some kind) = fault_if (is_none (number_of kind s.text)) (BadValue p.name)

-- The fault of a word, after the words before it: it states no value, or the value is misplaced.
unfoldable pub setting_fault : FileObject → List Parameter → ℕ → List Setting → Setting
    → Option ParamFault
setting_fault o params len before s =
    option_map_or
    (λ p. first (value_test s p p.kind
    ∷ fault_if (is_misplaced o params len before s.number p) (BadParamPlace p.name) ∷ []))
    (slice_get params s.number) None

-- The fault of the word j.
abbrev pub fault_at : FileObject → List Parameter → ℕ → List Setting → ℕ → Option ParamFault
fault_at o params len ss j =
    option_map_or (setting_fault o params len (take j ss)) (slice_get ss j) None

-- The fault of the words: the first fault of one.
unfoldable pub words_fault : FileObject → List Parameter → ℕ → List Setting → Option ParamFault
words_fault o params len ss = first (each (length ss) (fault_at o params len ss))

-- Why options can't be written into an image at a base: the fault of the table, or else of a word.
unfoldable pub param_fault : FileObject → ℕ → List ℕ → List ℕ → Option ParamFault
param_fault o base image options =
    let params = parameters o base image in
    first (table_fault image base (table_of o)
    ∷ words_fault o params (length image) (settings params options) ∷ [])

-- The bytes of the value that a word states for its parameter, and none if it states none.
abbrev pub value_bytes : Setting → Parameter → List ℕ
value_bytes s p =
    unwrap_or (option_and_then (λ kind. option_map (bytes_of kind) (number_of kind s.text)) p.kind)
    []

-- The bytes of a setting, at the place of its parameter.
unfoldable pub piece : List Parameter → Setting → Piece
piece params s = record {
  at = option_map_or (λ (p : Parameter). p.at) (slice_get params s.number) 0;
  bytes = option_map_or (value_bytes s) (slice_get params s.number) [];
}

-- The byte at x: from the last of some pieces that covers it, and otherwise from the image.
abbrev pub byte_of : List ℕ → List Piece → ℕ → ℕ
byte_of image ps x =
    option_map_or (λ p. slice_index p.bytes (x - p.at)) (find (has_place x) (reverse ps))
    (slice_index image x)

-- The image with the pieces in it.
unfoldable pub with_pieces : List ℕ → List Piece → List ℕ
with_pieces image ps = map (byte_of image ps) (range_with_len 0 (length image))

-- The image at a base with the options written into it. Each byte is from the last word whose
-- parameter's place covers it, and any other byte is as it was.
unfoldable pub finished : FileObject → ℕ → List ℕ → List ℕ → List ℕ
finished o base image options =
    let params
    = parameters o base image in with_pieces image
    (map (piece params) (settings params options))

-- Whether a word names the parameter k.
abbrev pub is_named : List Setting → ℕ → Bool
is_named ss k = list_any (λ (s : Setting). s.number == k) ss

-- The number of parameters that the words name.
abbrev pub named_count : List Parameter → List Setting → ℕ
named_count params ss = count_by (is_named ss) (range_with_len 0 (length params))

-- The number of parameters that the options name.
unfoldable pub count_of : FileObject → ℕ → List ℕ → List ℕ → ℕ
count_of o base image options =
    let params = parameters o base image in named_count params (settings params options)
