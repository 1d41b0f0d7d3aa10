-- What modinfo(8) prints of a module.
use Rattle.std.specs.Prelude.{ℕ, ◌-◌, Bool, not, List, [], ◌∷◌, ◌++◌, Option, Some, None, codes}
use Rattle.std.specs.Prelude.{length, map, filter, if◌then◌else◌}
use Rattle.std.specs.List.{flat_map, repeat}
use Rattle.std.specs.Str.{bytes_eq}
use Rattle.modinfo_fields.specs.declared.piece.Field.{Field}
use Rattle.modinfo_fields.specs.Fields.{values_of_key}
use Rattle.modinfo_tool.specs.declared.text.ShowOptions.{ShowOptions}
use Rattle.modinfo_tool.specs.Parameters.{is_parameter, parameter_values}

-- A line that shows a value under its key: the key, a colon, spaces up to column 16, and the value.
-- After a key of 15 bytes or more the value follows the colon.
abbrev pub labelled : List ℕ → List ℕ → List ℕ
labelled key value = key ++ codes ":" ++ repeat (15 - length key) (codes " ") ++ value

-- All lines of a module: its path, its fields in order without those that describe parameters, and
-- a line for each parameter.
unfoldable pub all_lines : List ℕ → List Field → List (List ℕ)
all_lines path fields =
    labelled (codes "filename") path ∷ []
    ++ map (λ (field : Field). labelled field.key field.value)
    (filter (λ field. not (is_parameter field)) fields)
    ++ map (labelled (codes "parm")) (parameter_values fields)

-- The values under a key: `filename` is the path, `parm` are the parameters.
unfoldable pub values_under : List ℕ → List ℕ → List Field → List (List ℕ)
values_under key path fields =
    if bytes_eq key (codes "filename") then path ∷ []
    else (if bytes_eq key (codes "parm") then parameter_values fields else values_of_key key fields)

-- The lines that are asked for: all, or the values under one key.
abbrev pub lines_asked : Option (List ℕ) → List ℕ → List Field → List (List ℕ)
lines_asked None path fields = all_lines path fields
lines_asked (Some key) path fields = values_under key path fields

-- The lines, each with this byte at its end.
abbrev pub ended : ℕ → List (List ℕ) → List ℕ
ended end lines = flat_map (λ line. line ++ end ∷ []) lines

-- The byte that ends a line: a NUL if that is asked for, and otherwise a line end.
abbrev pub line_end : Bool → ℕ
line_end zero = if zero then 0 else 10

-- The text that is shown of a module at a path, with these fields.
unfoldable pub shown_text : List ℕ → List Field → ShowOptions → List ℕ
shown_text path fields options =
    ended (line_end options.zero) (lines_asked options.field path fields)
