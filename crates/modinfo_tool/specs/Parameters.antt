-- The parameters of a module, as its fields `parm` and `parmtype` describe them: the kernel's
-- MODULE_PARM_DESC and module_param write these as `NAME:REST` (include/linux/moduleparam.h).
-- modinfo(8), "parameters".
use Rattle.std.specs.Prelude.{ℕ, ◌||◌, Bool, List, ◌++◌, Option, Some, None, option_map}
use Rattle.std.specs.Prelude.{codes, map, filter}
use Rattle.std.specs.List.{find}
use Rattle.std.specs.Str.{bytes_eq}
use Rattle.modinfo_fields.specs.declared.piece.Field.{Field}
use Rattle.modinfo_fields.specs.Fields.{values_of_key, parameter_of, description_of}
use Rattle.name_table.specs.FirstSeen.{first_seen}

-- Whether a field describes a parameter.
abbrev pub is_parameter : Field → Bool
is_parameter field = bytes_eq field.key (codes "parm") || bytes_eq field.key (codes "parmtype")

-- The parameters that any field describes, in the order they are first seen in.
unfoldable pub parameter_names : List Field → List (List ℕ)
parameter_names fields =
    first_seen (map (λ (field : Field). parameter_of field.value) (filter is_parameter fields))

-- The description of this parameter by the first of some values that describes it.
unfoldable pub first_told : List (List ℕ) → List ℕ → Option (List ℕ)
first_told values name =
    option_map description_of (find (λ value. bytes_eq (parameter_of value) name) values)

-- The value of a parameter, by its text and its type.
abbrev pub described : List ℕ → Option (List ℕ) → Option (List ℕ) → List ℕ
described name (Some text) (Some kind) =
    name ++ codes ":" ++ text ++ codes " (" ++ kind ++ codes ")"
described name (Some text) None = name ++ codes ":" ++ text
described name None (Some kind) = name ++ codes ":" ++ kind
described name None None = name ++ codes ":"

-- The values of the parameters, in the order they are first seen in. The text is from the first
-- `parm`, the type from the first `parmtype`.
unfoldable pub parameter_values : List Field → List (List ℕ)
parameter_values fields =
    map (λ name. described name (first_told (values_of_key (codes "parm") fields) name)
    (first_told (values_of_key (codes "parmtype") fields) name))
    (parameter_names fields)
