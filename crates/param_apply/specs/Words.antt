-- The parameters of a module, and the words that name them. The kernel's parse_args,
-- kernel/params.c; modprobe(8). That only spaces separate words, without quotes, is this project's
-- choice.
use Rattle.std.specs.Prelude.{ℕ, ◌==◌, not, Bool, if◌then◌else◌, List, map, filter, take_while}
use Rattle.std.specs.Prelude.{slice_get, codes, Option, Some, None, option_map, option_and_then}
use Rattle.std.specs.List.{slice_split, before_first, after_first, filter_map, list_any, position}
use Rattle.std.specs.Str.{bytes_eq}
use Rattle.elf_object.specs.Object.{FileObject}
use Rattle.km_names.specs.Path.{underscored}
use Rattle.module_symbols.specs.Contents.{modinfo_bytes}
use Rattle.modinfo_fields.specs.Fields.{fields_of, is_text, values_of_key, parameter_of}
use Rattle.modinfo_fields.specs.Fields.{description_of}
use Rattle.param_apply.specs.declared.kind.ParamType.{ParamType}
use Rattle.param_apply.specs.Kinds.{kind_of}
use Rattle.param_apply.specs.Table.{Entry, entries, table_of}

-- Whether two names are the same, with each `-` replaced by `_`.
abbrev pub is_same : List ℕ → List ℕ → Bool
is_same name other = bytes_eq (underscored name) (underscored other)

-- The texts of a module that state the types of parameters: each is the parameter's name, `:`, and
-- the type.
abbrev pub type_texts : FileObject → List (List ℕ)
type_texts o = values_of_key (codes "parmtype") (fields_of (modinfo_bytes o))

-- The type of the parameter of a name, from the first text with the name, if the type is known.
unfoldable pub kind_named : List (List ℕ) → List ℕ → Option ParamType
kind_named texts name =
    option_and_then (λ text. kind_of (description_of text))
    (option_and_then (slice_get texts) (position (λ text. is_same (parameter_of text) name) texts))

-- A parameter: its name, the place of its value in the image, and its type.
pub record Parameter : Type 0 where
  pub name : List ℕ
  pub at : ℕ
  pub kind : Option ParamType

abbrev pub parameter : List (List ℕ) → Entry → Parameter
parameter texts e = record { name = e.name; at = e.at; kind = kind_named texts e.name }

-- The parameters of a module in an image at a base, one for each entry of its table.
unfoldable pub parameters : FileObject → ℕ → List ℕ → List Parameter
parameters o base image = map (parameter (type_texts o)) (entries image base (table_of o))

-- The words of a text, which are between spaces.
abbrev pub words : List ℕ → List (List ℕ)
words text = filter is_text (slice_split (λ b. b == 32) text)

-- The words that state options: the ones before a word `--`.
abbrev pub stating : List ℕ → List (List ℕ)
stating text = take_while (λ word. not (bytes_eq word (codes "--"))) (words text)

-- The name in a word, which ends at its first `=`, and the text after that, if there is one.
abbrev pub word_name : List ℕ → List ℕ
word_name word = before_first (λ b. b == 61) word

abbrev pub word_text : List ℕ → Option (List ℕ)
word_text word =
    if list_any (λ b. b == 61) word then Some (after_first (λ b. b == 61) word) else None

-- The number of the parameter of a name, the first of several.
abbrev pub number_named : List Parameter → List ℕ → Option ℕ
number_named params name = position (λ (p : Parameter). is_same p.name name) params

-- A word that names a parameter: the parameter's number, and the text that the word states for it.
pub record Setting : Type 0 where
  pub number : ℕ
  pub text : Option (List ℕ)

abbrev pub setting : List Parameter → List ℕ → Option Setting
setting params word =
    option_map (λ k. record { number = k; text = word_text word })
    (number_named params (word_name word))

-- The settings of the words of options that name parameters, in order. Words that name none are
-- left out.
unfoldable pub settings : List Parameter → List ℕ → List Setting
settings params options = filter_map (setting params) (stating options)
