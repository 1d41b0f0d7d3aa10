-- What the words of `modinfo` ask for. modinfo(8).
use Rattle.std.specs.Prelude.{not, List, [], ◌∷◌, ◌++◌, Bool, Option, Some, None, is_some}
use Rattle.std.specs.Prelude.{if◌then◌else◌, option_and_then, unwrap_or, codes}
use Rattle.std.specs.Option.{option_map_or, option_to_list}
use Rattle.clap.specs.Words.{App, Row, Text}
use Rattle.kmod_words.specs.Arguments.{command, flag, valued, words}
use Rattle.kmod_words.specs.Understood.{understood, is_given, value_of, words_of, is_version}
use Rattle.kmod_words.specs.declared.modinfo.ModinfoWords.{ModinfoWords}

-- The options and the words of `modinfo`.
unfoldable pub modinfo_command : App
modinfo_command = command (codes "modinfo") (
    valued (codes "F") (codes "field")
    ∷ flag (codes "a") (codes "author")
    ∷ flag (codes "d") (codes "description")
    ∷ flag (codes "l") (codes "license")
    ∷ flag (codes "p") (codes "parameters")
    ∷ flag (codes "n") (codes "filename")
    ∷ flag (codes "0") (codes "null")
    ∷ valued (codes "k") (codes "set-version")
    ∷ valued (codes "b") (codes "basedir")
    ∷ words (codes "words")
    ∷ []
    )

-- the key that a flag stands for, if it is given
abbrev pub key_by_flag : List Row → Text → Text → List Text
key_by_flag rows name key = if is_given name rows then key ∷ [] else []

-- All keys that are asked for.
unfoldable pub keys_asked : List Row → List Text
keys_asked rows =
    option_to_list (value_of (codes "field") rows)
    ++ key_by_flag rows (codes "author") (codes "author")
    ++ key_by_flag rows (codes "description") (codes "description")
    ++ key_by_flag rows (codes "license") (codes "license")
    ++ key_by_flag rows (codes "parameters") (codes "parm")
    ++ key_by_flag rows (codes "filename") (codes "filename")

-- at most one of the keys, if there are no two
abbrev pub single : List Text → Option (Option Text)
single [] = Some None
single (key ∷ []) = Some (Some key)
single (key ∷ other ∷ keys) = None

-- Whether the words are names and the version is one, or the words are paths and there is no root.
abbrev pub is_by_name_or_path : List Row → Bool
is_by_name_or_path rows =
    option_map_or is_version (value_of (codes "set-version") rows)
    (not (is_some (value_of (codes "basedir") rows)))

-- What is asked for of this key.
abbrev pub modinfo_of : List Row → Option Text → ModinfoWords
modinfo_of rows field = record {
  field = field;
  zero = is_given (codes "null") rows;
  version = value_of (codes "set-version") rows;
  basedir = unwrap_or (value_of (codes "basedir") rows) (codes "/");
  words = words_of (codes "words") rows;
}

-- What the matches ask for: at most one key, a version without `/`, and no root without a version.
unfoldable pub modinfo_asked : List Row → Option ModinfoWords
modinfo_asked rows = option_and_then (λ field.
    if is_by_name_or_path rows then Some (modinfo_of rows field) else None)
    (single (keys_asked rows))

-- What the words ask `modinfo` for, or nothing if they aren't understood.
abbrev pub modinfo_request : List Text → Option ModinfoWords
modinfo_request words = option_and_then modinfo_asked (understood modinfo_command words)
