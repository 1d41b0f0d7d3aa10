-- What the words of `builtin-alias` ask for, this project's own command.
use Rattle.std.specs.Prelude.{List, [], ◌∷◌, Option, Some, None, if◌then◌else◌, option_and_then}
use Rattle.std.specs.Prelude.{unwrap_or, codes}
use Rattle.clap.specs.Words.{App, Row, Text}
use Rattle.kmod_words.specs.Arguments.{command, lettered, required, word}
use Rattle.kmod_words.specs.Understood.{understood, value_of, is_version}
use Rattle.kmod_words.specs.declared.builtin_alias.BuiltinAliasWords.{BuiltinAliasWords}

-- The options and the word of `builtin-alias`.
unfoldable pub builtin_alias_command : App
builtin_alias_command = command (codes "builtin-alias") (
    lettered (codes "d") (codes "dirname")
    ∷ required (lettered (codes "S") (codes "set-version"))
    ∷ word (codes "name")
    ∷ []
    )

-- What the matches ask for: a version without `/`, and a name.
unfoldable pub builtin_alias_asked : List Row → Option BuiltinAliasWords
builtin_alias_asked rows = option_and_then (λ version. option_and_then (λ name.
    if is_version version
    then Some (record {
      dirname = unwrap_or (value_of (codes "dirname") rows) (codes "/");
      version = version;
      name = name;
    })
    else None)
    (value_of (codes "name") rows))
    (value_of (codes "set-version") rows)

-- What the words ask `builtin-alias` for, or nothing if they aren't understood.
abbrev pub builtin_alias_request : List Text → Option BuiltinAliasWords
builtin_alias_request words =
    option_and_then builtin_alias_asked (understood builtin_alias_command words)
