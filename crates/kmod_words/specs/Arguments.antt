-- The options and words of a command, as its manual page lists them. None may be given twice, and
-- no value or word is empty.
use Rattle.std.specs.Prelude.{true, List, [], Some, slice_get}
use Rattle.clap.specs.Words.{App, Rule, Text, new_app, new_rule}
use Rattle.clap.specs.declared.builder.action.ArgAction.TheVariants.{Append, Set, SetTrue}
use Rattle.clap.specs.declared.builder.value_parser.ValueParser.TheVariants.{NonEmptyString}

-- A flag: `-l` by its letter, if it has one, or `--name`.
abbrev pub flag : Text → Text → Rule
flag letter name =
    record (new_rule name) { short = slice_get letter 0; long = Some name; action = Some SetTrue }

-- What has a value, which isn't empty.
abbrev pub with_value : Text → Rule
with_value name = record (new_rule name) { action = Some Set; parser = Some NonEmptyString }

-- An option with a value: `-l` by its letter, if it has one, or `--name`.
abbrev pub valued : Text → Text → Rule
valued letter name = record (with_value name) { short = slice_get letter 0; long = Some name }

-- An option with a value that has only a letter.
abbrev pub lettered : Text → Text → Rule
lettered letter name = record (with_value name) { short = slice_get letter 0 }

-- Such an option, without which the words aren't understood.
abbrev pub required : Rule → Rule
required rule = record rule { required = true }

-- A word that is no option, and is required.
abbrev pub word : Text → Rule
word name = required (with_value name)

-- One such word or more.
abbrev pub words : Text → Rule
words name = required (record (with_value name) { action = Some Append })

-- A command with these options and words, and nothing else: no `--help`, no `--version`, and no
-- name of a program before the words.
abbrev pub command : Text → List Rule → App
command name rules = record {
  top
      = record (new_app name).top
      { rules = rules; no_binary_name = true; disable_help_flag = true };
  subs = [];
}
