-- What `clap` makes of words: the options and words that a command states, as getopt_long(3) has
-- them.
use Rattle.std.specs.Prelude.{◌==◌, Bool, true, false, not, List, [], ◌∷◌, Option, Some, None, find}
use Rattle.std.specs.Prelude.{option_and_then, unwrap_or}
use Rattle.std.specs.List.{list_any}
use Rattle.std.specs.Str.{bytes_eq}
use Rattle.clap.specs.Words.{App, Kinds, Row, Text, all_of, fault_of, first_of, matches_of}
use Rattle.clap.specs.declared.parser.matches.ValueSource.{ValueSource}
use Rattle.clap.specs.declared.parser.matches.ValueSource.TheVariants.{CommandLine}

-- the matches, unless there is a fault
abbrev pub unless_fault : Kinds → List Row → Option (List Row)
unless_fault [] rows = Some rows
unless_fault (kind ∷ kinds) rows = None

-- The matches of the words, by the meaning that `clap` states for a simple command, or none if that
-- meaning refuses the words.
unfoldable pub understood : App → List Text → Option (List Row)
understood command words = unless_fault (fault_of command words) (matches_of command words)

-- whether a value comes from the words, and isn't a default
abbrev pub is_from_words : Option ValueSource → Bool
is_from_words (Some CommandLine) = true
is_from_words _ = false

-- Whether a flag is among the words.
unfoldable pub is_given : Text → List Row → Bool
is_given name rows =
    is_from_words
    (option_and_then (λ (row : Row). row.source)
    (find (λ (row : Row). bytes_eq row.id name) rows))

-- The value of an option, or the one word of a name.
unfoldable pub value_of : Text → List Row → Option Text
value_of name rows = first_of name rows

-- The words of a name.
unfoldable pub words_of : Text → List Row → List Text
words_of name rows = unwrap_or (all_of name rows) []

-- Whether a text may be a kernel's version, which names a folder of modules: it has no `/`.
abbrev pub is_version : Text → Bool
is_version text = not (list_any (λ b. b == 47) text)
