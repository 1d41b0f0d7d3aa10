-- What the words of `trial` ask for, this project's own command.
use Rattle.std.specs.Prelude.{ℕ, ◌&&◌, List, [], ◌∷◌, Option, Some, None, if◌then◌else◌}
use Rattle.std.specs.Prelude.{option_and_then, codes, nat_le}
use Rattle.clap.specs.Words.{App, Row, Text}
use Rattle.kmod_words.specs.Arguments.{command, word}
use Rattle.kmod_words.specs.Numbers.{decimal}
use Rattle.kmod_words.specs.Understood.{understood, value_of}
use Rattle.kmod_words.specs.declared.trial.TrialWords.{TrialWords}

-- The words of `trial`.
unfoldable pub trial_command : App
trial_command = command (codes "trial") (word (codes "seed") ∷ word (codes "count") ∷ [])

-- The number that the word of a name states in at most this many digits.
abbrev pub number_of : ℕ → Text → List Row → Option ℕ
number_of most name rows = option_and_then (decimal most) (value_of name rows)

-- What the matches ask for: a seed of at most 20 digits, and 1 to 2000 modules, in at most 4
-- digits.
unfoldable pub trial_asked : List Row → Option TrialWords
trial_asked rows = option_and_then (λ seed. option_and_then (λ count.
    if nat_le 1 count && nat_le count 2000
    then Some (record { seed = seed; count = count })
    else None)
    (number_of 4 (codes "count") rows))
    (number_of 20 (codes "seed") rows)

-- What the words ask `trial` for, or nothing if they aren't understood.
abbrev pub trial_request : List Text → Option TrialWords
trial_request words = option_and_then trial_asked (understood trial_command words)
