-- The arguments of the code as `clap` reads them. No public meaning rests on this definition.
use Rattle.std.specs.Prelude.{◌∷◌, []}
use Rattle.clap.specs.Words.{Rule}
use Rattle.kmod_words.specs.Arguments.{flag, lettered, required, valued, word, words}
use Rattle.kmod_words.specs.declared.arguments.Argument.{Argument}
use Rattle.kmod_words.specs.declared.arguments.Argument.TheVariants.{Flag, FlagByName, Valued}
use Rattle.kmod_words.specs.declared.arguments.Argument.TheVariants.{ValuedByName, ValuedByLetter}
use Rattle.kmod_words.specs.declared.arguments.Argument.TheVariants.{RequiredByLetter, Required}
use Rattle.kmod_words.specs.declared.arguments.Argument.TheVariants.{Word, Words}

abbrev pub rule_for : Argument → Rule
rule_for (Flag letter name) = flag (letter ∷ []) name.now
rule_for (FlagByName name) = flag [] name.now
rule_for (Valued letter name) = valued (letter ∷ []) name.now
rule_for (ValuedByName name) = valued [] name.now
rule_for (ValuedByLetter letter name) = lettered (letter ∷ []) name.now
rule_for (RequiredByLetter letter name) = required (lettered (letter ∷ []) name.now)
rule_for (Required letter name) = required (valued (letter ∷ []) name.now)
rule_for (Word name) = word name.now
rule_for (Words name) = words name.now
