-- The arguments of a command, one more at a time.
use Rattle.std.proofs.Common.{◌≡◌, ℕ, ◌+◌, ◌<◌, List, [], ◌∷◌, ◌++◌, length, take, get_or, map}
use Rattle.std.proofs.Common.{refl, sym, ap, ◌∙◌}
use Rattle.std.proofs.lemmas.List.{take_more}
use Rattle.clap.specs.Words.{Text, with_rule}
use Rattle.kmod_words.specs.Arguments.{command}
use Rattle.kmod_words.specs.Rules.{rule_for}
use Rattle.kmod_words.specs.declared.arguments.Argument.{Argument}

rules-push : (arguments : List Argument) (argument : Argument)
    → map rule_for (arguments ++ argument ∷ []) ≡ map rule_for arguments ++ rule_for argument ∷ []
rules-push [] argument = refl
rules-push (a ∷ rest) argument = ap (λ rules. rule_for a ∷ rules) (rules-push rest argument)

-- the command with the next of its arguments
pub argument-added : (name : Text) (arguments : List Argument) (i : ℕ) (d : Argument)
    → i < length arguments
    → with_rule (command name (map rule_for (take i arguments))) (rule_for (get_or arguments i d))
    ≡ command name (map rule_for (take (i + 1) arguments))
argument-added name arguments i d within =
    ap (command name)
    (sym (rules-push (take i arguments) (get_or arguments i d))
    ∙ sym (ap (map rule_for) (take_more arguments i d within)))
