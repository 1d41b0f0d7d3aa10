use Rattle.std.proofs.Common.{◌++◌, [], ◌∷◌, ap, sym, ◌∙◌}
use Rattle.command_trial.specs.Words.{modprobe_options, modprobe_words}
use Rattle.command_trial.proofs.WordSteps.{words-more, words-none}
use Rattle.command_trial.proofs.words.modprobe_words.Goals as goal

pub loop-number-init : goal.loop-number-init
unfolding modprobe_options
loop-number-init c = c.in_ok-words.ensures ∙ sym words-none

pub loop-number-preserved : goal.loop-number-preserved
loop-number-preserved c =
    c.in_ok-push.ensures.ok
    ∙ ap (λ ws. ws ++ c.in_ok-module_name.field-0 ∷ []) c.loop-number.invariant
    ∙ ap (λ w. modprobe_words c.loop-number.number ++ w ∷ []) c.in_ok-module_name.ensures
    ∙ sym (words-more c.loop-number.number)
