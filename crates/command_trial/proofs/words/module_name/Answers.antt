use Rattle.std.proofs.Common.{◌≡◌, subst, ◌∙◌}
use Rattle.std.specs.Prelude.{IfOk}
use Rattle.command_trial.proofs.WordSteps.{digits-decimal}
use Rattle.command_trial.proofs.words.module_name.Goals as goal

pub returns : goal.returns
returns c =
    subst (λ text. IfOk c.from_text.result (λ word. word ≡ text))
    (c.as_str.ensures.value ∙ c.in_ok-name.ensures.ok ∙ digits-decimal c.args.number)
    c.from_text.ensures
