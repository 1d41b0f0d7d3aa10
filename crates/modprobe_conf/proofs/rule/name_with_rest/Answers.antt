use Rattle.std.proofs.Common.{sym, ap, ◌∙◌, Some}
use Rattle.km_names.specs.Path.{underscored}
use Rattle.km_names.specs.Space.{first_word}
use Rattle.modprobe_conf.proofs.RuleSteps.{empty-at, nonempty-at}
use Rattle.modprobe_conf.specs.Rules.{name_with_rest}
use Rattle.modprobe_conf.proofs.rule.name_with_rest.Goals as goal

pub returns-then-is_empty : goal.returns-then-is_empty
unfolding name_with_rest
returns-then-is_empty c =
    empty-at _ _ _ c.split_word.ensures.rest (sym c.if-is_empty.true ∙ c.is_empty.ensures)

pub returns : goal.returns
unfolding name_with_rest
returns c =
    nonempty-at _ _ _ _ c.split_word.ensures.rest (sym c.if-is_empty.false ∙ c.is_empty.ensures)
    (ap (λ name. Some (record { name = name; text = c.in_ok-from_slice.field-0 }))
    (c.in_ok-underscored.ensures ∙ ap underscored c.split_word.ensures.word)
    ∙ ap (λ text. Some (record { name = underscored (first_word c.args.rest.now); text = text }))
    (c.in_ok-from_slice.ensures ∙ c.split_word.ensures.rest))
