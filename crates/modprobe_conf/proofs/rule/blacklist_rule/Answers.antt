use Rattle.std.proofs.Common.{sym, ap, ◌∙◌, Some}
use Rattle.km_names.specs.Path.{underscored}
use Rattle.modprobe_conf.specs.declared.rule.Rule.TheVariants.{Blacklist}
use Rattle.modprobe_conf.proofs.RuleSteps.{empty-at, nonempty-at}
use Rattle.modprobe_conf.specs.Rules.{blacklist_rule}
use Rattle.modprobe_conf.proofs.rule.blacklist_rule.Goals as goal

pub returns-then-is_empty : goal.returns-then-is_empty
unfolding blacklist_rule
returns-then-is_empty c =
    empty-at _ _ _ c.split_word.ensures.word (sym c.if-is_empty.true ∙ c.is_empty.ensures)

pub returns : goal.returns
unfolding blacklist_rule
returns c =
    nonempty-at _ _ _ _ c.split_word.ensures.word (sym c.if-is_empty.false ∙ c.is_empty.ensures)
    (ap (λ name. Some (Blacklist name))
    (c.in_ok-underscored.ensures ∙ ap underscored c.split_word.ensures.word))
