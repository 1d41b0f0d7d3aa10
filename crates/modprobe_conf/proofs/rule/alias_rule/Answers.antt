use Rattle.std.proofs.Common.{◌≡◌, sym, ap, ◌∙◌, Some}
use Rattle.std.specs.Option.{option_map}
use Rattle.km_names.specs.Path.{underscored}
use Rattle.km_names.specs.AliasForm.{normal_alias}
use Rattle.km_names.specs.Space.{first_word, rest_after_word}
use Rattle.modprobe_conf.specs.declared.rule.Rule.TheVariants.{Alias}
use Rattle.modprobe_conf.proofs.RuleSteps.{empty-at, nonempty-at}
use Rattle.modprobe_conf.specs.Rules.{alias_rule}
use Rattle.modprobe_conf.proofs.rule.alias_rule.Goals as goal

pub returns-then-is_empty : goal.returns-then-is_empty
unfolding alias_rule
returns-then-is_empty c =
    empty-at _ _ _ (c.split_word-2.ensures.word ∙ ap first_word c.split_word.ensures.rest)
    (sym c.if-is_empty.true ∙ c.is_empty.ensures)

pub returns-in_ok-underscored-in-Some : goal.returns-in_ok-underscored-in-Some
unfolding alias_rule
returns-in_ok-underscored-in-Some c =
    let rest = c.args.rest.now in
    let name : c.split_word-2.result.0.now ≡ first_word (rest_after_word rest)
    = c.split_word-2.ensures.word ∙ ap first_word c.split_word.ensures.rest in
    nonempty-at _ _ _ _ name (sym c.if-is_empty.false ∙ c.is_empty.ensures)
    (ap (λ n. Some (Alias c.in-Some.pattern n))
    (c.in_ok-underscored-in-Some.ensures ∙ ap underscored name)
    ∙ ap (option_map (λ pattern. Alias pattern (underscored (first_word (rest_after_word rest)))))
    (sym c.in-Some.is ∙ c.in_ok-pattern.ensures ∙ ap normal_alias c.split_word.ensures.word))

pub returns-in-None : goal.returns-in-None
unfolding alias_rule
returns-in-None c =
    let rest = c.args.rest.now in
    let name : c.split_word-2.result.0.now ≡ first_word (rest_after_word rest)
    = c.split_word-2.ensures.word ∙ ap first_word c.split_word.ensures.rest in
    nonempty-at _ _ _ _ name (sym c.if-is_empty.false ∙ c.is_empty.ensures)
    (ap (option_map (λ pattern. Alias pattern (underscored (first_word (rest_after_word rest)))))
    (sym c.in-None.is ∙ c.in_ok-pattern.ensures
    ∙ ap normal_alias c.split_word.ensures.word))
