use Rattle.std.proofs.Common.{refl, ◌≡◌, sym, ap, ◌∙◌}
use Rattle.std.specs.Prelude.{map, codes}
use Rattle.km_names.specs.Path.{underscored}
use Rattle.km_names.specs.Space.{first_word, rest_after_word, words}
use Rattle.modprobe_conf.proofs.RuleSteps.{empty-at, nonempty-at}
use Rattle.modprobe_conf.specs.Rules.{softdep_rule, words_after}
use Rattle.modprobe_conf.proofs.rule.softdep_rule.Goals as goal

pub returns-then-is_empty : goal.returns-then-is_empty
unfolding softdep_rule
returns-then-is_empty c =
    empty-at _ _ _ c.split_word.ensures.rest (sym c.if-is_empty.true ∙ c.is_empty.ensures)

pub returns : goal.returns
unfolding softdep_rule
returns c =
    let rest = c.args.rest.now in
    let list = c.split_word.ensures.rest in
    let name : c.in_ok-underscored.field-0 ≡ underscored (first_word rest)
    = c.in_ok-underscored.ensures ∙ ap underscored c.split_word.ensures.word in
    let pre : c.in_ok-names_after.field-0
    ≡ map underscored (words_after (codes "pre:") (words (rest_after_word rest)))
    = c.in_ok-names_after.ensures
    ∙ ap (λ t. map underscored (words_after (codes "pre:") (words t))) list in
    let post : c.in_ok-names_after-2.field-0
    ≡ map underscored (words_after (codes "post:") (words (rest_after_word rest)))
    = c.in_ok-names_after-2.ensures
    ∙ ap (λ t. map underscored (words_after (codes "post:") (words t))) list in
    nonempty-at _ _ _ _ list (sym c.if-is_empty.false ∙ c.is_empty.ensures)
    (rw (name, pre, post) refl)
