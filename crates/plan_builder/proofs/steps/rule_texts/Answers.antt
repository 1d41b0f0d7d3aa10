use Rattle.std.proofs.Common.{Bor, ap, ◌∙◌, arith}
use Rattle.std.specs.List.{flat_map}
use Rattle.std.proofs.lemmas.List.{take_all}
use Rattle.modprobe_conf.specs.declared.rule.Rule.{Rule}
use Rattle.plan_builder.specs.Steps.{rule_options}
use Rattle.plan_builder.proofs.OptionLaws.{options-of-own}
use Rattle.plan_builder.proofs.steps.rule_texts.Goals as goal

pub returns : goal.returns
returns c =
    let name = c.args.name.now in
    c.loop-rule.invariant
    ∙ ap (flat_map (λ (r : Bor Rule). rule_options name r.now))
    (take_all c.loop-rule.rule-index c.on-own.result.now
    (omega (arith, c.loop-rule-test.false)))
    ∙ options-of-own name c.args.rules.now c.on-own.result.now c.on-own.ensures
