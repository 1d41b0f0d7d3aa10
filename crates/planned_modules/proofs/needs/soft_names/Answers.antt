use Rattle.std.proofs.Common.{Bor, ap, ◌∙◌, arith}
use Rattle.std.specs.List.{flat_map}
use Rattle.std.proofs.lemmas.List.{take_all}
use Rattle.modprobe_conf.specs.declared.rule.Rule.{Rule}
use Rattle.planned_modules.specs.Kept.{names_on}
use Rattle.planned_modules.proofs.RuleLaws.{names-of-own}
use Rattle.planned_modules.proofs.needs.soft_names.Goals as goal

pub returns : goal.returns
returns c =
    let name = c.args.name.now in
    c.loop-rule.invariant
    ∙ ap (flat_map (λ (r : Bor Rule). names_on c.args.side name r.now))
    (take_all c.loop-rule.rule-index c.on-own.result.now
    (omega (arith, c.loop-rule-test.false)))
    ∙ names-of-own name c.args.rules.now c.on-own.result.now c.on-own.ensures c.args.side
