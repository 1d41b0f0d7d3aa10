use Rattle.std.proofs.Common.{Bor, ap, sym, ◌∙◌, map, arith}
use Rattle.std.proofs.lemmas.List.{take_all}
use Rattle.km_names.specs.First.{first}
use Rattle.modprobe_conf.specs.declared.rule.Rule.{Rule}
use Rattle.planned_modules.specs.Members.{command_of}
use Rattle.planned_modules.proofs.Finds.{first-here, first-more}
use Rattle.planned_modules.proofs.RuleLaws.{command-of-own}
use Rattle.planned_modules.proofs.members.install_command.Goals as goal

pub returns-in-Some : goal.returns-in-Some
returns-in-Some c =
    let name = c.args.name.now in
    let own = c.on-own.result.now in
    sym (sym (command-of-own name c.args.rules.now own c.on-own.ensures)
    ∙ first-here (λ (r : Bor Rule). command_of name r.now) own c.loop-rule.rule-index
    c.rule-item.result c.in-Some.command.now c.loop-rule-test.true c.rule-item.is
    c.loop-rule.invariant (sym c.in-Some.ensures))

pub loop-rule-preserved : goal.loop-rule-preserved
loop-rule-preserved c =
    let name = c.args.name.now in
    let own = c.on-own.result.now in
    first-more (λ (r : Bor Rule). command_of name r.now) own c.loop-rule.rule-index
    c.rule-item.result c.loop-rule-test.true c.rule-item.is c.loop-rule.invariant
    (sym c.in_default.ensures)

pub returns : goal.returns
returns c =
    let name = c.args.name.now in
    let own = c.on-own.result.now in
    sym (sym (command-of-own name c.args.rules.now own c.on-own.ensures)
    ∙ ap (λ rs. first (map (λ (r : Bor Rule). command_of name r.now) rs))
    (sym (take_all c.loop-rule.rule-index own (omega (arith, c.loop-rule-test.false))))
    ∙ c.loop-rule.invariant)
