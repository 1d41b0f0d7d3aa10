use Rattle.std.proofs.Common.{refl, sym, ap, subst, ◌∙◌, ◌+◌, take, arith}
use Rattle.std.proofs.lemmas.List.{take_all}
use Rattle.plan_sources.specs.Kept.{IsGrouped}
use Rattle.plan_sources.specs.Rules.{shown_rules}
use Rattle.plan_sources.proofs.Groups.{grouped-more, grouped-same}
use Rattle.plan_sources.proofs.rule_table.RuleTable.new.Goals as goal
use Rattle.plan_sources.proofs.rule_table.RuleTable.new.Goals.{in-Some+in_ok-push, in_default}

pub loop-rule-init : goal.loop-rule-init
loop-rule-init c = λ name. ap shown_rules (c.new-groups.ensures name)

pub loop-rule-preserved : goal.loop-rule-preserved
loop-rule-preserved c =
    let rules = c.as_slice-rule-items.result.now in
    let i = c.loop-rule.rule-index in
    let old = c.loop-rule.groups in
    let is
    = subst (λ rs. IsGrouped old (take i rs)) (sym c.as_slice-rule-items.ensures)
    c.loop-rule.invariant in
    elim c.match-owner.branch [
      | in-Some+in_ok-push w ↦
          subst (λ t. IsGrouped t (take (i + 1) c.args.rules.now)) (sym w.groups-is)
          (subst (λ rs. IsGrouped w.push.new.self (take (i + 1) rs)) c.as_slice-rule-items.ensures
          (grouped-more old rules i c.rule-item.result is c.loop-rule-test.true c.rule-item.is
          w.push.new.self w.in-Some.name.now _ refl w.in-Some.ensures w.in_ok-push.ensures))
      | in_default w ↦
          subst (λ t. IsGrouped t (take (i + 1) c.args.rules.now)) (sym w.groups-is)
          (subst (λ rs. IsGrouped old (take (i + 1) rs)) c.as_slice-rule-items.ensures
          (grouped-same old rules i c.rule-item.result is c.loop-rule-test.true c.rule-item.is
          w.in_default.ensures))
    ]

pub invariant_of-result : goal.invariant_of-result
invariant_of-result c =
    subst (IsGrouped c.loop-rule.groups)
    (ap (take c.loop-rule.rule-index) (sym c.as_slice-rule-items.ensures)
    ∙ take_all c.loop-rule.rule-index c.as_slice-rule-items.result.now
    (omega (arith, c.loop-rule-test.false))
    ∙ c.as_slice-rule-items.ensures)
    c.loop-rule.invariant
