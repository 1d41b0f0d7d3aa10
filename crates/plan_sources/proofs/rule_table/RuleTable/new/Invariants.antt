use Rattle.std.proofs.Common.{take}
use Rattle.plan_sources.specs.Kept.{IsGrouped}
use Rattle.plan_sources.proofs.rule_table.RuleTable.new.Given as goal

abbrev pub invariant-loop-rule : goal.invariant-loop-rule
invariant-loop-rule l = IsGrouped l.groups (take l.rule-index l.rules)
