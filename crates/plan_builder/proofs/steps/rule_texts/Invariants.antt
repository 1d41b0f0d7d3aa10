use Rattle.std.proofs.Common.{◌≡◌, Bor, take}
use Rattle.std.specs.List.{flat_map}
use Rattle.modprobe_conf.specs.declared.rule.Rule.{Rule}
use Rattle.plan_builder.specs.Steps.{rule_options}
use Rattle.plan_builder.specs.Tables.{byte_texts}
use Rattle.plan_builder.proofs.steps.rule_texts.Given as goal

abbrev pub invariant-loop-rule : goal.invariant-loop-rule
invariant-loop-rule l =
    byte_texts l.texts.items
    ≡ flat_map (λ (r : Bor Rule). rule_options l.name r.now) (take l.rule-index l.own)
