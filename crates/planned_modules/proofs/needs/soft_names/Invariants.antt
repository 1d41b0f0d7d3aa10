use Rattle.std.proofs.Common.{◌≡◌, Bor, take}
use Rattle.std.specs.List.{flat_map}
use Rattle.modprobe_conf.specs.declared.rule.Rule.{Rule}
use Rattle.planned_modules.specs.Kept.{names_on}
use Rattle.plan_sources.specs.Kept.{texts}
use Rattle.planned_modules.proofs.needs.soft_names.Given as goal

abbrev pub invariant-loop-rule : goal.invariant-loop-rule
invariant-loop-rule l =
    texts l.names.items
    ≡ flat_map (λ (r : Bor Rule). names_on l.side l.name r.now) (take l.rule-index l.own)
