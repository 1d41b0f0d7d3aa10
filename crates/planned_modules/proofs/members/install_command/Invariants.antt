use Rattle.std.proofs.Common.{◌≡◌, Bor, take, map, None}
use Rattle.km_names.specs.First.{first}
use Rattle.modprobe_conf.specs.declared.rule.Rule.{Rule}
use Rattle.planned_modules.specs.Members.{command_of}
use Rattle.planned_modules.proofs.members.install_command.Given as goal

abbrev pub invariant-loop-rule : goal.invariant-loop-rule
invariant-loop-rule l =
    first (map (λ (r : Bor Rule). command_of l.name r.now) (take l.rule-index l.own)) ≡ None
