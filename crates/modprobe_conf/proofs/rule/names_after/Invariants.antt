use Rattle.std.proofs.Common.{◌≡◌, ◌++◌, false, length}
use Rattle.km_names.specs.Space.{words}
use Rattle.modprobe_conf.proofs.RuleSteps.{names_from}
use Rattle.modprobe_conf.proofs.rule.names_after.Given as goal

abbrev pub invariant-loop-marker : goal.invariant-loop-marker
invariant-loop-marker l =
    l.names ++ names_from l.marker l.belongs (words l.rest)
    ≡ names_from l.marker false (words l.text)

abbrev pub decreases-loop-marker : goal.decreases-loop-marker
decreases-loop-marker l = length l.rest
