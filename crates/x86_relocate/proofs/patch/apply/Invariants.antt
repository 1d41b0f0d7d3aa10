use Rattle.x86_relocate.proofs.Applied.{IsSoFar}
use Rattle.x86_relocate.proofs.patch.apply.Given as goal

abbrev pub invariant-loop-patch : goal.invariant-loop-patch
invariant-loop-patch l = IsSoFar l.initial.image l.image l.patches l.patch-index
