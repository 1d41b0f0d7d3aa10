use Rattle.std.proofs.Common.{refl}
use Rattle.param_apply.proofs.MarkLemmas.{mark-none}
use Rattle.param_apply.proofs.taken.mark.Goals as goal

pub loop-x-init : goal.loop-x-init
loop-x-init c = record { same = refl; marked = λ y less. mark-none _ _ y }
