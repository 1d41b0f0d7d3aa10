use Rattle.param_apply.specs.Naming.{parameters_of}
use Rattle.param_apply.specs.Writing.{IsWritten}
use Rattle.param_apply.proofs.written.written.Given as goal

abbrev pub invariant-loop-setting : goal.invariant-loop-setting
invariant-loop-setting l =
    IsWritten l.image l.copy l.claims l.object (parameters_of l.params) l.settings l.setting-index
