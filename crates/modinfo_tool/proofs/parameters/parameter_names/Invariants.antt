use Rattle.std.proofs.Common.{◌≡◌, take}
use Rattle.modinfo_tool.specs.Parameters.{parameter_names}
use Rattle.modinfo_tool.proofs.parameters.parameter_names.Given as goal

abbrev pub invariant-loop-i : goal.invariant-loop-i
invariant-loop-i l = l.names ≡ parameter_names (take l.i l.fields)
