-- The texts of the faults of parameters, as they follow the name of the module in a line on
-- standard error.
use Rattle.std.specs.Prelude.{ℕ, List, ◌++◌, codes}
use Rattle.std.specs.Fmt.{decimal}
use Rattle.param_apply.specs.declared.fault.ParamFault.{ParamFault}
use Rattle.param_apply.specs.declared.fault.ParamFault.TheVariants.{BadParamTable, UnknownParamType}
use Rattle.param_apply.specs.declared.fault.ParamFault.TheVariants.{BadValue, BadParamPlace, Memory}

-- The text of a fault of parameters.
abbrev pub param_fault_text : ParamFault → List ℕ
param_fault_text (BadParamTable entry) = codes "bad parameter table at entry " ++ decimal entry
param_fault_text (UnknownParamType name) = codes "unknown type of " ++ name
param_fault_text (BadValue name) = codes "bad value of " ++ name
param_fault_text (BadParamPlace name) = codes "bad place of " ++ name
param_fault_text Memory = codes "out of memory"
