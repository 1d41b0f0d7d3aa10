-- The texts of faults, as they are in a line on standard error.
use Rattle.std.specs.Prelude.{ℕ, List, ◌++◌, codes}
use Rattle.elf_object.specs.declared.fault.ObjectFault.{ObjectFault}
use Rattle.elf_object.specs.declared.fault.ObjectFault.TheVariants.{Memory as ObjectMemory}
use Rattle.elf_object.specs.FaultText.{object_fault_text}
use Rattle.module_facts.specs.declared.fault.ModuleFault.{ModuleFault}
use Rattle.module_facts.specs.declared.fault.ModuleFault.TheVariants.{Compressed, Object}
use Rattle.module_facts.specs.declared.fault.ModuleFault.TheVariants.{NameTooLong, BadName}
use Rattle.module_facts.specs.declared.fault.ModuleFault.TheVariants.{ExportTwice, ExportUndefined}
use Rattle.module_facts.specs.declared.fault.ModuleFault.TheVariants.{BadVersions, BadNamespace}
use Rattle.module_facts.specs.declared.fault.ModuleFault.TheVariants.{Memory}

-- The text of a fault of a module.
abbrev pub module_fault_text : ModuleFault → List ℕ
module_fault_text Compressed = codes "compressed"
module_fault_text (Object fault) = object_fault_text fault
module_fault_text NameTooLong = codes "name too long"
module_fault_text BadName = codes "bad name"
module_fault_text (ExportTwice name) = codes "export " ++ name ++ codes " twice"
module_fault_text (ExportUndefined name) = codes "export " ++ name ++ codes " undefined"
module_fault_text BadVersions = codes "bad versions"
module_fault_text (BadNamespace name) = codes "bad namespace of " ++ name
module_fault_text Memory = codes "out of memory"

-- A fault of the object as one of the module.
abbrev pub module_fault_from : ObjectFault → ModuleFault
module_fault_from ObjectMemory = Memory
module_fault_from fault = Object fault
