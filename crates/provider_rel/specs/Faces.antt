-- The facts of modules and the tables of kernels, as symbol binding sees them.
use Rattle.std.specs.Prelude.{List, map}
use Rattle.module_symbols.specs.declared.exports.Export.{Export as StatedExport}
use Rattle.module_symbols.specs.declared.needs.Need.{Need as StatedNeed}
use Rattle.module_facts.specs.declared.facts.Facts.{Facts}
use Rattle.symbol_binding.specs.Symbols.{Export, Need, Face, Module, Kernel as SeenKernel}
use Rattle.kernel_exports.specs.declared.kernel.KernelExport.{KernelExport}
use Rattle.kernel_exports.specs.declared.kernel.Kernel.{Kernel}

-- An export of a module, without the number of its symbol.
abbrev pub export_of_facts : StatedExport → Export
export_of_facts e = record { name = e.name; crc = e.crc; gpl = e.gpl; space = e.space }

-- A need of a module, without the number of its symbol.
abbrev pub need_of_facts : StatedNeed → Need
need_of_facts n = record { name = n.name; weak = n.weak; crc = n.crc }

-- The face of a module, by its facts.
abbrev pub face_of : Facts → Face
face_of f = record {
  name = f.name;
  exports = map export_of_facts f.exports;
  needs = map need_of_facts f.needs;
  free = f.free;
  imports = f.imports;
}

-- The module of some facts, at its path.
abbrev pub module_of : Facts → Module
module_of f = record { path = f.path; face = face_of f }

-- The modules of a tree, by their facts.
abbrev pub modules_of : List Facts → List Module
modules_of tree = map module_of tree

-- An export of a kernel, without its address.
abbrev pub seen_export : KernelExport → Export
seen_export e = record { name = e.name; crc = e.crc; gpl = e.gpl; space = e.space }

-- The kernel of a table, without addresses.
abbrev pub kernel_of : Kernel → SeenKernel
kernel_of kernel = record { known = kernel.known; exports = map seen_export kernel.exports }
