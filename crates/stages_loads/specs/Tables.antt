-- The machine that a kernel's tables make: its exports at their addresses, and no module. nm(1);
-- the kernel's Documentation/kbuild/modules.rst, "Module.symvers".
use Rattle.std.specs.Prelude.{ℕ, true, List, find, Option, is_none, Some, None}
use Rattle.std.specs.List.{filter_map}
use Rattle.kernel_exports.specs.declared.kernel.Kernel.{Kernel}
use Rattle.kernel_exports.specs.declared.kernel.KernelExport.{KernelExport}
use Rattle.kernel_exports.specs.KernelTable.{first_of_each, export_of_symbol, exports_of_map}
use Rattle.kernel_exports.specs.KernelTable.{exports_with_addresses, with_addresses}
use Rattle.kernel_exports.specs.MapLines.{MapSymbol}
use Rattle.kernel_exports.proofs.FirstSteps.{firsts-apart}
use Rattle.module_region.specs.declared.region.Region.{Region}
use Rattle.model_loader.specs.Machine.{Machine, new_machine}
use Rattle.km_course.specs.Course.{Outcome, Stage, ◌>>=◌, given, reads}
use Rattle.km_course.specs.Course.Outcome.{value, end}
use Rattle.km_course.specs.declared.end.End.TheVariants.{Refused}
use Rattle.km_course.specs.declared.refusal.Refusal.TheVariants.{KernelWithoutAddress}
use Rattle.stages_files.specs.KernelTable.{Table, table_outcome, reads_map, reads_symvers}

-- The kernel of a table. A kernel exports each name once: of the exports of one name the first
-- counts.
unfoldable pub kernel_with : Table → Kernel
kernel_with table = record {
  known = table.known;
  exports = first_of_each table.exports;
  table = record { distinct = firsts-apart table.exports };
}

-- The first export without an address.
abbrev pub unplaced : List KernelExport → Option KernelExport
unplaced exports = find (λ e. is_none e.address) exports

-- What a table with this first export without an address results in: the machine of its kernel,
-- with no module, or the refusal of that export.
unfoldable pub machine_outcome : Table → Region → Option KernelExport → Outcome Machine
machine_outcome table region None = value (new_machine (kernel_with table) region)
machine_outcome table region (Some e) = end (Refused (KernelWithoutAddress e.name))

-- The table of a System.map with these symbols. It belongs to the code: no public meaning rests on
-- it.
abbrev pub table_of_map : List MapSymbol → Table
table_of_map symbols = record {
  known = true;
  exports = with_addresses symbols (first_of_each (filter_map export_of_symbol symbols));
}

-- The exports of a kernel at their addresses. If a Module.symvers is named, they are its exports,
-- and otherwise the System.map's. The System.map is read and understood before the Module.symvers
-- is read, and its addresses are added after.
abbrev pub reads_addressed : List ℕ → Option (List ℕ) → Stage Table
reads_addressed map None = reads_map map
reads_addressed map (Some symvers) = do
  bytes ← reads map
  alone ← given (table_outcome map true (exports_of_map bytes))
  exported ← reads_symvers symvers
  given (table_outcome map exported.known (exports_with_addresses bytes exported.exports))

-- The machine of a kernel, into whose region modules are to be loaded.
abbrev pub reads_machine : List ℕ → Option (List ℕ) → Region → Stage Machine
reads_machine map symvers region = do
  table ← reads_addressed map symvers
  given (machine_outcome table region (unplaced table.exports))
