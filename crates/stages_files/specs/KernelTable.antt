-- The table of a kernel's exports, as the commands read it from a System.map or a Module.symvers.
-- depmod(8), `-F` and `-E`.
use Rattle.std.specs.Prelude.{ℕ, true, false, Bool, List, [], map, Option, Some, None, Result, Ok}
use Rattle.std.specs.Prelude.{Err}
use Rattle.symbol_binding.specs.Symbols.{Kernel as SeenKernel}
use Rattle.kernel_exports.specs.declared.fault.KernelFault.{KernelFault}
use Rattle.kernel_exports.specs.declared.fault.KernelFault.TheVariants.{BadKernelLine, Memory}
use Rattle.kernel_exports.specs.declared.kernel.Kernel.{Kernel}
use Rattle.kernel_exports.specs.declared.kernel.KernelExport.{KernelExport}
use Rattle.kernel_exports.specs.KernelTable.{exports_of_map, exports_of_symvers}
use Rattle.provider_rel.specs.Faces.{seen_export}
use Rattle.km_course.specs.Course.{Outcome, Stage, ◌>>=◌, given, gives, reads}
use Rattle.km_course.specs.Course.Outcome.{value, end}
use Rattle.km_course.specs.declared.end.End.TheVariants.{Refused}
use Rattle.km_course.specs.declared.stop.Stop.{Stop}
use Rattle.km_course.specs.declared.stop.Stop.TheVariants.{Ended, Memory as Wanting}
use Rattle.km_course.specs.declared.refusal.Refusal.TheVariants.{BadLine}

-- A kernel's table: whether its exports are known, and the exports.
pub record Table : Type 0 where
  pub known : Bool
  pub exports : List KernelExport

-- The table of a kernel.
abbrev pub table_of : Kernel → Table
table_of kernel = record { known = kernel.known; exports = kernel.exports }

-- The kernel of a table, as symbol binding sees it.
abbrev pub seen_kernel : Table → SeenKernel
seen_kernel table = record { known = table.known; exports = map seen_export table.exports }

-- The table of a kernel that isn't known.
abbrev pub unknown_table : Table
unknown_table = record { known = false; exports = [] }

-- The outcome of a file that states these exports, or whose first line that isn't understood has
-- this number: a table with the exports, which is known or isn't, or the refusal of the line.
unfoldable pub table_outcome : List ℕ → Bool → Result (List KernelExport) ℕ → Outcome Table
table_outcome file known (Ok exports) = value (record { known = known; exports = exports })
table_outcome file known (Err number) = end (Refused (BadLine file number))

-- The stop of a command for a fault of a file's table.
abbrev pub table_stop : List ℕ → KernelFault → Stop
table_stop file (BadKernelLine number) = Ended (Refused (BadLine file number))
table_stop file Memory = Wanting

-- The table of the System.map at the path, which is needed.
abbrev pub reads_map : List ℕ → Stage Table
reads_map file = do
  bytes ← reads file
  given (table_outcome file true (exports_of_map bytes))

-- The table of the Module.symvers at the path, which is needed.
abbrev pub reads_symvers : List ℕ → Stage Table
reads_symvers file = do
  bytes ← reads file
  given (table_outcome file true (exports_of_symvers bytes))

-- The table of a System.map or of a Module.symvers, if one of them is named. Otherwise the kernel
-- isn't known.
abbrev pub reads_kernel : Option (List ℕ) → Option (List ℕ) → Stage Table
reads_kernel (Some file) symvers = reads_map file
reads_kernel None (Some file) = reads_symvers file
reads_kernel None None = gives unknown_table
