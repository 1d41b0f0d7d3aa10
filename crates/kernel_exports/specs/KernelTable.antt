-- The exports of a kernel, by the tables that its build writes.
use Rattle.std.specs.Prelude.{ℕ, ◌≡◌, not, false, List, [], ◌∷◌, ◌++◌, AllPairs, map}
use Rattle.std.specs.Prelude.{filter, codes, Option, Some, None, option_map, Result, if◌then◌else◌}
use Rattle.std.specs.List.{filter_map, list_any}
use Rattle.std.specs.Option.{option_or}
use Rattle.std.specs.Str.{bytes_eq}
use Rattle.km_names.specs.Statements.{unless_fault}
use Rattle.km_names.specs.Prefix.{rest_after}
use Rattle.name_table.specs.NameTable.{Table, IsTableOf}
use Rattle.kernel_exports.specs.declared.kernel.KernelExport.{KernelExport}
use Rattle.kernel_exports.specs.TableLines.{refused_line, stated}
use Rattle.kernel_exports.specs.MapLines.{MapSymbol, map_line, address_of}
use Rattle.kernel_exports.specs.SymversLines.{SymversExport, symvers_line}

-- No two exports have one name.
pub record IsTable (exports : List KernelExport) : Type 0 where
  pub distinct : AllPairs (λ (a b : KernelExport). a.name ≡ b.name → ⊥) exports

-- The first export of each name.
abbrev pub first_of_each : List KernelExport → List KernelExport
first_of_each [] = []
first_of_each (e ∷ es) = e ∷ filter (λ other. not (bytes_eq other.name e.name)) (first_of_each es)

-- Exports with one more at the end, unless one has its name.
abbrev pub with_export : List KernelExport → KernelExport → List KernelExport
with_export es e = if list_any (λ other. bytes_eq other.name e.name) es then es else es ++ e ∷ []

-- What an export states for the table of names.
abbrev pub export_name : KernelExport → Option (List ℕ)
export_name e = Some e.name

-- No two exports have one name, and the table has their names.
pub record AreFirst (names : Table) (exports : List KernelExport) : Type 0 where
  pub named : IsTableOf names (map export_name exports)
  pub distinct : IsTable exports

-- An export with the address that symbols of a map state, or its own if they state none.
abbrev pub with_its_address : List MapSymbol → KernelExport → KernelExport
with_its_address symbols e = record e { address = option_or (address_of symbols e.name) e.address }

abbrev pub with_addresses : List MapSymbol → List KernelExport → List KernelExport
with_addresses symbols exports = map (with_its_address symbols) exports

-- The name that an entry is for: N if its own name is `__ksymtab_N`. The kernel's
-- include/linux/export.h.
abbrev pub exported_name : List ℕ → Option (List ℕ)
exported_name name = rest_after (codes "__ksymtab_") name

-- The export of an entry: it has no version, is for all modules, and is in no namespace.
abbrev pub export_of_entry : List ℕ → KernelExport
export_of_entry name = record { name = name; crc = None; address = None; gpl = false; space = [] }

-- The export that a symbol of a map is an entry for.
abbrev pub export_of_symbol : MapSymbol → Option KernelExport
export_of_symbol s = option_map export_of_entry (exported_name s.name)

-- The export that a line of Module.symvers states.
abbrev pub stated_export : SymversExport → KernelExport
stated_export l =
    record { name = l.name; crc = Some l.crc; address = None; gpl = l.gpl; space = l.space }

-- The export of a line whose owner is the kernel itself: the line has `vmlinux` as its owner.
abbrev pub export_of_line : SymversExport → Option KernelExport
export_of_line l = if bytes_eq l.owner (codes "vmlinux") then Some (stated_export l) else None

-- The exports that a System.map states, or the number of its first line that is refused.
unfoldable pub exports_of_map : List ℕ → Result (List KernelExport) ℕ
exports_of_map bytes =
    let symbols = stated map_line bytes in
    unless_fault (refused_line map_line bytes)
    (with_addresses symbols (first_of_each (filter_map export_of_symbol symbols)))

-- The exports that a Module.symvers states, or the number of its first line that is refused.
unfoldable pub exports_of_symvers : List ℕ → Result (List KernelExport) ℕ
exports_of_symvers bytes =
    unless_fault (refused_line symvers_line bytes)
    (first_of_each (filter_map export_of_line (stated symvers_line bytes)))

-- Exports with the addresses that a System.map states, or the number of its first line that is
-- refused.
unfoldable pub exports_with_addresses : List ℕ → List KernelExport → Result (List KernelExport) ℕ
exports_with_addresses bytes exports =
    unless_fault (refused_line map_line bytes) (with_addresses (stated map_line bytes) exports)
