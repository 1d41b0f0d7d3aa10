-- The kernel of a table that was read: its exports are the exports of the table.
use Rattle.std.proofs.Common.{◌≡◌, ℕ, List, ap, subst}
use Rattle.std.specs.Prelude.{Option, Some, None, Ok, map}
use Rattle.std.specs.List.{filter_map}
use Rattle.km_names.specs.Statements.{unless_fault}
use Rattle.kernel_exports.specs.declared.kernel.KernelExport.{KernelExport}
use Rattle.provider_rel.specs.Faces.{kernel_of, seen_export}
use Rattle.kernel_exports.specs.KernelTable.{IsTable, first_of_each, with_addresses, export_of_line}
use Rattle.kernel_exports.specs.KernelTable.{export_of_symbol, exports_of_map, exports_of_symvers}
use Rattle.kernel_exports.specs.KernelTable.{exports_with_addresses}
use Rattle.kernel_exports.specs.MapLines.{map_line}
use Rattle.kernel_exports.specs.SymversLines.{symvers_line}
use Rattle.kernel_exports.specs.TableLines.{refused_line, stated}
use Rattle.kernel_exports.proofs.ExportSteps.{addresses-apart}
use Rattle.stages_files.specs.KernelTable.{Table, seen_kernel}
use Rattle.kernel_exports.proofs.FirstSteps.{firsts-apart}
use Rattle.stages_loads.specs.Tables.{kernel_with}
use Rattle.stages_loads.proofs.TableSteps.{firsts-same}

-- what is stated where nothing is refused
unless-ok : (o : Option ℕ) (es stated_es : List KernelExport) → unless_fault o es ≡ Ok stated_es
    → es ≡ stated_es
unless-ok None es stated_es is = cc
unless-ok (Some fault) es stated_es is = cc

-- the exports that a Module.symvers states have a name each
pub symvers-apart : (bytes : List ℕ) (es : List KernelExport) → exports_of_symvers bytes ≡ Ok es
    → IsTable es
unfolding exports_of_symvers
symvers-apart bytes es is =
    let firsts = filter_map export_of_line (stated symvers_line bytes) in
    subst IsTable (unless-ok (refused_line symvers_line bytes) (first_of_each firsts) es is)
    (record { distinct = firsts-apart firsts })

-- and so do those of a System.map
pub map-apart : (bytes : List ℕ) (es : List KernelExport) → exports_of_map bytes ≡ Ok es
    → IsTable es
unfolding exports_of_map
map-apart bytes es is =
    let symbols = stated map_line bytes in
    let firsts = filter_map export_of_symbol symbols in
    subst IsTable
    (unless-ok (refused_line map_line bytes) (with_addresses symbols (first_of_each firsts)) es
    is)
    (addresses-apart symbols (first_of_each firsts) (record { distinct = firsts-apart firsts }))

-- addresses change no name
pub addressed-apart : (bytes : List ℕ) (exports es : List KernelExport) → IsTable exports
    → exports_with_addresses bytes exports ≡ Ok es → IsTable es
unfolding exports_with_addresses
addressed-apart bytes exports es apart is =
    subst IsTable
    (unless-ok (refused_line map_line bytes) (with_addresses (stated map_line bytes) exports) es
    is) (addresses-apart (stated map_line bytes) exports apart)

-- the kernel of such a table has its exports
pub kernel_with-exports : (table : Table) → IsTable table.exports
    → (kernel_with table).exports ≡ table.exports
unfolding kernel_with
kernel_with-exports table apart = firsts-same table.exports apart

-- and is seen as the table is
pub kernel_with-seen : (table : Table) → IsTable table.exports
    → kernel_of (kernel_with table) ≡ seen_kernel table
unfolding kernel_with
kernel_with-seen table apart =
    ap (λ es. record { known = table.known; exports = map seen_export es })
    (firsts-same table.exports apart)
