-- Addresses that are added to a kernel's table.
use Rattle.std.proofs.Common.{◌≡◌, ◌∙◌, ℕ, List, [], ◌∷◌, map, Option, Some, None, refl, sym, ap}
use Rattle.std.specs.Prelude.{Ok}
use Rattle.km_names.specs.Statements.{unless_fault}
use Rattle.symbol_binding.specs.Symbols.{Kernel as SeenKernel}
use Rattle.kernel_exports.specs.declared.kernel.KernelExport.{KernelExport}
use Rattle.kernel_exports.specs.KernelTable.{exports_with_addresses, with_addresses}
use Rattle.provider_rel.specs.Faces.{seen_export}
use Rattle.kernel_exports.specs.MapLines.{MapSymbol, map_line}
use Rattle.kernel_exports.specs.TableLines.{stated, refused_line}
use Rattle.laws_closed_plans.specs.Binding.{AddressesAreUnseen}

seen-same : (symbols : List MapSymbol) (es : List KernelExport)
    → map seen_export (with_addresses symbols es) ≡ map seen_export es
seen-same symbols [] = refl
seen-same symbols (e ∷ es) = ap (λ rest. seen_export e ∷ rest) (seen-same symbols es)

made : (fault : Option ℕ) (es more : List KernelExport) → unless_fault fault es ≡ Ok more
    → more ≡ es
made None es more is = let same : es ≡ more = cc in sym same
made (Some f) es more is = absurd cc

pub addresses-are-unseen : AddressesAreUnseen
unfolding exports_with_addresses
addresses-are-unseen kernel addressed bytes known is =
    let symbols = stated map_line bytes in
    let exports : map seen_export addressed.exports ≡ map seen_export kernel.exports =
    ap (map seen_export)
    (made (refused_line map_line bytes) (with_addresses symbols kernel.exports)
    addressed.exports is)
    ∙ seen-same symbols kernel.exports in
    ap (λ b. let k : SeenKernel
    = record { known = b; exports = map seen_export addressed.exports } in k) known
    ∙ ap (λ es. let k : SeenKernel = record { known = kernel.known; exports = es } in k) exports
