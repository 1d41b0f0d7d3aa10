-- Why a module can't be loaded because of the names that it has, needs and exports. These are the
-- first six tests of a load, over what is seen of a kernel and of the loaded modules. The kernel's
-- resolve_symbol and verify_exported_symbols, kernel/module/main.c.
use Rattle.std.specs.Prelude.{ℕ, Bool, List, [], ◌∷◌, ◌++◌, map, find, Option, option_map}
use Rattle.std.specs.List.{list_any}
use Rattle.std.specs.Str.{bytes_eq}
use Rattle.km_names.specs.First.{first}
use Rattle.symbol_binding.specs.Symbols.{Export, Face, Kernel}
use Rattle.symbol_binding.specs.Provider.{Owner, ByKernel, ByModule, Provided, export_under}
use Rattle.symbol_binding.specs.Provider.{of_kernel, of_first, face_exports}
use Rattle.symbol_binding.specs.Needs.{NeedTest, is_missing, is_hidden, is_other_version, is_barred}
use Rattle.symbol_binding.specs.Unmet.{vmlinux}
use Rattle.elf_sections.specs.Shape.{fault_if}
use Rattle.load_fault.specs.declared.fault.LoadFault.{LoadFault}
use Rattle.load_fault.specs.declared.fault.LoadFault.TheVariants.{AlreadyLoaded, MissingSymbol}
use Rattle.load_fault.specs.declared.fault.LoadFault.TheVariants.{GplOnly, VersionDiffers}
use Rattle.load_fault.specs.declared.fault.LoadFault.TheVariants.{NotImported, ExportTaken}

-- What is seen of the table of a machine: what a name is bound to if these modules are loaded,
-- oldest first.
abbrev pub seen_table : Kernel → List Face → List ℕ → Option (Provided Face)
seen_table kernel loaded x = first (of_kernel kernel x ∷ of_first face_exports loaded x ∷ [])

-- Whether a module of this name is in the list.
abbrev pub is_named : List Face → List ℕ → Bool
is_named ms name = list_any (λ m. bytes_eq m.name name) ms

-- The owner of an export in a refusal.
abbrev pub owner_name : Owner Face → List ℕ
owner_name ByKernel = vmlinux
owner_name (ByModule m) = m.name

-- The test that no need of a module fails the test of needs.
abbrev pub need_fault : Kernel → List Face → Face → NeedTest → (List ℕ → LoadFault)
    → Option LoadFault
need_fault kernel loaded m test fault =
    option_map (λ n. fault n.name)
    (find (λ n. test (export_under (seen_table kernel loaded n.name)) m n) m.needs)

-- The test that the name of an export isn't bound yet.
abbrev pub export_fault : Kernel → List Face → Export → Option LoadFault
export_fault kernel loaded e =
    option_map (λ p. ExportTaken e.name (owner_name p.owner)) (seen_table kernel loaded e.name)

-- The first of the six tests of its names that a module fails, if these modules are loaded, oldest
-- first.
unfoldable pub name_fault : Kernel → List Face → Face → Option LoadFault
name_fault kernel loaded m =
    first (
    fault_if (is_named loaded m.name) AlreadyLoaded
    ∷ need_fault kernel loaded m is_missing MissingSymbol
    ∷ need_fault kernel loaded m is_hidden GplOnly
    ∷ need_fault kernel loaded m is_other_version VersionDiffers
    ∷ need_fault kernel loaded m is_barred NotImported
    ∷ first (map (export_fault kernel loaded) m.exports)
    ∷ [])

-- The first fault of modules that are loaded one after the other.
abbrev pub first_name_fault : Kernel → List Face → List Face → Option LoadFault
first_name_fault kernel loaded [] = first []
first_name_fault kernel loaded (m ∷ ms) =
    first (name_fault kernel loaded m ∷ first_name_fault kernel (loaded ++ m ∷ []) ms ∷ [])
