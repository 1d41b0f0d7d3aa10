-- The tests of the names of a module, by a table.
use Rattle.std.proofs.Common.{◌≡◌, ◌∙◌, ℕ, true, false, List, [], ◌∷◌, Some, None, refl, sym, ap}
use Rattle.std.proofs.Common.{map}
use Rattle.std.specs.Prelude.{option_map, unwrap_or}
use Rattle.std.specs.List.{list_any}
use Rattle.std.specs.Str.{bytes_eq}
use Rattle.km_names.specs.First.{first}
use Rattle.elf_sections.specs.Shape.{fault_if}
use Rattle.module_facts.specs.declared.facts.Facts.{Facts}
use Rattle.module_symbols.specs.declared.exports.Export.{Export}
use Rattle.symbol_binding.specs.Needs.{is_missing, is_hidden, is_other_version, is_barred}
use Rattle.symbol_binding.specs.Unmet.{vmlinux}
use Rattle.export_table.specs.declared.standing.Standing.{Standing}
use Rattle.export_table.specs.declared.standing.ExportTable.{ExportTable}
use Rattle.export_table.specs.NeedTests.{binding_tests, taken_by}
use Rattle.load_fault.specs.declared.fault.LoadFault.TheVariants.{AlreadyLoaded, MissingSymbol}
use Rattle.load_fault.specs.declared.fault.LoadFault.TheVariants.{GplOnly, VersionDiffers}
use Rattle.load_fault.specs.declared.fault.LoadFault.TheVariants.{NotImported, ExportTaken}
use Rattle.model_loader.specs.declared.entry.Entry.{Entry}
use Rattle.model_loader.specs.Machine.{Machine, is_loaded}
use Rattle.model_loader.specs.Standing.{Keeps}
use Rattle.model_loader.specs.Step.{need_test, taken_test}
use Rattle.model_loader.proofs.EntryLemmas.{map-same}
use Rattle.model_loader.proofs.StandingLemmas.{need_test-is}

pub named-is : (machine : Machine) (entries : List Entry) (name : List ℕ)
    → machine.entries ≡ entries
    → is_loaded machine name ≡ list_any (λ (e : Entry). bytes_eq e.loaded.name name) entries
named-is machine entries name are = ap (list_any (λ (e : Entry). bytes_eq e.loaded.name name)) are

pub exports-taken : (machine : Machine) (t : ExportTable) → Keeps t machine → (es : List Export)
    → map (taken_test machine) es ≡ map (taken_by t) es
exports-taken machine t keeps =
    map-same (taken_test machine) (taken_by t)
    (λ e. ap (option_map (λ (s : Standing). ExportTaken e.name (unwrap_or s.owner vmlinux)))
    (sym (keeps.at e.name)))

cons-same : {X : Type 0} (x y : X) (xs ys : List X) → x ≡ y → xs ≡ ys → x ∷ xs ≡ y ∷ ys
cons-same x y xs ys is same = ap (λ z. z ∷ xs) is ∙ ap (λ zs. y ∷ zs) same

-- The tests of the needs and exports of a module, over a machine whose names a table keeps.
pub bindings-same : (machine : Machine) (t : ExportTable) (f : Facts) → Keeps t machine
    → need_test machine f is_missing MissingSymbol
    ∷ need_test machine f is_hidden GplOnly
    ∷ need_test machine f is_other_version VersionDiffers
    ∷ need_test machine f is_barred NotImported
    ∷ first (map (taken_test machine) f.exports)
    ∷ []
    ≡ binding_tests t f
bindings-same machine t f keeps =
    cons-same _ _ _ _ (need_test-is machine t f is_missing MissingSymbol keeps)
    (cons-same _ _ _ _ (need_test-is machine t f is_hidden GplOnly keeps)
    (cons-same _ _ _ _ (need_test-is machine t f is_other_version VersionDiffers keeps)
    (cons-same _ _ _ _ (need_test-is machine t f is_barred NotImported keeps)
    (cons-same _ _ _ _ (ap first (exports-taken machine t keeps f.exports)) refl))))

pub not_named : (machine : Machine) (f : Facts) → is_loaded machine f.name ≡ false
    → fault_if (is_loaded machine f.name) AlreadyLoaded ≡ None
not_named machine f other = rw other refl

pub is_named-fault : (machine : Machine) (f : Facts) → is_loaded machine f.name ≡ true
    → fault_if (is_loaded machine f.name) AlreadyLoaded ≡ Some AlreadyLoaded
is_named-fault machine f is = rw is refl
