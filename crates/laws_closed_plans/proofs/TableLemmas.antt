-- What is seen of a machine: its table, and the tests of the names of a module.
use Rattle.std.proofs.Common.{◌≡◌, ◌∙◌, inl, inr, ℕ, Bool, List, [], ◌∷◌, Option, Some, None, refl}
use Rattle.std.proofs.Common.{sym, ap, map}
use Rattle.std.specs.Prelude.{find, option_map, unwrap_or}
use Rattle.std.specs.Str.{bytes_eq}
use Rattle.std.proofs.lemmas.Bool.{cases_Bool}
use Rattle.std.proofs.lemmas.Option.{none-some}
use Rattle.km_names.specs.First.{first}
use Rattle.elf_sections.specs.Shape.{fault_if}
use Rattle.module_facts.specs.declared.facts.Facts.{Facts}
use Rattle.module_symbols.specs.declared.needs.Need.{Need as FactsNeed}
use Rattle.module_symbols.specs.declared.exports.Export.{Export as FactsExport}
use Rattle.symbol_binding.specs.Symbols.{Export, Need, Face, Kernel}
use Rattle.symbol_binding.specs.Provider.{Owner, ByKernel, ByModule, Provided, export_under, of_one}
use Rattle.symbol_binding.specs.Provider.{face_exports}
use Rattle.symbol_binding.specs.Needs.{NeedTest, is_missing, is_hidden, is_other_version, is_barred}
use Rattle.symbol_binding.specs.Unmet.{vmlinux}
use Rattle.kernel_exports.specs.declared.kernel.KernelExport.{KernelExport}
use Rattle.provider_rel.specs.Faces.{kernel_of, export_of_facts, seen_export}
use Rattle.export_table.specs.declared.placed.PlacedExport.{PlacedExport}
use Rattle.model_loader.specs.declared.entry.Entry.{Entry}
use Rattle.export_table.specs.declared.standing.Standing.{Standing}
use Rattle.load_fault.specs.declared.fault.LoadFault.{LoadFault}
use Rattle.load_fault.specs.declared.fault.LoadFault.TheVariants.{AlreadyLoaded, MissingSymbol}
use Rattle.load_fault.specs.declared.fault.LoadFault.TheVariants.{GplOnly, VersionDiffers}
use Rattle.load_fault.specs.declared.fault.LoadFault.TheVariants.{NotImported, ExportTaken}
use Rattle.model_loader.specs.Machine.{Machine, bound_export, entry_face, export_face, export_named}
use Rattle.model_loader.specs.Machine.{facts_face, facts_need, kernel_placed, standing}
use Rattle.model_loader.specs.Machine.{standing_export, table}
use Rattle.model_loader.specs.Step.{name_tests, need_test, taken_test}
use Rattle.model_loader.proofs.GapLemmas.{any-map}
use Rattle.model_loader.proofs.StandingLemmas.{find-map, find-same, same_name}
use Rattle.laws_closed_plans.specs.Names.{export_fault, name_fault, need_fault, owner_name}
use Rattle.laws_closed_plans.specs.Names.{seen_table}

-- the loaded modules and the kernel, as those who bind symbols see them
abbrev pub faces : Machine → List Face
faces machine = map entry_face machine.entries

abbrev pub machine_kernel : Machine → Kernel
machine_kernel machine = kernel_of machine.kernel

-- first answers that show the same
first-step : {X Y Z : Type 0} (f : X → Z) (g : Y → Z) (a : Option X) (b : Option Y)
    (xs : List (Option X)) (ys : List (Option Y))
    → option_map f a ≡ option_map g b → option_map f (first xs) ≡ option_map g (first ys)
    → option_map f (first (a ∷ xs)) ≡ option_map g (first (b ∷ ys))
first-step f g None None xs ys same later = later
first-step f g (Some x) (Some y) xs ys same later = same
first-step f g None (Some y) xs ys same later = absurd (none-some (g y) same)
first-step f g (Some x) None xs ys same later = absurd (none-some (f x) (sym same))

first-same : {E F X Y Z : Type 0} (f : X → Z) (g : Y → Z) (j : E → F) (h : F → Option X)
    (k : E → Option Y)
    → ((e : E) → option_map f (h (j e)) ≡ option_map g (k e)) → (es : List E)
    → option_map f (first (map h (map j es))) ≡ option_map g (first (map k es))
first-same f g j h k same [] = refl
first-same f g j h k same (e ∷ es) =
    first-step f g (h (j e)) (k e) (map h (map j es)) (map k es) (same e)
    (first-same f g j h k same es)

first-two : {X Y Z : Type 0} (f : X → Z) (g : Y → Z) (a b : Option X) (c d : Option Y)
    → option_map f a ≡ option_map g c → option_map f b ≡ option_map g d
    → option_map f (first (a ∷ b ∷ [])) ≡ option_map g (first (c ∷ d ∷ []))
first-two f g a b c d one other =
    first-step f g a c (b ∷ []) (d ∷ []) one (first-step f g b d [] [] other refl)

fused : {X Y Z : Type 0} (f : Y → Z) (g : X → Y) (o : Option X)
    → option_map f (option_map g o) ≡ option_map (λ x. f (g x)) o
fused f g None = refl
fused f g (Some x) = refl

-- the export of a name, as the table has it
named-export : (x : List ℕ) (owner : Option (List ℕ)) (xs : List PlacedExport)
    → option_map export_face (export_named x xs)
    ≡ option_map (standing_export x) (option_map (standing owner) (export_named x xs))
named-export x owner [] = refl
named-export x owner (y ∷ ys) =
    elim (cases_Bool (bytes_eq y.name x)) [
      | inl is ↦
          let name : y.name ≡ x = same_name y.name x is in
          rw is
          (ap (λ n. Some (record { name = n; crc = y.crc; gpl = y.gpl; space = y.space })) name)
      | inr other ↦ rw other (named-export x owner ys)
    ]

module _ (x : List ℕ) (owner : Owner Face) (name : Option (List ℕ)) where
  abbrev with_owner : Export → Provided Face
  with_owner e = record { owner = owner; export = e }

  -- what the owner provides, and what the table has of its export
  abbrev provides : List PlacedExport → Option (Provided Face)
  provides exports
      = option_map with_owner (find (λ (e : Export). bytes_eq e.name x) (map export_face exports))

  abbrev has : List PlacedExport → Option Standing
  has exports = option_map (standing name) (export_named x exports)

  provides-is : (exports : List PlacedExport)
      → provides exports ≡ option_map with_owner (option_map export_face (export_named x exports))
  provides-is exports
      = ap (option_map with_owner)
      (find-map (λ (e : Export). bytes_eq e.name x) export_face exports)

  export-provided : (exports : List PlacedExport)
      → option_map (λ (p : Provided Face). p.export) (provides exports)
      ≡ option_map (standing_export x) (has exports)
  export-provided exports =
      ap (option_map (λ (p : Provided Face). p.export)) (provides-is exports)
      ∙ fused (λ (p : Provided Face). p.export) with_owner
      (option_map export_face (export_named x exports))
      ∙ fused (λ (e : Export). e) export_face (export_named x exports)
      ∙ named-export x name exports

  owner-provided : owner_name owner ≡ unwrap_or name vmlinux → (exports : List PlacedExport)
      → option_map (λ (p : Provided Face). owner_name p.owner) (provides exports)
      ≡ option_map (λ (s : Standing). unwrap_or s.owner vmlinux) (has exports)
  owner-provided is exports
      = ap (option_map (λ (p : Provided Face). owner_name p.owner)) (provides-is exports)
      ∙ owners (export_named x exports)
    where
      owners : (o : Option PlacedExport)
          → option_map (λ (p : Provided Face). owner_name p.owner)
          (option_map with_owner (option_map export_face o))
          ≡ option_map (λ (s : Standing). unwrap_or s.owner vmlinux)
          (option_map (standing name) o)
      owners None = refl
      owners (Some e) = ap Some is

kernel-faces : (es : List KernelExport)
    → map seen_export es ≡ map export_face (map kernel_placed es)
kernel-faces [] = refl
kernel-faces (e ∷ es) = ap (λ rest. seen_export e ∷ rest) (kernel-faces es)

-- what is seen of the table of a machine
module _ (machine : Machine) (x : List ℕ) where
  abbrev here : Option (Provided Face)
  here = seen_table (machine_kernel machine) (faces machine) x

  abbrev kernel_provides : List Export → Option (Provided Face)
  kernel_provides es
      = option_map (with_owner x ByKernel None) (find (λ (e : Export). bytes_eq e.name x) es)

  seen-by : {Z : Type 0} (f : Provided Face → Z) (g : Standing → Z)
      → ((owner : Owner Face) (name : Option (List ℕ)) → owner_name owner ≡ unwrap_or name vmlinux
      → (exports : List PlacedExport)
      → option_map f (provides x owner name exports)
      ≡ option_map g (has x owner name exports))
      → option_map f here ≡ option_map g (table machine x)
  unfolding table
  seen-by f g same =
      first-two f g _ _ _ _
      (ap (λ es. option_map f (kernel_provides es)) (kernel-faces machine.kernel.exports)
      ∙ same ByKernel None refl (map kernel_placed machine.kernel.exports))
      (first-same f g entry_face (of_one face_exports x)
      (λ (e : Entry). option_map (standing (Some e.loaded.name)) (export_named x e.exports))
      (λ e. same (ByModule (entry_face e)) (Some e.loaded.name) refl e.exports) machine.entries)

  export-seen : export_under here ≡ bound_export machine x
  export-seen =
      seen-by (λ (p : Provided Face). p.export) (standing_export x)
      (λ owner name is exports. export-provided x owner name exports)

  owner-seen : option_map (λ (p : Provided Face). owner_name p.owner) here
      ≡ option_map (λ (s : Standing). unwrap_or s.owner vmlinux) (table machine x)
  owner-seen =
      seen-by (λ (p : Provided Face). owner_name p.owner)
      (λ (s : Standing). unwrap_or s.owner vmlinux)
      (λ owner name is exports. owner-provided x owner name is exports)

both : {X : Type 0} {x y : X} {xs ys : List X} → x ≡ y → xs ≡ ys → x ∷ xs ≡ y ∷ ys
both {x = x} {y = y} {xs = xs} {ys = ys} one rest = ap (λ z. z ∷ xs) one ∙ ap (λ zs. y ∷ zs) rest

-- the tests of the names of a module are those of what is seen of it
module _ (machine : Machine) (f : Facts) where
  need-seen : (test : NeedTest) (fault : List ℕ → LoadFault)
      → need_test machine f test fault
      ≡ need_fault (machine_kernel machine) (faces machine) (facts_face f) test fault
  need-seen test fault =
      let seen : Need → Bool
      = λ n. test (export_under (seen_table (machine_kernel machine) (faces machine) n.name))
      (facts_face f) n in
      sym
      (ap (option_map (λ (n : Need). fault n.name))
      (find-map seen facts_need f.needs
      ∙ ap (option_map facts_need)
      (find-same (λ n. seen (facts_need n))
      (λ (n : FactsNeed). test (bound_export machine n.name) (facts_face f) (facts_need n))
      (λ n. ap (λ o. test o (facts_face f) (facts_need n)) (export-seen machine n.name))
      f.needs))
      ∙ fused (λ (n : Need). fault n.name) facts_need
      (find
      (λ (n : FactsNeed). test (bound_export machine n.name) (facts_face f) (facts_need n))
      f.needs))

  taken-seen : (e : FactsExport)
      → taken_test machine e
      ≡ export_fault (machine_kernel machine) (faces machine) (export_of_facts e)
  taken-seen e =
      sym
      (sym (fused (ExportTaken e.name) (λ (p : Provided Face). owner_name p.owner)
      (here machine e.name))
      ∙ ap (option_map (ExportTaken e.name)) (owner-seen machine e.name)
      ∙ fused (ExportTaken e.name) (λ (s : Standing). unwrap_or s.owner vmlinux)
      (table machine e.name))

  all-seen : (es : List FactsExport)
      → map (taken_test machine) es
      ≡ map (export_fault (machine_kernel machine) (faces machine)) (map export_of_facts es)
  all-seen [] = refl
  all-seen (e ∷ es) = both (taken-seen e) (all-seen es)

  pub names-seen : first (name_tests machine f)
      ≡ name_fault (machine_kernel machine) (faces machine) (facts_face f)
  unfolding name_fault
  names-seen =
      let named
      = sym (ap (λ b. fault_if b AlreadyLoaded)
      (any-map (λ (m : Face). bytes_eq m.name f.name) entry_face machine.entries)) in
      ap first
      (both named (both (need-seen is_missing MissingSymbol)
      (both (need-seen is_hidden GplOnly)
      (both (need-seen is_other_version VersionDiffers)
      (both (need-seen is_barred NotImported)
      (both (ap first (all-seen f.exports)) refl))))))
