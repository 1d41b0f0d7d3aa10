-- Loads of modules, one after the other.
use Rattle.std.proofs.Common.{◌≡◌, ◌∙◌, ◌/◌, ℕ, List, [], ◌∷◌, ◌++◌, map, Option, Some, None}
use Rattle.std.proofs.Common.{is_none, option_map, option_and_then, refl, sym, ap, subst}
use Rattle.std.proofs.Common.{append_assoc, append-nil}
use Rattle.std.specs.Prelude.{Result, Ok, Err, IfSome, IfErr}
use Rattle.std.specs.Option.{option_or, option_map_or}
use Rattle.std.proofs.lemmas.List.{map-append}
use Rattle.elf_format.specs.declared.section.TheConstants.{PAGE}
use Rattle.km_names.specs.First.{first}
use Rattle.elf_sections.specs.Shape.{fault_if}
use Rattle.module_symbols.specs.declared.exports.Export.{Export as FactsExport}
use Rattle.module_facts.specs.declared.module.Module.{Module}
use Rattle.symbol_binding.specs.Symbols.{Export, Need, Face}
use Rattle.provider_rel.specs.Faces.{export_of_facts}
use Rattle.x86_relocate.specs.declared.patch.Overflow.{Overflow as TooWide}
use Rattle.image_layout.specs.Laid.{overflow}
use Rattle.load_fault.specs.declared.fault.LoadFault.{LoadFault}
use Rattle.load_fault.specs.declared.fault.LoadFault.TheVariants.{RegionFull, Overflow}
use Rattle.model_loader.specs.Machine.{Machine, entry_face, export_face, facts_face, need_face}
use Rattle.model_loader.specs.Gap.{gap}
use Rattle.model_loader.specs.Sound.{IsSound}
use Rattle.model_loader.specs.Step.{bound_need, entry_at, module_base, module_size}
use Rattle.model_loader.specs.Step.{name_tests, named_pages, overflow_fault, placement_tests}
use Rattle.model_loader.specs.Step.{placed_export, refusal, step, symbol_addresses, with_entry}
use Rattle.model_loader.proofs.StepLemmas.{first-append, refusal-split, step-passed}
use Rattle.model_loader.proofs.SoundLemmas.{sound-next, needs-same}
use Rattle.laws_closed_plans.specs.Names.{name_fault, first_name_fault}
use Rattle.laws_closed_plans.specs.Loads.{load_all, unless_refused, IsPlaceFault, full}
use Rattle.laws_closed_plans.specs.Loads.{overflow as too_wide}
use Rattle.laws_closed_plans.proofs.ListLemmas.{first-pass}
use Rattle.laws_closed_plans.proofs.TableLemmas.{faces, machine_kernel, names-seen}

-- what is seen of modules
abbrev pub seen : List Module → List Face
seen ms = map (λ m. facts_face m.facts) ms

exports-same : (machine : Machine) (m : Module) (base : ℕ) (es : List FactsExport)
    → map export_face (map (placed_export machine m base) es) ≡ map export_of_facts es
exports-same machine m base [] = refl
exports-same machine m base (e ∷ es) =
    ap (λ rest. export_of_facts e ∷ rest) (exports-same machine m base es)

face_with : Module → List Export → List Need → Face
face_with m es ns =
    record {
      name = m.facts.name;
      exports = es;
      needs = ns;
      free = m.facts.free;
      imports = m.facts.imports;
    }

-- what is seen of the module of an entry is what is seen of the module
entry-face : (machine : Machine) (m : Module) (base : ℕ)
    → entry_face (entry_at machine m base) ≡ facts_face m.facts
unfolding entry_at face_with
entry-face machine m base =
    ap (λ es. face_with m es (map need_face (map bound_need m.facts.needs)))
    (exports-same machine m base m.facts.exports)
    ∙ ap (face_with m (map export_of_facts m.facts.exports)) (needs-same m.facts.needs)

-- a machine after a load that isn't refused
pub record IsNext (machine : Machine) (m : Module) (next : Machine) : Type 0 where
  pub passed : refusal machine m ≡ None
  pub is : next ≡ with_entry machine (entry_at machine m (module_base machine m))

pub step-next : (machine : Machine) (m : Module) (next : Machine) → step machine m ≡ Ok next
    → IsNext machine m next
unfolding step
step-next machine m next is = go (refusal machine m) refl is
  where
    go : (r : Option LoadFault) → refusal machine m ≡ r
        → option_map_or Err r (Ok (with_entry machine (entry_at machine m (module_base machine m))))
        ≡ Ok next
        → IsNext machine m next
    go None none is = record { passed = none; is = cc }
    go (Some f) none is = absurd cc

-- a module that passes them is refused for its place alone
pub refused-place : (machine : Machine) (m : Module) → first (name_tests machine m.facts) ≡ None
    → IfSome (refusal machine m) IsPlaceFault
unfolding refusal
refused-place machine m none =
    subst (λ o. IfSome o IsPlaceFault)
    (sym (first-append (name_tests machine m.facts) (placement_tests machine m)
    ∙ ap (λ o. option_or o (first (placement_tests machine m))) none))
    (by_gap (gap machine (module_size m)))
  where
    by_word : (o : Option TooWide)
        → IfSome (first (option_map (λ (o : TooWide). Overflow o.section o.entry) o ∷ []))
        IsPlaceFault
    by_word None = tt
    by_word (Some o) = too_wide o.section o.entry

    by_gap : (g : Option ℕ)
        → IfSome (first
        (fault_if (is_none g) (RegionFull (named_pages (module_size m / PAGE)))
        ∷ option_and_then (overflow_fault machine m) g ∷ [])) IsPlaceFault
    by_gap None = full (named_pages (module_size m / PAGE))
    by_gap (Some base) = by_word (overflow m.object base (symbol_addresses machine m base))

-- modules that were loaded one after the other
pub record HaveLoaded (machine : Machine) (ms : List Module) (next : Machine) : Type 0 where
  pub passed : first_name_fault (machine_kernel machine) (faces machine) (seen ms) ≡ None
  pub kernel : machine_kernel next ≡ machine_kernel machine
  pub faces : faces next ≡ faces machine ++ seen ms

loaded-one : (machine : Machine) (m : Module) (ms : List Module) (mid next : Machine)
    → step machine m ≡ Ok mid → HaveLoaded mid ms next → HaveLoaded machine (m ∷ ms) next
loaded-one machine m ms mid next at rest =
    let n = step-next machine m mid at in
    let e = entry_at machine m (module_base machine m) in
    let kernel : machine_kernel mid ≡ machine_kernel machine = ap machine_kernel n.is in
    let more : faces mid ≡ faces machine ++ facts_face m.facts ∷ [] =
    ap faces n.is ∙ map-append entry_face machine.entries (e ∷ [])
    ∙ ap (λ f. faces machine ++ f ∷ []) (entry-face machine m (module_base machine m)) in
    let here : name_fault (machine_kernel machine) (faces machine) (facts_face m.facts) ≡ None =
    sym (names-seen machine m.facts) ∙ (refusal-split machine m n.passed).0 in
    let later : first_name_fault (machine_kernel machine) (faces machine ++ facts_face m.facts ∷ [])
    (seen ms)
    ≡ None
    =
    subst (λ k. first_name_fault k (faces machine ++ facts_face m.facts ∷ []) (seen ms) ≡ None)
    kernel
    (subst (λ fs. first_name_fault (machine_kernel mid) fs (seen ms) ≡ None) more rest.passed)
    in
    record {
      passed
          = first-pass (name_fault (machine_kernel machine) (faces machine) (facts_face m.facts)) _
          here (first-pass
          (first_name_fault (machine_kernel machine) (faces machine ++ facts_face m.facts ∷ [])
          (seen ms)) [] later refl);
      kernel = rest.kernel ∙ kernel;
      faces
          = rest.faces ∙ ap (λ fs. fs ++ seen ms) more
          ∙ append_assoc (faces machine) (facts_face m.facts ∷ []) (seen ms);
    }

pub have-loaded : (machine : Machine) (ms : List Module) (next : Machine)
    → load_all machine ms ≡ Ok next → HaveLoaded machine ms next
have-loaded machine [] next is =
    let same : machine ≡ next = cc in
    record {
      passed = refl;
      kernel = ap machine_kernel (sym same);
      faces = ap faces (sym same) ∙ sym (append-nil (faces machine));
    }
have-loaded machine (m ∷ ms) next is = go (step machine m) refl is (λ mid. have-loaded mid ms next)
  where
    go : (r : Result Machine LoadFault) → step machine m ≡ r
        → unless_refused (λ mid. load_all mid ms) r ≡ Ok next
        → ((mid : Machine) → load_all mid ms ≡ Ok next → HaveLoaded mid ms next)
        → HaveLoaded machine (m ∷ ms) next
    go (Ok mid) at is rest = loaded-one machine m ms mid next at (rest mid is)
    go (Err f) at is rest = absurd cc

-- loads keep a machine sound
pub loads-sound : (machine : Machine) (old ms : List Module) (next : Machine) → IsSound machine old
    → load_all machine ms ≡ Ok next → IsSound next (old ++ ms)
loads-sound machine old [] next sound is =
    let same : machine ≡ next = cc in
    subst (λ n. IsSound n (old ++ [])) same (subst (IsSound machine) (sym (append-nil old)) sound)
loads-sound machine old (m ∷ ms) next sound is =
    go (step machine m) refl is (λ mid. loads-sound mid (old ++ m ∷ []) ms next)
  where
    go : (r : Result Machine LoadFault) → step machine m ≡ r
        → unless_refused (λ mid. load_all mid ms) r ≡ Ok next
        → ((mid : Machine) → IsSound mid (old ++ m ∷ []) → load_all mid ms ≡ Ok next
        → IsSound next ((old ++ m ∷ []) ++ ms))
        → IsSound next (old ++ m ∷ ms)
    go (Ok mid) at is rest =
        let n = step-next machine m mid at in
        let grown : IsSound mid (old ++ m ∷ [])
        = subst (λ k. IsSound k (old ++ m ∷ [])) (sym n.is)
        (sound-next machine old m n.passed sound) in
        subst (IsSound next) (append_assoc old (m ∷ []) ms) (rest mid grown is)
    go (Err f) at is rest = absurd cc

-- two lists, one after the other
pub load-append : (machine : Machine) (xs ys : List Module)
    → load_all machine (xs ++ ys) ≡ unless_refused (λ next. load_all next ys) (load_all machine xs)
load-append machine [] ys = refl
load-append machine (x ∷ xs) ys = go (step machine x) (λ mid. load-append mid xs ys)
  where
    go : (r : Result Machine LoadFault)
        → ((mid : Machine)
        → load_all mid (xs ++ ys)
        ≡ unless_refused (λ next. load_all next ys) (load_all mid xs))
        → unless_refused (λ mid. load_all mid (xs ++ ys)) r
        ≡ unless_refused (λ next. load_all next ys) (unless_refused (λ mid. load_all mid xs) r)
    go (Ok mid) rest = rest mid
    go (Err f) rest = refl

-- the machine after a module that isn't refused
abbrev after : Machine → Module → Machine
after start m = with_entry start (entry_at start m (module_base start m))

stops-at : (start : Machine) (m : Module) (ms : List Module) → IfSome (refusal start m) IsPlaceFault
    → (refusal start m ≡ None → IfErr (load_all (after start m) ms) IsPlaceFault)
    → IfErr (load_all start (m ∷ ms)) IsPlaceFault
unfolding step
stops-at start m ms place rest = go (refusal start m) refl place rest
  where
    go : (r : Option LoadFault) → refusal start m ≡ r → IfSome r IsPlaceFault
        → (refusal start m ≡ None → IfErr (load_all (after start m) ms) IsPlaceFault)
        → IfErr (unless_refused (λ mid. load_all mid ms) (option_map_or Err r (Ok (after start m))))
        IsPlaceFault
    go None none place rest = rest none
    go (Some f) is place rest = place

-- loads of which each is refused for its place alone stop for nothing else
pub loads-stop : (start : Machine) (ms : List Module)
    → ((before : List Module) (m : Module) (back : List Module) → ms ≡ before ++ m ∷ back
    → (machine : Machine) → load_all start before ≡ Ok machine
    → IfSome (refusal machine m) IsPlaceFault)
    → IfErr (load_all start ms) IsPlaceFault
loads-stop start [] each = tt
loads-stop start (m ∷ ms) each =
    stops-at start m ms (each [] m ms refl start refl) (λ none.
    loads-stop (after start m) ms (λ before p back split machine at.
    each (m ∷ before) p back (ap (λ l. m ∷ l) split) machine
    (ap (unless_refused (λ mid. load_all mid before))
    (step-passed start m (entry_at start m (module_base start m)) (after start m) none
    refl refl)
    ∙ at)))
