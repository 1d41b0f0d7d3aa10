-- Closed plans bind.
use Rattle.std.proofs.Common.{◌≡◌, ◌∙◌, ℕ, suc, false, List, [], ◌∷◌, ◌++◌, length, map, None, refl}
use Rattle.std.proofs.Common.{sym, ap, subst, inl, inr, arith, append-nil}
use Rattle.std.specs.Prelude.{All, AllPairs, Result, Ok, Err, IsOk, IfSome, IfErr}
use Rattle.std.specs.List.{IsDistinct, AllByRecursion}
use Rattle.std.specs.Str.{bytes_eq}
use Rattle.std.proofs.lemmas.Bool.{cases_Bool}
use Rattle.std.proofs.lemmas.List.{map-append, length-map}
use Rattle.relation_order.specs.Sets.{below}
use Rattle.relation_order.specs.Cycle.{cycle}
use Rattle.module_facts.specs.declared.facts.Facts.{Facts}
use Rattle.module_facts.specs.declared.module.Module.{Module}
use Rattle.symbol_binding.specs.Symbols.{Module as SeenModule}
use Rattle.symbol_binding.specs.Unmet.{unmet}
use Rattle.kernel_exports.specs.declared.kernel.Kernel.{Kernel}
use Rattle.kernel_exports.specs.declared.kernel.KernelExport.{KernelExport}
use Rattle.provider_rel.specs.Faces.{face_of, module_of, modules_of, kernel_of}
use Rattle.provider_rel.specs.Relation.{uses_at}
use Rattle.module_region.specs.declared.region.Region.{Region}
use Rattle.model_loader.specs.Machine.{Machine, new_machine}
use Rattle.model_loader.specs.Step.{refusal}
use Rattle.model_loader.specs.Sound.{IsSound}
use Rattle.laws_closed_plans.specs.Members.{Member}
use Rattle.laws_closed_plans.specs.Names.{name_fault, first_name_fault}
use Rattle.laws_closed_plans.specs.Plan.{faces_of, IsStep}
use Rattle.laws_closed_plans.specs.Lines.{Lines, AreClosed}
use Rattle.laws_closed_plans.specs.Loads.{load_all, unless_refused, IsPlaceFault}
use Rattle.laws_closed_plans.specs.Binding.{IsIndexed, IsPlanned, IsLoaded, Binds, ClosedPlansBind}
use Rattle.laws_closed_plans.specs.Binding.{LoadsBind, names_of}
use Rattle.laws_closed_plans.proofs.ListLemmas.{Member-map, from-map}
use Rattle.laws_closed_plans.proofs.ProviderLemmas.{same_name}
use Rattle.laws_closed_plans.proofs.UnmetLemmas.{all-member}
use Rattle.laws_closed_plans.proofs.PlanLemmas.{IsReady, step-clear}
use Rattle.laws_closed_plans.proofs.LineLemmas.{names-suffice, names_of as seen_names}
use Rattle.laws_closed_plans.proofs.LoadLemmas.{seen, refused-place, have-loaded, loads-sound}
use Rattle.laws_closed_plans.proofs.LoadLemmas.{load-append, loads-stop}
use Rattle.laws_closed_plans.proofs.TableLemmas.{faces, machine_kernel, names-seen}

-- the modules of files, as those who bind symbols see them
abbrev modules : List Module → List SeenModule
modules ms = map (λ m. module_of m.facts) ms

seen-faces : (ms : List Module) → seen ms ≡ faces_of (modules ms)
seen-faces [] = refl
seen-faces (m ∷ ms) = ap (λ fs. face_of m.facts ∷ fs) (seen-faces ms)

same-names : (ms : List Module) → names_of ms ≡ seen_names (modules ms)
same-names [] = refl
same-names (m ∷ ms) = ap (λ ns. m.facts.name ∷ ns) (same-names ms)

-- members by their files
of_tree : (tree : List Facts) (ms : List Module)
    → ((m : Module) → Member m ms → Member m.facts tree) → (p : SeenModule) → Member p (modules ms)
    → Member p (modules_of tree)
of_tree tree ms inside p in' =
    let h = from-map (λ m. module_of m.facts) p ms in' in
    subst (λ q. Member q (modules_of tree)) h.2
    (Member-map module_of h.0.facts tree (inside h.0 h.1))

-- of names that are apart, equal ones are one
one-name : {X : Type 0} (f : X → List ℕ) (xs : List X) → AllPairs (λ a b. f a ≡ f b → ⊥) xs
    → (a b : X) → Member a xs → Member b xs → f a ≡ f b → a ≡ b
one-name f [] apart a b in_a in_b same = absurd in_a
one-name f (x ∷ xs) apart a b (inl is_a) (inl is_b) same = sym is_a ∙ is_b
one-name f (x ∷ xs) apart a b (inl is_a) (inr in_b) same =
    absurd (all-member (λ y. f x ≡ f y → ⊥) b xs
    (λ k d less. apart 0 (suc k) d (omega arith) (omega (arith, less))) in_b (ap f is_a ∙ same))
one-name f (x ∷ xs) apart a b (inr in_a) (inl is_b) same =
    absurd (all-member (λ y. f x ≡ f y → ⊥) a xs
    (λ k d less. apart 0 (suc k) d (omega arith) (omega (arith, less))) in_a
    (ap f is_b ∙ sym same))
one-name f (x ∷ xs) apart a b (inr in_a) (inr in_b) same =
    one-name f xs
    (λ i j d less inside. apart (suc i) (suc j) d (omega (arith, less)) (omega (arith, inside)))
    a b in_a in_b same

one-module : (tree : List Facts) → AllPairs (λ (a b : Facts). a.name ≡ b.name → ⊥) tree
    → (p q : SeenModule) → Member p (modules_of tree) → Member q (modules_of tree)
    → p.face.name ≡ q.face.name → p ≡ q
one-module tree apart p q in_p in_q same =
    let a = from-map module_of p tree in_p in
    let b = from-map module_of q tree in_q in
    let names : a.0.name ≡ b.0.name
    = ap (λ (m : SeenModule). m.face.name) a.2 ∙ same
    ∙ sym (ap (λ (m : SeenModule). m.face.name) b.2) in
    sym a.2 ∙ ap module_of (one-name (λ (f : Facts). f.name) tree apart a.0 b.0 a.1 b.1 names) ∙ b.2

-- names that differ are distinct
distinct-names : {X : Type 0} (f : X → List ℕ) (xs : List X) → AllPairs (λ a b. f a ≡ f b → ⊥) xs
    → IsDistinct bytes_eq (map f xs)
unfolding IsDistinct
distinct-names f [] apart = tt
distinct-names f (x ∷ xs) apart = (
  head xs (λ k d less. apart 0 (suc k) d (omega arith) (omega (arith, less))),
  distinct-names f xs
      (λ i j d less inside. apart (suc i) (suc j) d (omega (arith, less))
      (omega (arith, inside))),
)
  where
    other : (y z : List ℕ) → (y ≡ z → ⊥) → bytes_eq y z ≡ false
    other y z differ =
        elim (cases_Bool (bytes_eq y z))
        [ inl is ↦ absurd (differ (same_name y z is)) | inr is ↦ is ]

    head : (ys : List _) → All (λ y. f x ≡ f y → ⊥) ys
        → AllByRecursion (λ z. bytes_eq (f x) z ≡ false) (map f ys)
    head [] all = tt
    head (y ∷ ys) all
        = (
          other (f x) (f y) (all 0 y (omega arith)),
          head ys (λ k d less. all (suc k) d (omega (arith, less))),
        )

-- the machine of a kernel with nothing loaded is sound
new-sound : (kernel : Kernel) (region : Region) → IsSound (new_machine kernel region) []
unfolding IsDistinct
new-sound kernel region = record {
  bound = tt;
  names = tt;
  exports
      = subst (IsDistinct bytes_eq)
      (sym (append-nil (map (λ (e : KernelExport). e.name) kernel.exports)))
      (distinct-names (λ (e : KernelExport). e.name) kernel.exports kernel.table.distinct);
  placed = λ k d less. absurd (omega arith);
  apart = λ i j d less inside. absurd (omega arith);
}

pub loads-bind : LoadsBind
loads-bind kernel region ms machine loaded =
    loads-sound (new_machine kernel region) [] ms machine (new-sound kernel region) loaded

ok-value : {T E : Type 0} (r : Result T E) → IsOk r → (x : T) × (r ≡ Ok x)
ok-value (Ok x) is = (x, refl)
ok-value (Err e) is = absurd cc

module _ (tree : List Facts) (kernel : Kernel) (deps : Lines) (addressed : Kernel) (region : Region)
    (listed plan : List Module) (indexed : IsIndexed tree kernel deps)
    (planned : IsPlanned tree kernel deps addressed region listed plan) where
  acyclic : cycle (uses_at (modules_of tree) (kernel_of kernel)) (below (length tree)) ≡ []
      → cycle (uses_at (modules_of tree) (kernel_of kernel)) (below (length (modules_of tree))) ≡ []
  acyclic none
      = ap (λ n. cycle (uses_at (modules_of tree) (kernel_of kernel)) (below n))
      (length-map tree module_of)
      ∙ none

  start : (s : Machine) × (load_all (new_machine addressed region) listed ≡ Ok s)
  start = ok-value (load_all (new_machine addressed region) listed) planned.listed_load

  ready : IsReady (modules_of tree) (kernel_of kernel) (modules listed) (modules plan)
  ready =
      let h = have-loaded (new_machine addressed region) listed start.0 start.1 in
      record {
        known = indexed.known;
        of_tree = of_tree tree listed planned.listed_of;
        loaded
            = subst (λ k. first_name_fault k [] (faces_of (modules listed)) ≡ None)
            planned.same_table
            (subst (λ fs. first_name_fault (kernel_of addressed) [] fs ≡ None)
            (seen-faces listed) h.passed);
        closed =
            names-suffice (modules_of tree) (kernel_of kernel) deps (modules listed) (modules plan)
            (one-module tree indexed.names) (acyclic indexed.acyclic) indexed.lines
            (of_tree tree listed planned.listed_of) (of_tree tree plan planned.plan_of)
            (subst (λ ns. AreClosed deps (unmet (modules_of tree) (kernel_of kernel))
            (seen_names (modules listed)) ns) (same-names plan)
            (subst (λ ns. AreClosed deps (unmet (modules_of tree) (kernel_of kernel)) ns
            (names_of plan)) (same-names listed) planned.closed));
      }

  clear-at : (before : List Module) (m : Module) (after : List Module) → plan ≡ before ++ m ∷ after
      → (machine : Machine) → IsLoaded addressed region (listed ++ before) machine
      → IfSome (refusal machine m) IsPlaceFault
  clear-at before m after split machine loaded =
      let h = have-loaded (new_machine addressed region) (listed ++ before) machine loaded in
      let at : IsStep (modules plan) (modules before) (module_of m.facts) =
      record {
        after = modules after;
        split
            = ap modules split
            ∙ map-append (λ (m : Module). module_of m.facts) before (m ∷ after);
      } in
      let stands : faces machine ≡ faces_of (modules listed ++ modules before) =
      h.faces ∙ seen-faces (listed ++ before)
      ∙ ap faces_of (map-append (λ (m : Module). module_of m.facts) listed before) in
      let clear
      = step-clear (modules_of tree) (kernel_of kernel) (modules listed) (modules plan)
      (modules before) (module_of m.facts) ready at in
      let here : name_fault (machine_kernel machine) (faces machine) (face_of m.facts) ≡ None =
      subst (λ k. name_fault k (faces machine) (face_of m.facts) ≡ None)
      (sym (h.kernel ∙ planned.same_table))
      (subst (λ fs. name_fault (kernel_of kernel) fs (face_of m.facts) ≡ None) (sym stands)
      clear) in
      refused-place machine m (names-seen machine m.facts ∙ here)

  split-loaded : (before : List Module) (machine : Machine) → load_all start.0 before ≡ Ok machine
      → IsLoaded addressed region (listed ++ before) machine
  split-loaded before machine is =
      load-append (new_machine addressed region) listed before
      ∙ ap (unless_refused (λ next. load_all next before)) start.1 ∙ is

  pub binds : Binds addressed region listed plan
  binds = record {
    refused = clear-at;
    stopped =
        subst (λ r. IfErr r IsPlaceFault)
        (sym (load-append (new_machine addressed region) listed plan
        ∙ ap (unless_refused (λ next. load_all next plan)) start.1))
        (loads-stop start.0 plan
        (λ before m after split machine is. clear-at before m after split machine
        (split-loaded before machine is)));
    sound = λ before after split machine loaded.
        loads-sound (new_machine addressed region) [] (listed ++ before) machine
        (new-sound addressed region) loaded;
  }

pub closed-plans-bind : ClosedPlansBind
closed-plans-bind tree kernel deps addressed region listed plan indexed planned =
    binds tree kernel deps addressed region listed plan indexed planned
