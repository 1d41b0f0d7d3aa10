-- Closed plans load.
use Rattle.std.proofs.Common.{◌≡◌, ℕ, true, List, [], ◌∷◌, ◌++◌, Option, Some, None}
use Rattle.std.proofs.Common.{option_and_then, refl, sym, subst, ap, ◌∙◌, inl, inr, append_assoc}
use Rattle.std.proofs.Common.{append-nil}
use Rattle.std.proofs.lemmas.Bool.{true≢false}
use Rattle.std.proofs.lemmas.List.{map-append}
use Rattle.laws_closed_plans.specs.Members.{Member}
use Rattle.symbol_binding.specs.Symbols.{Export, Need, Face, Module, Kernel}
use Rattle.symbol_binding.specs.Provider.{ByModule, Provided, export_under, of_kernel, of_one}
use Rattle.symbol_binding.specs.Provider.{of_first, face_exports, module_exports, of_unknown}
use Rattle.symbol_binding.specs.Provider.{owning_module, provider, uses}
use Rattle.laws_closed_plans.specs.Names.{name_fault, first_name_fault, seen_table}
use Rattle.laws_closed_plans.specs.Plan.{faces_of, IsStep, IsClosed, ClosedPlansPass}
use Rattle.model_loader.proofs.SoundLemmas.{Passes}
use Rattle.laws_closed_plans.proofs.ListLemmas.{Member-left, Member-right, Member-cases, Member-map}
use Rattle.laws_closed_plans.proofs.ListLemmas.{Member-filter_map, first-pass, first-each}
use Rattle.laws_closed_plans.proofs.ListLemmas.{each-first}
use Rattle.laws_closed_plans.proofs.ProviderLemmas.{given-some, given-owner, export-none}
use Rattle.laws_closed_plans.proofs.ProviderLemmas.{export-first, export-kernel, export-faces}
use Rattle.laws_closed_plans.proofs.ProviderLemmas.{of_first-member, of_first-only}
use Rattle.laws_closed_plans.proofs.UnmetLemmas.{faultless}
use Rattle.laws_closed_plans.proofs.NameLemmas.{IsPassed, fault-pass}
use Rattle.laws_closed_plans.proofs.OneExporter.{one-listed, one-planned, none-taken, named}

-- what the law takes
pub record IsReady (tree : List Module) (kernel : Kernel) (listed plan : List Module) : Type 0 where
  pub known : kernel.known ≡ true
  pub of_tree : (m : Module) → Member m listed → Member m tree
  pub loaded : first_name_fault kernel [] (faces_of listed) ≡ None
  pub closed : IsClosed tree kernel listed plan

-- the module of a step is one of the plan
pub step-member : (plan before : List Module) (m : Module) → IsStep plan before m → Member m plan
step-member plan before m step = rw step.split (Member-right m before (m ∷ step.after) (inl refl))

-- so is what stands before it
pub before-member : (plan before : List Module) (m q : Module) → IsStep plan before m
    → Member q before → Member q plan
before-member plan before m q step in' = rw step.split (Member-left q before (m ∷ step.after) in')

-- what is loaded before a step stands in the list and the plan
pub loaded-stands : (listed plan before : List Module) (m q : Module) → IsStep plan before m
    → Member q (listed ++ before) → Member q (listed ++ plan)
loaded-stands listed plan before m q step in' =
    elim (Member-cases q listed before in') [
      | inl l ↦ Member-left q listed plan l
      | inr b ↦ Member-right q listed plan (before-member plan before m q step b)
    ]

-- it is of the tree
pub loaded-tree : (tree : List Module) (kernel : Kernel) (listed plan before : List Module)
    (m q : Module)
    → IsReady tree kernel listed plan → IsStep plan before m → Member q (listed ++ before)
    → Member q tree
loaded-tree tree kernel listed plan before m q ready step in' =
    elim (Member-cases q listed before in') [
      | inl l ↦ ready.of_tree q l
      | inr b ↦ ready.closed.of_tree q (before-member plan before m q step b)
    ]

-- two modules that are loaded before a step and export one name are one
pub one-loaded : (tree : List Module) (kernel : Kernel) (listed plan before : List Module)
    (m : Module) (x : List ℕ) (p q : Module) (v w : Provided Module)
    → IsReady tree kernel listed plan → IsStep plan before m → Member p (listed ++ before)
    → Member q (listed ++ before) → of_one module_exports x p ≡ Some v
    → of_one module_exports x q ≡ Some w → p ≡ q
one-loaded tree kernel listed plan before m x p q v w ready step in_p in_q gives_p gives_q =
    let alone = ready.closed.alone in
    let tree_p = loaded-tree tree kernel listed plan before m p ready step in_p in
    let tree_q = loaded-tree tree kernel listed plan before m q ready step in_q in
    elim (Member-cases p listed before in_p) [
      | inl l ↦ elim (Member-cases q listed before in_q) [
        | inl k ↦ one-listed kernel listed x p q v w ready.loaded l k gives_p gives_q
        | inr b ↦ sym
            (one-planned tree kernel listed plan x q p w v alone tree_q tree_p
            (before-member plan before m q step b)
            (loaded-stands listed plan before m p step in_p) gives_q gives_p)
      ]
      | inr b ↦ one-planned tree kernel listed plan x p q v w alone tree_p tree_q
          (before-member plan before m p step b) (loaded-stands listed plan before m q step in_q)
          gives_p gives_q
    ]

-- where the kernel doesn't export a need of a step's module, the first exporter of what is loaded
-- is the tree's
pub same-first : (tree : List Module) (kernel : Kernel) (listed plan before : List Module)
    (m : Module) (n : Need)
    → IsReady tree kernel listed plan → IsStep plan before m → Member n m.face.needs
    → of_kernel {M = Module} kernel n.name ≡ None
    → of_first module_exports (listed ++ before) n.name ≡ of_first module_exports tree n.name
same-first tree kernel listed plan before m n ready step needed no_kernel =
    by_tree (of_first module_exports tree n.name) refl
  where
    by_tree : (o : Option (Provided Module)) → of_first module_exports tree n.name ≡ o
        → of_first module_exports (listed ++ before) n.name ≡ of_first module_exports tree n.name
    by_tree None is =
        first-each (of_one module_exports n.name) (listed ++ before)
        (λ q in'. each-first (of_one module_exports n.name) q tree is
        (loaded-tree tree kernel listed plan before m q ready step in'))
        ∙ sym is
    by_tree (Some v) is =
        let p = of_first-member module_exports tree n.name v is in
        let owner = given-owner (ByModule p.0) p.0.face.exports n.name v p.2 in
        let provided : provider tree kernel n.name ≡ Some v = rw (no_kernel, is) refl in
        let used : Member p.0 (uses tree kernel m) =
        Member-filter_map
        (λ (n : Need). option_and_then (λ p. owning_module p.owner)
        (provider tree kernel n.name)) n p.0 m.face.needs needed
        (ap (option_and_then (λ (p : Provided Module). owning_module p.owner)) provided
        ∙ ap owning_module owner) in
        let behind = ready.closed.behind before m step p.0 used in
        of_first-only module_exports (listed ++ before) n.name p.0 v behind p.2
        (λ q w in' gives. one-loaded tree kernel listed plan before m n.name q p.0 w v ready
        step in' behind gives p.2)
        ∙ sym is

-- what a need of a step's module is looked up to is its provider's export
pub table-provider : (tree : List Module) (kernel : Kernel) (listed plan before : List Module)
    (m : Module) (n : Need)
    → IsReady tree kernel listed plan → IsStep plan before m → Member n m.face.needs
    → export_under (seen_table kernel (faces_of (listed ++ before)) n.name)
    ≡ export_under (provider tree kernel n.name)
table-provider tree kernel listed plan before m n ready step needed =
    export-first (of_kernel kernel n.name) (of_kernel kernel n.name)
    (of_first face_exports (faces_of (listed ++ before)) n.name ∷ [])
    (of_first module_exports tree n.name ∷ of_unknown kernel n.name ∷ [])
    (export-kernel _ _ kernel n.name)
    (λ no_kernel. export-first (of_first face_exports (faces_of (listed ++ before)) n.name)
    (of_first module_exports tree n.name) [] (of_unknown kernel n.name ∷ [])
    (export-faces (listed ++ before) n.name
    ∙ ap export_under
    (same-first tree kernel listed plan before m n ready step needed no_kernel))
    (λ none. rw ready.known refl))

-- nothing stands under the exports of a step's module
pub exports-untaken : (tree : List Module) (kernel : Kernel) (listed plan before : List Module)
    (m : Module) (e : Export)
    → IsReady tree kernel listed plan → IsStep plan before m → Member e m.face.exports
    → seen_table kernel (faces_of (listed ++ before)) e.name ≡ None
exports-untaken tree kernel listed plan before m e ready step in' =
    let no_module : of_first module_exports (listed ++ before) e.name ≡ None =
    first-each (of_one module_exports e.name) (listed ++ before)
    (λ q in''. by_module q in'' (of_one module_exports e.name q) refl) in
    let no_face : of_first face_exports (faces_of (listed ++ before)) e.name ≡ None =
    export-none (of_first face_exports (faces_of (listed ++ before)) e.name)
    (export-faces (listed ++ before) e.name ∙ ap export_under no_module) in
    let no_kernel : of_kernel {M = Face} kernel e.name ≡ None =
    export-none (of_kernel kernel e.name)
    (export-kernel _ _ kernel e.name
    ∙ ap export_under (by_kernel (of_kernel kernel e.name) refl)) in
    rw (no_kernel, no_face) refl
  where
    in_plan : Member m plan
    in_plan = step-member plan before m step

    in_tree : Member m tree
    in_tree = ready.closed.of_tree m in_plan

    by_module : (q : Module) → Member q (listed ++ before) → (o : Option (Provided Module))
        → of_one module_exports e.name q ≡ o → o ≡ None
    by_module q in'' None is = refl
    by_module q in'' (Some w) is =
        let own = given-some (ByModule m) m.face.exports e in' in
        let same : m ≡ q =
        one-planned tree kernel listed plan e.name m q own.0 w ready.closed.alone in_tree
        (loaded-tree tree kernel listed plan before m q ready step in'') in_plan
        (loaded-stands listed plan before m q step in'') own.1 is in
        let there : Member m.face (faces_of (listed ++ before)) =
        Member-map (λ (m : Module). m.face) m (listed ++ before)
        (subst (λ z. Member z (listed ++ before)) (sym same) in'') in
        absurd (true≢false
        (sym (named m.face (faces_of (listed ++ before)) there)
        ∙ ready.closed.fresh before m step))

    by_kernel : (o : Option (Provided Module)) → of_kernel kernel e.name ≡ o → o ≡ None
    by_kernel (Some v) is
        = absurd
        (none-taken tree kernel listed plan m e v ready.closed.alone in_tree in_plan in' is)
    by_kernel None is = refl

-- each test passes at a step
pub step-passed : (tree : List Module) (kernel : Kernel) (listed plan before : List Module)
    (m : Module)
    → IsReady tree kernel listed plan → IsStep plan before m
    → IsPassed kernel (faces_of (listed ++ before)) m.face
step-passed tree kernel listed plan before m ready step =
    let in_plan = step-member plan before m step in
    record {
      fresh = ready.closed.fresh before m step;
      needs
          = λ n in'. subst (λ found. Passes found m.face n)
          (sym (table-provider tree kernel listed plan before m n ready step in'))
          (faultless tree kernel m n (ready.closed.clear m in_plan)
          (ready.closed.of_tree m in_plan) in');
      untaken = λ e in'. exports-untaken tree kernel listed plan before m e ready step in';
    }

-- so the module of a step isn't refused for its names
pub step-clear : (tree : List Module) (kernel : Kernel) (listed plan before : List Module)
    (m : Module)
    → IsReady tree kernel listed plan → IsStep plan before m
    → name_fault kernel (faces_of (listed ++ before)) m.face ≡ None
step-clear tree kernel listed plan before m ready step =
    fault-pass kernel (faces_of (listed ++ before)) m.face
    (step-passed tree kernel listed plan before m ready step)

-- modules of which each passes at its step load in turn
pub steps-pass : (kernel : Kernel) (loaded ms : List Module)
    → ((front : List Module) (m : Module) → IsStep ms front m
    → name_fault kernel (faces_of (loaded ++ front)) m.face ≡ None)
    → first_name_fault kernel (faces_of loaded) (faces_of ms) ≡ None
steps-pass kernel loaded [] passes = refl
steps-pass kernel loaded (m ∷ ms) passes =
    let here : name_fault kernel (faces_of loaded) m.face ≡ None =
    rw (append-nil loaded) at (passes [] m (record { after = ms; split = refl })) in
    let later : first_name_fault kernel (faces_of (loaded ++ m ∷ [])) (faces_of ms) ≡ None =
    steps-pass kernel (loaded ++ m ∷ []) ms
    (λ front p step. rw (append_assoc loaded (m ∷ []) front)
    (passes (m ∷ front) p
    (record { after = step.after; split = ap (λ zs. m ∷ zs) step.split }))) in
    let more : faces_of (loaded ++ m ∷ []) ≡ faces_of loaded ++ m.face ∷ [] =
    map-append (λ (m : Module). m.face) loaded (m ∷ []) in
    first-pass (name_fault kernel (faces_of loaded) m.face) _ here
    (first-pass _ [] (rw more at later) refl)

pub closed-plans-pass : ClosedPlansPass
closed-plans-pass tree kernel listed plan known of_tree loaded closed =
    let ready : IsReady tree kernel listed plan =
    record { known = known; of_tree = of_tree; loaded = loaded; closed = closed } in
    steps-pass kernel listed plan
    (λ before m step. step-clear tree kernel listed plan before m ready step)
