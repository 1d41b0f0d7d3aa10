-- Closed plans by names.
use Rattle.std.proofs.Common.{map, ◌≡◌, ◌<◌, ◌+◌, ℕ, suc, zero, Bool, true, false, cond, List, []}
use Rattle.std.proofs.Common.{◌∷◌, ◌++◌, length, filter_map, Option, Some, None, option_and_then}
use Rattle.std.proofs.Common.{refl, sym, subst, ap, ◌∙◌, inl, inr, arith}
use Rattle.std.specs.Prelude.{◌||◌, not, slice_get}
use Rattle.std.proofs.lemmas.Bool.{true≢false, or_cases, or_left, or_right, eq-eqb}
use Rattle.std.proofs.lemmas.List.{map-append}
use Rattle.std.proofs.lemmas.Option.{none-some, same_Some, slice_get_within}
use Rattle.std.specs.List.{AllByRecursion, IsDistinct, list_any, cons_option, position_or_len}
use Rattle.std.proofs.lemmas.List.Folds.{list_any-append}
use Rattle.std.specs.Option.{option_map_or}
use Rattle.std.specs.Str.{bytes_eq}
use Rattle.std.proofs.lemmas.Cmp.{nat_list_eq_equiv}
use Rattle.km_names.specs.First.{first}
use Rattle.name_table.specs.FirstSeen.{is_among}
use Rattle.relation_order.specs.Sets.{has, below}
use Rattle.relation_order.specs.Cycle.{cycle}
use Rattle.relation_order.proofs.Lists.{has-range}
use Rattle.symbol_binding.specs.Symbols.{Need, Module, Kernel}
use Rattle.symbol_binding.specs.Provider.{ByKernel, ByModule, Provided, of_kernel, of_first}
use Rattle.symbol_binding.specs.Provider.{module_exports, of_unknown, owning_module, provider, uses}
use Rattle.symbol_binding.specs.Unmet.{vmlinux, unmet, collides}
use Rattle.symbol_binding.specs.declared.unbound.Unbound.{Unbound}
use Rattle.provider_rel.specs.Relation.{place, uses_at, name_at}
use Rattle.provider_rel.proofs.ClosedLaw.{closure-first}
use Rattle.laws_closed_plans.specs.Names.{is_named}
use Rattle.laws_closed_plans.specs.Members.{Member}
use Rattle.laws_closed_plans.specs.Plan.{faces_of, is_at, stands, IsStep, IsClosed}
use Rattle.laws_closed_plans.specs.Lines.{Lines, AreClosed, AreLinesOf}
use Rattle.laws_closed_plans.proofs.ListLemmas.{Member-right, Member-map, Member-cases}
use Rattle.laws_closed_plans.proofs.PlanLemmas.{step-member, before-member}
use Rattle.laws_closed_plans.proofs.ProviderLemmas.{same_name, its_name, given-owner}
use Rattle.laws_closed_plans.proofs.ProviderLemmas.{of_first-member}

-- the names of modules
abbrev pub names_of : List Module → List (List ℕ)
names_of ms = map (λ m. m.face.name) ms

names-flip : (x y : List ℕ) → bytes_eq x y ≡ bytes_eq y x
names-flip x y = nat_list_eq_equiv.symm x y

-- a name is among those of modules where one of them has it
among-named : (ms : List Module) (x : List ℕ) → is_among (names_of ms) x ≡ is_named (faces_of ms) x
among-named [] x = refl
among-named (m ∷ ms) x = rw (names-flip x m.face.name, among-named ms x) refl

among-both : (listed plan : List Module) (x : List ℕ)
    → is_among (names_of listed ++ names_of plan) x ≡ is_named (faces_of (listed ++ plan)) x
among-both listed plan x =
    ap (λ ns. is_among ns x) (sym (map-append (λ (m : Module). m.face.name) listed plan))
    ∙ among-named (listed ++ plan) x

-- a path is among those of names where a module has it
among-paths : (deps : Lines) (ms : List Module) (a : List ℕ)
    → ((m : Module) → Member m ms → deps.path m.face.name ≡ m.path)
    → is_among (map deps.path (names_of ms)) a ≡ is_at ms a
among-paths deps [] a paths = refl
among-paths deps (m ∷ ms) a paths =
    rw (paths m (inl refl), names-flip a m.path, among-paths deps ms a (λ p in'. paths p (inr in')))
    refl

collides-alike : (deps : Lines) (listed plan : List Module) (ls : List Unbound)
    → ((m : Module) → Member m (listed ++ plan) → deps.path m.face.name ≡ m.path)
    → list_any (collides (is_among (vmlinux ∷ map deps.path (names_of listed ++ names_of plan)))
    (is_among (map deps.path (names_of plan)))) ls
    ≡ list_any (collides (stands (listed ++ plan)) (is_at plan)) ls
collides-alike deps listed plan ls paths =
    λ i. list_any (collides (λ a. bytes_eq a vmlinux || both a i) (λ a. own a i)) ls
  where
    both : (a : List ℕ)
        → is_among (map deps.path (names_of listed ++ names_of plan)) a ≡ is_at (listed ++ plan) a
    both a =
        ap (λ ns. is_among (map deps.path ns) a)
        (sym (map-append (λ (m : Module). m.face.name) listed plan))
        ∙ among-paths deps (listed ++ plan) a paths

    own : (a : List ℕ) → is_among (map deps.path (names_of plan)) a ≡ is_at plan a
    own a = among-paths deps plan a (λ m in'. paths m (Member-right m listed plan in'))

-- a name of modules is that of a member
named-member : (ms : List Module) (x : List ℕ) → is_named (faces_of ms) x ≡ true
    → (m : Module) × Member m ms × (m.face.name ≡ x)
named-member [] x is = absurd (true≢false (sym is))
named-member (m ∷ ms) x is =
    elim (or_cases (bytes_eq m.face.name x) (is_named (faces_of ms) x) is) [
      | inl here ↦ (m, inl refl, same_name m.face.name x here)
      | inr later ↦ (let h = named-member ms x later in (h.0, inr h.1, h.2))
    ]

-- what a filter gives comes from a member
from-filter_map : {X Y : Type 0} (f : X → Option Y) (y : Y) (xs : List X)
    → Member y (filter_map f xs) → (x : X) × Member x xs × (f x ≡ Some y)
from-filter_map f y [] in' = absurd in'
from-filter_map f y (x ∷ xs) in' = either f y x xs (f x) refl in' (from-filter_map f y xs)
  where
    either : {X Y : Type 0} (f : X → Option Y) (y : Y) (x : X) (xs : List X) (o : Option Y)
        → f x ≡ o → Member y (cons_option o (filter_map f xs))
        → (Member y (filter_map f xs) → (x : X) × Member x xs × (f x ≡ Some y))
        → (z : X) × Member z (x ∷ xs) × (f z ≡ Some y)
    either f y x xs None is in' later = let h = later in' in (h.0, inr h.1, h.2)
    either f y x xs (Some z) is (inl same) later = (x, inl refl, is ∙ ap Some same)
    either f y x xs (Some z) is (inr in') later = let h = later in' in (h.0, inr h.1, h.2)

-- what a module uses is of the tree
pub uses-tree : (tree : List Module) (kernel : Kernel) (m p : Module)
    → Member p (uses tree kernel m) → Member p tree
uses-tree tree kernel m p in' =
    let h
    = from-filter_map
    (λ (n : Need). option_and_then (λ (v : Provided Module). owning_module v.owner)
    (provider tree kernel n.name)) p m.face.needs in' in
    owned h.0.name (of_kernel kernel h.0.name) (of_first module_exports tree h.0.name)
    (of_unknown kernel h.0.name) refl refl refl h.2
  where
    given_kernel : (x : List ℕ) (v : Provided Module) → of_kernel kernel x ≡ Some v
        → owning_module v.owner ≡ Some p → ⊥
    given_kernel x v is owns =
        none-some p (ap owning_module (sym (given-owner ByKernel kernel.exports x v is)) ∙ owns)

    given_unknown : (x : List ℕ) (b : Bool) (v : Provided Module) → kernel.known ≡ b
        → of_unknown kernel x ≡ Some v → owning_module v.owner ≡ Some p → ⊥
    given_unknown x true v known is owns = none-some v (rw known at is)
    given_unknown x false v known is owns =
        none-some p (ap (λ (w : Provided Module). owning_module w.owner)
        (same_Some _ _ (rw known at is))
        ∙ owns)

    owned : (x : List ℕ) (a b c : Option (Provided Module)) → of_kernel kernel x ≡ a
        → of_first module_exports tree x ≡ b → of_unknown kernel x ≡ c
        → option_and_then (λ (v : Provided Module). owning_module v.owner) (first (a ∷ b ∷ c ∷ []))
        ≡ Some p
        → Member p tree
    owned x (Some v) b c is_a is_b is_c owns = absurd (given_kernel x v is_a owns)
    owned x None (Some v) c is_a is_b is_c owns =
        let q = of_first-member module_exports tree x v is_b in
        let same : q.0 ≡ p =
        same_Some q.0 p
        (ap owning_module (sym (given-owner (ByModule q.0) q.0.face.exports x v q.2)) ∙ owns) in
        subst (λ z. Member z tree) same q.1
    owned x None None (Some v) is_a is_b is_c owns
        = absurd (given_unknown x kernel.known v refl is_c owns)
    owned x None None None is_a is_b is_c owns = absurd (none-some p owns)

-- a step of modules is one of names
named-step : (plan before : List Module) (m : Module) (step : IsStep plan before m)
    → names_of plan ≡ names_of before ++ m.face.name ∷ names_of step.after
named-step plan before m step =
    ap names_of step.split ∙ map-append (λ (m : Module). m.face.name) before (m ∷ step.after)

-- a member has a place
pub member-place : {X : Type 0} (x : X) (xs : List X) → Member x xs
    → (i : ℕ) × (slice_get xs i ≡ Some x)
member-place x [] in' = absurd in'
member-place x (y ∷ xs) (inl is) = (zero, ap Some is)
member-place x (y ∷ xs) (inr later) = let h = member-place x xs later in (suc h.0, h.1)

-- what stands first among those that pass passes
place-first : {X : Type 0} (p : X → Bool) (x : X) (xs : List X) → Member x xs → p x ≡ true
    → (y : X) × (slice_get xs (position_or_len p xs) ≡ Some y) × (p y ≡ true)
place-first p x [] in' passes = absurd in'
place-first p x (z ∷ xs) in' passes = go (p z) refl in' (λ later. place-first p x xs later passes)
  where
    go : (b : Bool) → p z ≡ b → Member x (z ∷ xs)
        → (Member x xs → (y : _) × (slice_get xs (position_or_len p xs) ≡ Some y) × (p y ≡ true))
        → (y : _) × (slice_get (z ∷ xs) (cond (not b) (1 + position_or_len p xs) 0) ≡ Some y)
        × (p y ≡ true)
    go true is in' later = (z, refl, is)
    go false is (inl same) later = absurd (true≢false (sym passes ∙ ap p (sym same) ∙ is))
    go false is (inr in') later =
        let h = later in' in
        let one : 1 + position_or_len p xs ≡ suc (position_or_len p xs) = omega arith in
        (h.0, ap (slice_get (z ∷ xs)) one ∙ h.1, h.2)

-- at the place of a module of a tree a module has its name
place-named : (tree : List Module) (p : Module) → Member p tree
    → (place tree p < length tree) × (name_at tree (place tree p) ≡ p.face.name)
place-named tree p in' =
    let h
    = place-first (λ m. bytes_eq m.face.name p.face.name) p tree in' (its_name p.face.name) in (
      slice_get_within tree (place tree p) h.0 h.1,
      ap (λ o. option_map_or (λ m. m.face.name) o []) h.1
          ∙ same_name h.0.face.name p.face.name h.2,
    )

has-mapped : {X : Type 0} (f : X → ℕ) (x : X) (xs : List X) → Member x xs
    → has (map f xs) (f x) ≡ true
has-mapped f x [] in' = absurd in'
has-mapped f x (y ∷ xs) (inl is) = or_left _ _ (eq-eqb (f x) (f y) (ap f (sym is)))
has-mapped f x (y ∷ xs) (inr later) = or_right _ _ (has-mapped f x xs later)

-- the dependency line of a module names what it uses, where no walk leads back
uses-named : (tree : List Module) (kernel : Kernel) (deps : Lines) (m p : Module)
    → cycle (uses_at tree kernel) (below (length tree)) ≡ [] → AreLinesOf tree kernel deps
    → Member m tree → Member p (uses tree kernel m) → Member p.face.name (deps.line m.face.name)
uses-named tree kernel deps m p acyclic lines in' used =
    let at = member-place m tree in' in
    let there = place-named tree p (uses-tree tree kernel m p used) in
    let goes : uses_at tree kernel at.0 (place tree p) ≡ true =
    ap (λ o. option_map_or (λ m. has (map (place tree) (uses tree kernel m)) (place tree p)) o
    false) at.1
    ∙ has-mapped (place tree) p (uses tree kernel m) used in
    let low = there.0 in
    let member : has (below (length tree)) (place tree p) ≡ true
    = has-range 0 (length tree) (place tree p) (omega arith) (omega (arith, low)) in
    subst (λ name. Member name (deps.line m.face.name)) there.1
    (lines.named at.0 (place tree p) m at.1
    (closure-first (uses_at tree kernel) (length tree) at.0 (place tree p) acyclic goes
    member))

-- of distinct names each differs from those before it
all-member : (P : List ℕ → Type 0) (x : List ℕ) (xs : List (List ℕ)) → AllByRecursion P xs
    → Member x xs → P x
all-member P x [] all in' = absurd in'
all-member P x (y ∷ ys) all (inl is) = subst P is all.0
all-member P x (y ∷ ys) all (inr later) = all-member P x ys all.1 later

distinct-before : (before : List (List ℕ)) (x : List ℕ) (after : List (List ℕ))
    → IsDistinct bytes_eq (before ++ x ∷ after) → is_among before x ≡ false
unfolding IsDistinct
distinct-before [] x after distinct = refl
distinct-before (y ∷ ys) x after distinct =
    rw (
      names-flip x y,
      all-member (λ z. bytes_eq y z ≡ false) x (ys ++ x ∷ after) distinct.0
          (Member-right x ys (x ∷ after) (inl refl)),
    ) (distinct-before ys x after distinct.1)

-- Plans that are closed by their names are closed.
pub names-suffice : (tree : List Module) (kernel : Kernel) (deps : Lines)
    (listed plan : List Module)
    → ((p q : Module) → Member p tree → Member q tree → p.face.name ≡ q.face.name → p ≡ q)
    → cycle (uses_at tree kernel) (below (length tree)) ≡ [] → AreLinesOf tree kernel deps
    → ((m : Module) → Member m listed → Member m tree)
    → ((m : Module) → Member m plan → Member m tree)
    → AreClosed deps (unmet tree kernel) (names_of listed) (names_of plan)
    → IsClosed tree kernel listed plan
names-suffice tree kernel deps listed plan distinct acyclic of_tree listed_tree plan_tree closed =
    record {
      of_tree = plan_tree;
      fresh
          = λ before m step. sym (among-both listed before m.face.name)
          ∙ fresh (names_of before) m.face.name (names_of step.after)
          (named-step plan before m step);
      behind = λ before m step p used.
          let in_plan = step-member plan before m step in
          let there : is_named (faces_of (listed ++ before)) p.face.name ≡ true =
          sym (among-both listed before p.face.name)
          ∙ closed.behind (names_of before) m.face.name (names_of step.after)
          (named-step plan before m step) p.face.name
          (uses-named tree kernel deps m p acyclic of_tree (plan_tree m in_plan) used) in
          let q = named-member (listed ++ before) p.face.name there in
          let q_tree : Member q.0 tree =
          elim (Member-cases q.0 listed before q.1) [
            | inl l ↦ listed_tree q.0 l
            | inr b ↦ plan_tree q.0 (before-member plan before m q.0 step b)
          ] in
          subst (λ z. Member z (listed ++ before))
          (distinct q.0 p q_tree (uses-tree tree kernel m p used) q.2) q.1;
      alone = sym (collides-alike deps listed plan (unmet tree kernel) paths) ∙ closed.alone;
      clear = λ m in'.
          rw (of_tree.paths m (plan_tree m in')) at
          (closed.clear m.face.name (Member-map (λ (m : Module). m.face.name) m plan in'));
    }
  where
    fresh : (before : List (List ℕ)) (x : List ℕ) (after : List (List ℕ))
        → names_of plan ≡ before ++ x ∷ after → is_among (names_of listed ++ before) x ≡ false
    fresh before x after split =
        list_any-append (bytes_eq x) (names_of listed) before
        ∙ rw (closed.unlisted x
        (subst (Member x) (sym split) (Member-right x before (x ∷ after) (inl refl))))
        (distinct-before before x after (subst (IsDistinct bytes_eq) split closed.distinct))

    paths : (m : Module) → Member m (listed ++ plan) → deps.path m.face.name ≡ m.path
    paths m in' =
        elim (Member-cases m listed plan in') [
          | inl l ↦ of_tree.paths m (listed_tree m l)
          | inr b ↦ of_tree.paths m (plan_tree m b)
        ]
