-- Modules that export one name.
use Rattle.std.proofs.Common.{◌≡◌, ℕ, Bool, true, false, ◌&&◌, ◌||◌, List, [], ◌∷◌, ◌++◌, Some}
use Rattle.std.proofs.Common.{None, refl, sym, ap, ◌∙◌, inl, inr}
use Rattle.std.proofs.lemmas.Bool.{true≢false, or_right, or_left}
use Rattle.std.proofs.lemmas.List.{map-append}
use Rattle.std.proofs.lemmas.Option.{none-some}
use Rattle.std.specs.List.{list_any}
use Rattle.std.specs.Str.{bytes_eq}
use Rattle.laws_closed_plans.specs.Members.{Member}
use Rattle.symbol_binding.specs.Symbols.{Export, Face, Module, Kernel}
use Rattle.symbol_binding.specs.Provider.{ByModule, Provided, export_under, of_kernel, of_one}
use Rattle.symbol_binding.specs.Provider.{of_first, face_exports, module_exports}
use Rattle.symbol_binding.specs.Unmet.{vmlinux, unmet, collides}
use Rattle.symbol_binding.specs.declared.unbound.Unbound.{Unbound}
use Rattle.symbol_binding.specs.declared.unbound.Unbound.TheVariants.{Double}
use Rattle.laws_closed_plans.specs.Names.{first_name_fault, is_named, seen_table}
use Rattle.laws_closed_plans.specs.Plan.{faces_of, is_at, stands}
use Rattle.laws_closed_plans.proofs.ListLemmas.{first-none, each-first, none_passes, Precedes}
use Rattle.laws_closed_plans.proofs.ListLemmas.{Member-order, Member-right, Member-map, split_at}
use Rattle.laws_closed_plans.proofs.ProviderLemmas.{its_name, given-member, export-face}
use Rattle.laws_closed_plans.proofs.UnmetLemmas.{double-modules, double-kernel}
use Rattle.laws_closed_plans.proofs.NameLemmas.{fault-passed, all-passed}

-- nothing stands under a name: no loaded module exports it
pub none-exports : (kernel : Kernel) (loaded : List Module) (x : List ℕ) (p : Module)
    (v : Provided Module)
    → seen_table kernel (faces_of loaded) x ≡ None → Member p loaded
    → of_one module_exports x p ≡ Some v → ⊥
none-exports kernel loaded x p v none in' gives =
    let h = first-none (of_kernel kernel x) (of_first face_exports (faces_of loaded) x ∷ []) none in
    let face
    = each-first (of_one face_exports x) p.face (faces_of loaded)
    (first-none (of_first face_exports (faces_of loaded) x) [] h.1).0
    (Member-map (λ (m : Module). m.face) p loaded in') in
    none-some v.export (sym (ap export_under face) ∙ export-face p x ∙ ap export_under gives)

-- of modules that loaded in turn, a later one exports nothing that an earlier one does
listed-order : (kernel : Kernel) (listed : List Module) (x : List ℕ) (p q : Module)
    (v w : Provided Module)
    → first_name_fault kernel [] (faces_of listed) ≡ None → Precedes p q listed
    → of_one module_exports x p ≡ Some v → of_one module_exports x q ≡ Some w → ⊥
listed-order kernel listed x p q v w loaded order gives_p gives_q =
    let split : faces_of listed ≡ faces_of order.front ++ q.face ∷ faces_of order.back =
    ap faces_of order.split ∙ map-append (λ (m : Module). m.face) order.front (q ∷ order.back) in
    let passed
    = fault-passed kernel (faces_of order.front) q.face
    (all-passed kernel [] (faces_of order.front) q.face (faces_of order.back)
    (rw split at loaded)) in
    let e = given-member (ByModule q) q.face.exports x w gives_q in
    let free : seen_table kernel (faces_of order.front) x ≡ None
    = rw e.1 at (passed.untaken w.export e.0) in
    none-exports kernel order.front x p v free order.early gives_p

-- two of them that export one name are one
pub one-listed : (kernel : Kernel) (listed : List Module) (x : List ℕ) (p q : Module)
    (v w : Provided Module)
    → first_name_fault kernel [] (faces_of listed) ≡ None → Member p listed → Member q listed
    → of_one module_exports x p ≡ Some v → of_one module_exports x q ≡ Some w → p ≡ q
one-listed kernel listed x p q v w loaded in_p in_q gives_p gives_q =
    elim (Member-order p q listed in_p in_q) [
      | inl same ↦ same
      | inr order ↦ elim order [
        | inl o ↦ absurd (listed-order kernel listed x p q v w loaded o gives_p gives_q)
        | inr o ↦ absurd (listed-order kernel listed x q p w v loaded o gives_q gives_p)
      ]
    ]

-- a module is named in a list that has it
pub named : (m : Face) (ms : List Face) → Member m ms → is_named ms m.name ≡ true
named m [] in' = absurd in'
named m (p ∷ ms) (inl is) = rw is (rw (its_name m.name) refl)
named m (p ∷ ms) (inr later) =
    or_right (bytes_eq p.name m.name) (is_named ms m.name) (named m ms later)

-- and its path is one of the list's
pub has_path : (m : Module) (ms : List Module) → Member m ms → is_at ms m.path ≡ true
has_path m [] in' = absurd in'
has_path m (p ∷ ms) (inl is) = rw is (rw (its_name m.path) refl)
has_path m (p ∷ ms) (inr later) =
    or_right (bytes_eq p.path m.path) (is_at ms m.path) (has_path m ms later)

pub standing : (m : Module) (ms : List Module) → Member m ms → stands ms m.path ≡ true
standing m ms in' = or_right (bytes_eq m.path vmlinux) (is_at ms m.path) (has_path m ms in')

-- no line collides
pub no-collision : (listed plan : List Module) (ls : List Unbound) (x a b : List ℕ)
    → list_any (collides (stands (listed ++ plan)) (is_at plan)) ls ≡ false
    → Member (Double x a b) ls → stands (listed ++ plan) a ≡ true → stands (listed ++ plan) b ≡ true
    → (is_at plan a || is_at plan b) ≡ true → ⊥
no-collision listed plan ls x a b alone line is_a is_b one =
    let fails : ((is_at plan a || is_at plan b)
    && stands (listed ++ plan) a
    && stands (listed ++ plan) b)
    ≡ false
    =
    none_passes (collides (stands (listed ++ plan)) (is_at plan)) (Double x a b) ls alone line in
    true≢false (all-true _ _ _ one is_a is_b fails)
  where
    all-true : (a b c : Bool) → a ≡ true → b ≡ true → c ≡ true → (a && b && c) ≡ false
        → true ≡ false
    all-true true true true a b c fails = fails
    all-true true true false a b c fails = sym c
    all-true true false c a b c' fails = sym b
    all-true false b c a b' c' fails = sym a

-- no two modules, with one of the plan, export one name
plan-order : (tree : List Module) (kernel : Kernel) (listed plan : List Module) (x : List ℕ)
    (p q : Module) (v w : Provided Module)
    → list_any (collides (stands (listed ++ plan)) (is_at plan)) (unmet tree kernel) ≡ false
    → Precedes p q tree → Member p (listed ++ plan) → Member q (listed ++ plan)
    → (is_at plan p.path || is_at plan q.path) ≡ true → of_one module_exports x p ≡ Some v
    → of_one module_exports x q ≡ Some w → ⊥
plan-order tree kernel listed plan x p q v w alone order in_p in_q one gives_p gives_q =
    let e = given-member (ByModule q) q.face.exports x w gives_q in
    let gives : of_one module_exports w.export.name p ≡ Some v = rw e.1 gives_p in
    no-collision listed plan (unmet tree kernel) w.export.name p.path q.path alone
    (double-modules tree kernel p q w.export v order e.0 gives)
    (standing p (listed ++ plan) in_p) (standing q (listed ++ plan) in_q) one

-- a module of the plan, and another that stands with it, that export one name are one
pub one-planned : (tree : List Module) (kernel : Kernel) (listed plan : List Module) (x : List ℕ)
    (p q : Module) (v w : Provided Module)
    → list_any (collides (stands (listed ++ plan)) (is_at plan)) (unmet tree kernel) ≡ false
    → Member p tree → Member q tree → Member p plan → Member q (listed ++ plan)
    → of_one module_exports x p ≡ Some v → of_one module_exports x q ≡ Some w → p ≡ q
one-planned tree kernel listed plan x p q v w alone tree_p tree_q in_p in_q gives_p gives_q =
    let in_p' = Member-right p listed plan in_p in
    let one = has_path p plan in_p in
    elim (Member-order p q tree tree_p tree_q) [
      | inl same ↦ same
      | inr order ↦ elim order [
        | inl o ↦ absurd
            (plan-order tree kernel listed plan x p q v w alone o in_p' in_q
            (or_left (is_at plan p.path) (is_at plan q.path) one) gives_p gives_q)
        | inr o ↦ absurd
            (plan-order tree kernel listed plan x q p w v alone o in_q in_p'
            (or_right (is_at plan q.path) (is_at plan p.path) one) gives_q gives_p)
      ]
    ]

-- a module of the plan exports nothing that the kernel does
pub none-taken : (tree : List Module) (kernel : Kernel) (listed plan : List Module) (m : Module)
    (e : Export) (v : Provided Module)
    → list_any (collides (stands (listed ++ plan)) (is_at plan)) (unmet tree kernel) ≡ false
    → Member m tree → Member m plan → Member e m.face.exports → of_kernel kernel e.name ≡ Some v → ⊥
none-taken tree kernel listed plan m e v alone in_tree in_plan in' gives =
    let s = split_at m tree in_tree in
    no-collision listed plan (unmet tree kernel) e.name vmlinux m.path alone
    (double-kernel tree kernel m e v s.0 s.1 s.2 in' gives) refl
    (standing m (listed ++ plan) (Member-right m listed plan in_plan))
    (or_right (is_at plan vmlinux) (is_at plan m.path) (has_path m plan in_plan))
