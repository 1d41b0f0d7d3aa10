-- The tests of needs, by a table that keeps what is bound.
use Rattle.std.proofs.Common.{◌≡◌, ◌∙◌, ℕ, Bool, true, false, List, [], ◌∷◌, Some, refl, sym, ap}
use Rattle.std.proofs.Common.{cond, map}
use Rattle.std.specs.Prelude.{find, option_map}
use Rattle.std.specs.Str.{bytes_eq}
use Rattle.std.proofs.lemmas.Slice.Eq.{bytes_eq-Decides}
use Rattle.module_facts.specs.declared.facts.Facts.{Facts}
use Rattle.module_symbols.specs.declared.needs.Need.{Need as FactsNeed}
use Rattle.export_table.specs.declared.standing.ExportTable.{ExportTable}
use Rattle.model_loader.specs.Machine.{Machine, bound_export, facts_face, facts_need}
use Rattle.export_table.specs.Exports.{standing_export}
use Rattle.export_table.specs.NeedTests.{failed_need, need_fails}
use Rattle.load_fault.specs.declared.fault.LoadFault.{LoadFault}
use Rattle.symbol_binding.specs.Needs.{NeedTest}
use Rattle.model_loader.specs.Standing.{Keeps}
use Rattle.model_loader.specs.Step.{need_test}

-- The first item that passes a test, of a list made by a function.
pub find-map : {X Y : Type 0} (p : Y → Bool) (f : X → Y) (xs : List X)
    → find p (map f xs) ≡ option_map f (find (λ x. p (f x)) xs)
find-map p f [] = refl
find-map p f (x ∷ xs) =
    elim (p (f x)) as
    (λ b. cond b (Some (f x)) (find p (map f xs))
    ≡ option_map f (cond b (Some x) (find (λ y. p (f y)) xs))) [
      | true ↦ refl
      | false ↦ find-map p f xs
    ]

-- Tests that answer alike find alike.
pub find-same : {X : Type 0} (p q : X → Bool) → ((x : X) → p x ≡ q x) → (xs : List X)
    → find p xs ≡ find q xs
find-same p q same [] = refl
find-same p q same (x ∷ xs) =
    ap (λ b. cond b (Some x) (find p xs)) (same x)
    ∙ ap (cond (q x) (Some x)) (find-same p q same xs)

pub same_name : (y x : List ℕ) → bytes_eq y x ≡ true → y ≡ x
same_name y x is = (bytes_eq-Decides y x).0 is

-- The test of a need over a machine whose names a table keeps.
pub need_test-is : (machine : Machine) (t : ExportTable) (f : Facts) (test : NeedTest)
    (fault : List ℕ → LoadFault)
    → Keeps t machine → need_test machine f test fault ≡ failed_need t f test fault
need_test-is machine t f test fault keeps =
    ap (option_map (λ (n : FactsNeed). fault n.name))
    (find-same (λ n. test (bound_export machine n.name) (facts_face f) (facts_need n))
    (need_fails test t f)
    (λ n. ap (λ o. test (option_map (standing_export n.name) o) (facts_face f) (facts_need n))
    (sym (keeps.at n.name))) f.needs)
