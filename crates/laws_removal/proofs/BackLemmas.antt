-- The machine from before is left.
use Rattle.std.proofs.Common.{◌≡◌, ◌≤◌, ◌<◌, ◌∙◌, ℕ, zero, suc, true, false, List, [], ◌∷◌, ◌++◌}
use Rattle.std.proofs.Common.{refl, sym, ap, arith, length, map}
use Rattle.std.specs.Prelude.{slice_get, Result, Ok, Err}
use Rattle.std.specs.List.{AllByRecursion, IsDistinct}
use Rattle.std.specs.Option.{option_map_or}
use Rattle.std.specs.Str.{bytes_eq}
use Rattle.std.proofs.lemmas.Bool.{false≢true}
use Rattle.model_loader.specs.declared.entry.Entry.{Entry}
use Rattle.load_fault.specs.declared.fault.LoadFault.{LoadFault}
use Rattle.model_loader.specs.Machine.{Machine, new_machine}
use Rattle.model_loader.specs.Use.{without_all}
use Rattle.model_unload.specs.Unload.{AreFallingFrom, unload_all}
use Rattle.laws_closed_plans.specs.Loads.{load_all, unless_refused}
use Rattle.laws_closed_plans.proofs.BindingLemmas.{loads-bind}
use Rattle.laws_closed_plans.proofs.LoadLemmas.{load-append}
use Rattle.remove_plan.specs.Removal.{left_after, removed_by}
use Rattle.remove_plan.proofs.RemovalLemmas.{removed-are-least}
use Rattle.laws_removal.specs.Back.{OlderAreLeft, RemovalsTakeBack}
use Rattle.laws_removal.specs.Loads.{added}
use Rattle.laws_removal.proofs.LoadLemmas.{are-added, loads-undone}
use Rattle.laws_removal.proofs.PassLemmas.{left-outside}
use Rattle.laws_removal.proofs.UnloadedLemmas.{removals-are-unloaded, removed-fall}
use Rattle.model_loader.proofs.ListedLemmas.{name_of, same-name}

-- If no two entries have one name, a name decides its place.
abbrev name_in : List Entry → ℕ → List ℕ
name_in es k = option_map_or name_of (slice_get es k) []

named-by : (P : List ℕ → Type 0) (es : List Entry) (k : ℕ) → k < length es
    → AllByRecursion P (map name_of es) → P (name_in es k)
named-by P [] k less all = absurd (omega (arith, less))
named-by P (e ∷ es) zero less all = all.0
named-by P (e ∷ es) (suc k) less all = named-by P es k (omega (arith, less)) all.1

apart-names : (e : Entry) (es : List Entry) (k : ℕ) → k < length es
    → AllByRecursion (λ z. bytes_eq e.loaded.name z ≡ false) (map name_of es)
    → e.loaded.name ≡ name_in es k → ⊥
apart-names e es k less all same =
    false≢true
    (sym (named-by (λ z. bytes_eq e.loaded.name z ≡ false) es k less all)
    ∙ ap (bytes_eq e.loaded.name) (sym same)
    ∙ same-name e.loaded.name)

place-one : (es : List Entry) (i j : ℕ) → i < length es → j < length es
    → IsDistinct bytes_eq (map name_of es) → name_in es i ≡ name_in es j → i ≡ j
unfolding IsDistinct
place-one [] i j less_i less_j distinct same = absurd (omega (arith, less_i))
place-one (e ∷ es) zero zero less_i less_j distinct same = refl
place-one (e ∷ es) zero (suc j) less_i less_j distinct same =
    absurd (apart-names e es j (omega (arith, less_j)) distinct.0 same)
place-one (e ∷ es) (suc i) zero less_i less_j distinct same =
    absurd (apart-names e es i (omega (arith, less_i)) distinct.0 (sym same))
place-one (e ∷ es) (suc i) (suc j) less_i less_j distinct same =
    ap suc (place-one es i j (omega (arith, less_i)) (omega (arith, less_j)) distinct.1 same)

-- So do the names of places.
abbrev Inside : ℕ → List ℕ → Type 0
Inside n [] = Unit {0}
Inside n (k ∷ ks) = (k < n) × Inside n ks

falling-inside : (n m : ℕ) (ks : List ℕ) → m ≤ n → AreFallingFrom m ks → Inside n ks
falling-inside n m [] le fall = tt
falling-inside n m (k ∷ ks) le fall =
    (omega (arith, le, fall.0), falling-inside n k ks (omega (arith, le, fall.0)) fall.1)

places-one : (es : List Entry) (ks ls : List ℕ) → IsDistinct bytes_eq (map name_of es)
    → Inside (length es) ks → Inside (length es) ls → map (name_in es) ks ≡ map (name_in es) ls
    → ks ≡ ls
places-one es [] [] distinct in_k in_l same = refl
places-one es [] (l ∷ ls) distinct in_k in_l same =
    absurd (let e : ◌≡◌ {A = List (List ℕ)} [] (name_in es l ∷ map (name_in es) ls) = same in cc)
places-one es (k ∷ ks) [] distinct in_k in_l same =
    absurd (let e : ◌≡◌ {A = List (List ℕ)} (name_in es k ∷ map (name_in es) ks) [] = same in cc)
places-one es (k ∷ ks) (l ∷ ls) distinct in_k in_l same =
    let e : ◌≡◌ {A = List (List ℕ)} (name_in es k ∷ map (name_in es) ks)
    (name_in es l ∷ map (name_in es) ls)
    = same in
    let here : name_in es k ≡ name_in es l = cc in
    let rest : map (name_in es) ks ≡ map (name_in es) ls = cc in
    ap (λ m. m ∷ ks) (place-one es k l in_k.0 in_l.0 distinct here)
    ∙ ap (λ ms. l ∷ ms) (places-one es ks ls distinct in_k.1 in_l.1 rest)

pub older-left : OlderAreLeft
older-left machine after older newer names is distinct same =
    go (load_all machine older) refl (sym (load-append machine older newer) ∙ is)
  where
    go : (r : Result Machine LoadFault) → load_all machine older ≡ r
        → unless_refused (λ mid. load_all mid newer) r ≡ Ok after
        → load_all machine older ≡ Ok (left_after after names)
    go (Err fault) at done
        = absurd (let e : ◌≡◌ {A = Result Machine LoadFault} (Err fault) (Ok after) = done in cc)
    go (Ok mid) at done =
        let n = length after.entries in
        let ks = removed_by after names in
        let undone = loads-undone mid after newer done in
        let all = are-added mid after newer done in
        let places : ks ≡ added mid newer =
        places-one after.entries ks (added mid newer) distinct
        (falling-inside n n ks (omega arith) (removed-fall after names))
        (falling-inside n n (added mid newer) (omega arith) all.falling) (same ∙ sym all.names)
        in
        let left : left_after after names ≡ mid
        = sym (left-outside after ks (removed-are-least after names).falling)
        ∙ ap (without_all after) places ∙ undone.1 in
        at ∙ ap Ok (sym left)

pub removals-take-back : RemovalsTakeBack
removals-take-back kernel region older newer after names is free same =
    let sound = loads-bind kernel region (older ++ newer) after is in
    let loaded
    = older-left (new_machine kernel region) after older newer names is sound.names same in
    record {
      loaded = loaded;
      unloaded
          = ap (unload_all after) (sym same) ∙ removals-are-unloaded after names sound.names free;
      sound = loads-bind kernel region older (left_after after names) loaded;
    }
