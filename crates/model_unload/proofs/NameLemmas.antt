-- Modules taken out by their names, one after the other.
use Rattle.std.proofs.Common.{◌≡◌, ◌≤◌, ◌<◌, ◌+◌, ◌∙◌, inl, inr, ℕ, zero, suc, Bool, true, false}
use Rattle.std.proofs.Common.{List, [], ◌∷◌, Some, None, refl, sym, ap, arith, length, cond, map}
use Rattle.std.specs.Prelude.{find, remove, slice_get, Ok, Err}
use Rattle.std.specs.List.{AllByRecursion, IsDistinct, range_with_len}
use Rattle.std.specs.Option.{option_map_or}
use Rattle.std.specs.Str.{bytes_eq}
use Rattle.std.proofs.lemmas.List.Edits.{length-remove}
use Rattle.model_loader.specs.declared.entry.Entry.{Entry}
use Rattle.model_loader.specs.Machine.{Machine}
use Rattle.model_loader.specs.Sound.{entry_names}
use Rattle.model_loader.specs.Use.{IsUnused, binds, name_at, places, without}
use Rattle.model_loader.proofs.PlaceLemmas.{at-or-above, below-cut, item}
use Rattle.model_unload.specs.declared.UnloadFault.TheVariants.{NotLoaded, InUse}
use Rattle.model_unload.specs.Unload.{AreFallingFrom, UnusedAreUnloaded, is_named_at, place_of}
use Rattle.model_unload.specs.Unload.{unless_refused, unload_all, unloaded, unloaded_at}
use Rattle.model_loader.proofs.ListedLemmas.{at-place, name_of, same-name}

find-first : (p : ℕ → Bool) (i n k : ℕ) → i ≤ k → k < i + n → p k ≡ true
    → ((u : ℕ) → u < k → p u ≡ false) → find p (range_with_len i n) ≡ Some k
find-first p i zero k low high here before = absurd (omega (arith, low, high))
find-first p i (suc n) k low high here before =
    elim (at-or-above i k low) [
      | inl same ↦ ap (λ b. cond b (Some i) (find p (range_with_len (i + 1) n))) (ap p same ∙ here)
          ∙ ap Some same
      | inr above ↦
          ap (λ b. cond b (Some i) (find p (range_with_len (i + 1) n)))
          (before i (omega (arith, above)))
          ∙ find-first p (i + 1) n k above (omega (arith, high)) here before
    ]

pub none-found : (p : ℕ → Bool) (ks : List ℕ) → ((u : ℕ) → p u ≡ false) → find p ks ≡ None
none-found p [] none = refl
none-found p (k ∷ ks) none = ap (λ b. cond b (Some k) (find p ks)) (none k) ∙ none-found p ks none

before-differs : (es : List Entry) (u k : ℕ) (e : Entry) → slice_get es k ≡ Some e → u < k
    → IsDistinct bytes_eq (map name_of es)
    → option_map_or (λ (x : Entry). bytes_eq x.loaded.name e.loaded.name) (slice_get es u) false
    ≡ false
unfolding IsDistinct
before-differs [] u k e at less distinct = refl
before-differs (y ∷ ys) u zero e at less distinct = absurd (omega (arith, less))
before-differs (y ∷ ys) zero (suc k) e at less distinct =
    at-place (λ z. bytes_eq y.loaded.name z ≡ false) ys k e at distinct.0
before-differs (y ∷ ys) (suc u) (suc k) e at less distinct =
    before-differs ys u k e at (omega (arith, less)) distinct.1

pub place-is : (machine : Machine) (k : ℕ) → IsDistinct bytes_eq (entry_names machine)
    → k < length machine.entries → place_of machine (name_at machine k) ≡ Some k
place-is machine k distinct less =
    let it = item machine.entries k less in
    let e = it.0 in
    let name : name_at machine k ≡ e.loaded.name = ap (λ o. option_map_or name_of o []) it.1 in
    ap (place_of machine) name
    ∙ find-first (is_named_at machine e.loaded.name) 0 (length machine.entries) k (omega arith)
    (omega (arith, less))
    (ap (λ o. option_map_or (λ (x : Entry). bytes_eq x.loaded.name e.loaded.name) o false) it.1
    ∙ same-name e.loaded.name)
    (λ u below. before-differs machine.entries u k e it.1 below distinct)

-- A module without a user is removed.
pub unloaded-unused : (machine : Machine) (name : List ℕ) (k : ℕ) → place_of machine name ≡ Some k
    → IsUnused machine k → unloaded machine name ≡ Ok (without machine k)
unloaded-unused machine name k found unused =
    ap (λ o. option_map_or (unloaded_at machine) o (Err NotLoaded)) found
    ∙ ap (λ o. option_map_or (λ u. Err (InUse u)) o (Ok (without machine k)))
    (none-found (λ u. binds machine u k) (places machine) unused)

unloaded-is : (machine : Machine) (k : ℕ) → IsDistinct bytes_eq (entry_names machine)
    → k < length machine.entries → IsUnused machine k
    → unloaded machine (name_at machine k) ≡ Ok (without machine k)
unloaded-is machine k distinct less unused =
    unloaded-unused machine (name_at machine k) k (place-is machine k distinct less) unused

differs-remove : (P : List ℕ → Type 0) (es : List Entry) (k : ℕ) → AllByRecursion P (map name_of es)
    → AllByRecursion P (map name_of (remove es k))
differs-remove P [] zero all = all
differs-remove P [] (suc k) all = all
differs-remove P (y ∷ ys) zero all = all.1
differs-remove P (y ∷ ys) (suc k) all = (all.0, differs-remove P ys k all.1)

pub distinct-remove : (es : List Entry) (k : ℕ) → IsDistinct bytes_eq (map name_of es)
    → IsDistinct bytes_eq (map name_of (remove es k))
unfolding IsDistinct
distinct-remove [] zero all = all
distinct-remove [] (suc k) all = all
distinct-remove (y ∷ ys) zero all = all.1
distinct-remove (y ∷ ys) (suc k) all =
    (differs-remove (λ z. bytes_eq y.loaded.name z ≡ false) ys k all.0, distinct-remove ys k all.1)

pub fall-less : (n m : ℕ) (ks : List ℕ) → n ≤ m → AreFallingFrom n ks → AreFallingFrom m ks
fall-less n m [] le fall = tt
fall-less n m (k ∷ ks) le fall = (omega (arith, le, fall.0), fall.1)

pub names-stay : (machine : Machine) (k m : ℕ) (ks : List ℕ) → m ≤ k → AreFallingFrom m ks
    → map (name_at machine) ks ≡ map (name_at (without machine k)) ks
names-stay machine k m [] le fall = refl
names-stay machine k m (j ∷ ks) le fall =
    ap (λ o. option_map_or name_of o [] ∷ map (name_at machine) ks)
    (sym (below-cut machine.entries k j (omega (arith, le, fall.0))))
    ∙ ap (λ l. name_at (without machine k) j ∷ l)
    (names-stay machine k j ks (omega (arith, le, fall.0)) fall.1)

pub unused-are-unloaded : UnusedAreUnloaded
unused-are-unloaded machine [] distinct fall unused = refl
unused-are-unloaded machine (k ∷ ks) distinct fall unused =
    ap (unless_refused (λ next. unload_all next (map (name_at machine) ks)))
    (unloaded-is machine k distinct fall.0 unused.0)
    ∙ ap (unload_all (without machine k)) (names-stay machine k k ks (omega arith) fall.1)
    ∙ unused-are-unloaded (without machine k) ks (distinct-remove machine.entries k distinct)
    (fall-less k (length (remove machine.entries k)) ks
    (omega (arith, length-remove machine.entries k fall.0, fall.0)) fall.1) unused.1
