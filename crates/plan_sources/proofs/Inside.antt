-- Places of modules are below their count.
use Rattle.std.proofs.Common.{◌≡◌, ℕ, ◌<◌, Bool, true, false, cond, List, [], ◌∷◌, ◌++◌, length}
use Rattle.std.proofs.Common.{Option, Some, None, refl, sym, ◌∙◌, inl, inr}
use Rattle.std.specs.Prelude.{◌||◌, ◌⊎◌, ◌&&◌, ◌==◌, not, All, nat_lt, nat_eq}
use Rattle.std.specs.List.{flat_map, position, position_or_len}
use Rattle.std.specs.Option.{option_to_list}
use Rattle.std.specs.Str.{bytes_eq}
use Rattle.std.proofs.lemmas.Bool.{true≢false, or_cases, eqb-true, ltb-true}
use Rattle.std.proofs.lemmas.List.Folds.{list_any-append}
use Rattle.relation_order.specs.Sets.{has}
use Rattle.relation_order.proofs.Saturation.{kept}
use Rattle.relation_order.proofs.PlaceSteps.{all-within}
use Rattle.index_format.specs.Listing.{KeyValue}
use Rattle.dependency_lines.specs.Modules.{place_of, places_of}
use Rattle.relation_order.proofs.Finding.{has-items}
use Rattle.plan_sources.specs.Softdeps.{once}
use Rattle.plan_sources.specs.Sources.{Sources, modules, soft_places, found_names, is_available}

pub has-append : (xs ys : List ℕ) (y : ℕ) → has (xs ++ ys) y ≡ (has xs y || has ys y)
has-append xs ys y = list_any-append _ xs ys

-- ---- positions

pub position-low : {X : Type 0} (p : X → Bool) (xs : List X) (y : ℕ) → position p xs ≡ Some y
    → y < length xs
position-low p xs y e = go (nat_lt (position_or_len p xs) (length xs)) refl e
  where
    go : (b : Bool) → nat_lt (position_or_len p xs) (length xs) ≡ b
        → cond b (Some (position_or_len p xs)) None ≡ Some y → y < length xs
    go true l e =
        let same : position_or_len p xs ≡ y = cc in
        Rattle.std.proofs.Common.subst (λ n. n < length xs) same (ltb-true _ _ l)
    go false l e = absurd (let bad = e in cc)

option-low : (n : ℕ) (o : Option ℕ) → ((y : ℕ) → o ≡ Some y → y < n) → (y : ℕ)
    → has (option_to_list o) y ≡ true → y < n
option-low n None low y h = absurd (true≢false (sym h))
option-low n (Some x) low y h = go (or_cases (nat_eq y x) false h)
  where
    go : (nat_eq y x ≡ true) ⊎ (false ≡ true) → y < n
    go (inl s) = Rattle.std.proofs.Common.subst (λ z. z < n) (sym (eqb-true y x s)) (low x refl)
    go (inr bad) = absurd (true≢false (sym bad))

-- ---- places

pub places-low : (ms : List KeyValue) (names : List (List ℕ)) (y : ℕ)
    → has (places_of ms names) y ≡ true → y < length ms
places-low ms [] y h = absurd (true≢false (sym h))
places-low ms (name ∷ names) y h =
    go (or_cases _ _
    (sym (has-append (option_to_list (place_of ms name)) (places_of ms names) y) ∙ h))
    (places-low ms names y)
  where
    go : (has (option_to_list (place_of ms name)) y ≡ true) ⊎ (has (places_of ms names) y ≡ true)
        → (has (places_of ms names) y ≡ true → y < length ms) → y < length ms
    go (inl m) ih
        = option-low (length ms) (place_of ms name) (position-low (λ m. bytes_eq m.0 name) ms) y m
    go (inr m) ih = ih m

pub places-inside : (ms : List KeyValue) (names : List (List ℕ))
    → All (λ y. y < length ms) (places_of ms names)
places-inside ms names = all-within (length ms) (places_of ms names) (places-low ms names)

pub found-low : (s : Sources) (names : List (List ℕ)) (y : ℕ)
    → has (flat_map (λ name. places_of (modules s) (found_names s name)) names) y ≡ true
    → y < length (modules s)
found-low s [] y h = absurd (true≢false (sym h))
found-low s (name ∷ names) y h =
    go (or_cases _ _ (sym
    (has-append (places_of (modules s) (found_names s name))
    (flat_map (λ name. places_of (modules s) (found_names s name)) names) y)
    ∙ h)) (found-low s names y)
  where
    go : (has (places_of (modules s) (found_names s name)) y ≡ true)
        ⊎ (has (flat_map (λ name. places_of (modules s) (found_names s name)) names) y ≡ true)
        → (has (flat_map (λ name. places_of (modules s) (found_names s name)) names) y ≡ true
        → y < length (modules s))
        → y < length (modules s)
    go (inl m) ih = places-low (modules s) (found_names s name) y m
    go (inr m) ih = ih m

pub soft-low : (s : Sources) (x : ℕ) (names : List (List ℕ)) (y : ℕ)
    → has (soft_places s x names) y ≡ true → y < length (modules s)
soft-low s x names y h =
    found-low s names y
    (kept (λ y. not (y == x) && is_available (modules s) s.unmet y)
    (flat_map (λ name. places_of (modules s) (found_names s name)) names) y h).1

pub soft-once : (s : Sources) (x : ℕ) (names : List (List ℕ))
    → All (λ y. y < length (modules s)) (once (soft_places s x names))
soft-once s x names =
    all-within (length (modules s)) (once (soft_places s x names))
    (λ y h. soft-low s x names y (sym (has-items [] (soft_places s x names) y) ∙ h))

pub both-once : (s : Sources) (x : ℕ) (line names : List (List ℕ))
    → All (λ y. y < length (modules s)) (places_of (modules s) line ++ once (soft_places s x names))
both-once s x line names =
    all-within (length (modules s)) (places_of (modules s) line ++ once (soft_places s x names))
    (λ y h. go y (or_cases _ _
    (sym (has-append (places_of (modules s) line) (once (soft_places s x names)) y) ∙ h)))
  where
    go : (y : ℕ)
        → (has (places_of (modules s) line) y ≡ true)
        ⊎ (has (once (soft_places s x names)) y ≡ true)
        → y < length (modules s)
    go y (inl m) = places-low (modules s) line y m
    go y (inr m) = soft-low s x names y (sym (has-items [] (soft_places s x names) y) ∙ m)
