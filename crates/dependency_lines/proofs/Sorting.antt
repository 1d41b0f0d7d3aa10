-- Places that were sorted by the numbers of their modules.
use Rattle.std.proofs.Common.{◌≡◌, refl, sym, ap, subst, ◌∙◌, ℕ, zero, suc, ◌+◌, ◌<◌, ◌⊎◌, Bool}
use Rattle.std.proofs.Common.{true, false, cond, List, [], ◌∷◌, length, filter, get_or, inl, inr}
use Rattle.std.proofs.Common.{arith}
use Rattle.std.specs.Prelude.{◌&&◌, not}
use Rattle.std.proofs.lemmas.Bool.{cases_eq}
use Rattle.std.proofs.lemmas.List.{get_or-map, length-map}
use Rattle.std.specs.List.Sorted.{IsSortedByKey, IsStableByKey, ties}
use Rattle.std.specs.Ordering.{nat_cmp, is_lt}
use Rattle.index_format.specs.Listing.{KeyValue}
use Rattle.dependency_lines.specs.Modules.{by_number, module_at}
use Rattle.dependency_lines.specs.Tables.{at_places}
use Rattle.dependency_lines.proofs.ByNumber.{by_number-is}
use Rattle.dependency_lines.proofs.Placed.{filter-nothing, same-number}

-- The number of the module at a place.
abbrev pub place_number : List KeyValue → ℕ → ℕ
place_number ms place = (module_at ms place).1.0

-- There is a place whose module has a number, or there is none.
holder : (ms : List KeyValue) (n : ℕ)
    → ((p : ℕ) × (place_number ms p ≡ n)) ⊎ ((p : ℕ) → place_number ms p ≡ n → ⊥)
holder [] n = go (cases_eq zero n)
  where
    go : (zero ≡ n) ⊎ (zero ≡ n → ⊥)
        → ((p : ℕ) × (place_number [] p ≡ n)) ⊎ ((p : ℕ) → place_number [] p ≡ n → ⊥)
    go (inl e) = inl (zero, e)
    go (inr h) = inr (λ p e. h e)
holder (m ∷ ms) n = go (cases_eq m.1.0 n) (holder ms n)
  where
    none : (m.1.0 ≡ n → ⊥) → ((p : ℕ) → place_number ms p ≡ n → ⊥) → (p : ℕ)
        → place_number (m ∷ ms) p ≡ n → ⊥
    none h k zero e = h e
    none h k (suc p) e = k p e

    go : (m.1.0 ≡ n) ⊎ (m.1.0 ≡ n → ⊥)
        → ((p : ℕ) × (place_number ms p ≡ n)) ⊎ ((p : ℕ) → place_number ms p ≡ n → ⊥)
        → ((p : ℕ) × (place_number (m ∷ ms) p ≡ n)) ⊎ ((p : ℕ) → place_number (m ∷ ms) p ≡ n → ⊥)
    go (inl e) other = inl (zero, e)
    go (inr h) (inl f) = inl (suc f.0, f.1)
    go (inr h) (inr k) = inr (none h k)

module _ (ms : List KeyValue) where
  filter-at : (f : KeyValue → Bool) (ps : List ℕ)
      → filter f (at_places ms ps) ≡ at_places ms (filter (λ p. f (module_at ms p)) ps)
  filter-at f [] = refl
  filter-at f (p ∷ ps) =
      elim (f (module_at ms p)) as
      (λ t. cond t (module_at ms p ∷ filter f (at_places ms ps)) (filter f (at_places ms ps))
      ≡ at_places ms
      (cond t (p ∷ filter (λ p. f (module_at ms p)) ps)
      (filter (λ p. f (module_at ms p)) ps))) [
        | true ↦ ap (λ us. module_at ms p ∷ us) (filter-at f ps)
        | false ↦ filter-at f ps
      ]

  abbrev lower : KeyValue → KeyValue → Bool
  lower a b = is_lt (nat_cmp a.1.0 b.1.0)

  -- a number that no module has ties with none
  no-ties : (x : KeyValue) → ((p : ℕ) → place_number ms p ≡ x.1.0 → ⊥) → (ps : List ℕ)
      → filter (ties lower x) (at_places ms ps) ≡ []
  no-ties x none ps =
      filter-nothing (ties lower x) x (at_places ms ps) (λ k l t.
      let m : k < length ps = omega (arith, l, length-map ps (module_at ms)) in
      none (get_or ps k 0)
      (ap (λ (v : KeyValue). v.1.0) (sym (get_or-map (module_at ms) ps k 0 x m))
      ∙ same-number x (get_or (at_places ms ps) k x) t))

  -- as does a number that is tested with another
  abbrev tie : ℕ → ℕ → Bool
  tie n m = not (is_lt (nat_cmp n m)) && not (is_lt (nat_cmp m n))

  pub places-sorted : (before after : List ℕ) → at_places ms before ≡ ms
      → IsSortedByKey (place_number ms) nat_cmp after
      → IsStableByKey (place_number ms) nat_cmp before after → at_places ms after ≡ by_number ms
  places-sorted before after all up still =
      by_number-is (at_places ms before) (at_places ms after)
      (λ k d low high.
      let m : k + 1 < length after = omega (arith, high, length-map after (module_at ms)) in
      ap is_lt (λ i. nat_cmp (get_or-map (module_at ms) after (k + 1) 0 d m i).1.0
      (get_or-map (module_at ms) after k 0 d (omega (arith, m)) i).1.0)
      ∙ up k 0 low m)
      (λ x. stable x (holder ms x.1.0))
      ∙ ap by_number all
    where
      stable : (x : KeyValue)
          → ((p : ℕ) × (place_number ms p ≡ x.1.0)) ⊎ ((p : ℕ) → place_number ms p ≡ x.1.0 → ⊥)
          → filter (ties lower x) (at_places ms after) ≡ filter (ties lower x) (at_places ms before)
      stable x (inl f) =
          filter-at (ties lower x) after
          ∙ ap (at_places ms)
          (subst (λ n. filter (λ p. tie n (place_number ms p)) after
          ≡ filter (λ p. tie n (place_number ms p)) before) f.1 (still f.0))
          ∙ sym (filter-at (ties lower x) before)
      stable x (inr none) = no-ties x none after ∙ sym (no-ties x none before)
