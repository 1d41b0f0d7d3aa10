-- Who uses the modules that are asked for, one module more at a time.
use Rattle.std.proofs.Common.{◌≡◌, ◌<◌, ◌+◌, ◌-◌, ◌∙◌, ℕ, zero, suc, Bool, true, false, List, []}
use Rattle.std.proofs.Common.{◌∷◌, Option, Some, None, refl, sym, ap, arith, length, cond, map}
use Rattle.std.specs.Prelude.{◌&&◌, not, find, option_map, slice_index_or}
use Rattle.std.specs.List.{range_with_len}
use Rattle.std.specs.Option.{option_map_or}
use Rattle.km_names.specs.First.{first}
use Rattle.model_loader.specs.Machine.{Machine}
use Rattle.model_loader.specs.Use.{binds, name_at, places}
use Rattle.model_loader.proofs.PlaceLemmas.{found-within, none≢some, range-more}
use Rattle.remove_plan.specs.Marks.{AreUsers}
use Rattle.remove_plan.specs.Removal.{Places, in_use, is_asked, used_member}
use Rattle.remove_plan.specs.Steps.{removal_fault}
use Rattle.remove_plan.specs.declared.step.RemoveFault.TheVariants.{InUse}

abbrev pair_at : ℕ → Option ℕ → Option (ℕ × ℕ)
pair_at j o = option_map {U = ℕ × ℕ} (λ k. (j, k)) o

module _ (machine : Machine) (set : Places) (users : List (Option ℕ))
    (are : AreUsers machine set (length machine.entries) users) (j : ℕ)
    (less : j < length machine.entries) where
  pub used-is : cond (set j) (pair_at j (slice_index_or users j None)) None
      ≡ used_member machine set j
  used-is = ap (λ o. cond (set j) (pair_at j o) None) (are.at j less)

  pub used-within : (found : ℕ × ℕ)
      → Some found ≡ cond (set j) (pair_at j (slice_index_or users j None)) None
      → (found.0 < length machine.entries) × (found.1 < length machine.entries)
  used-within found is = by (set j) (slice_index_or users j None) (sym (are.at j less)) is
    where
      by : (b : Bool) (o : Option ℕ)
          → find (λ u. binds machine u j && not (set u)) (range_with_len 0 (length machine.entries))
          ≡ o
          → Some found ≡ cond b (pair_at j o) None
          → (found.0 < length machine.entries) × (found.1 < length machine.entries)
      by false o at same = absurd (none≢some (sym same))
      by true None at same = absurd (none≢some (sym same))
      by true (Some k) at same =
          let is_it : found ≡ (j, k) = ap (λ o. option_map_or (λ (p : ℕ × ℕ). p) o found) same in
          let within : k < length machine.entries
          = omega (
            arith,
            (found-within (λ u. binds machine u j && not (set u)) 0 (length machine.entries) k
                at).1,
          ) in (
            omega (arith, less, ap (λ (p : ℕ × ℕ). p.0) is_it),
            omega (arith, within, ap (λ (p : ℕ × ℕ). p.1) is_it),
          )

-- The first answer, one place later.
pub first-later : {X : Type 0} (f : ℕ → Option X) (i n : ℕ) → i < n → f i ≡ None
    → first (map f (range_with_len i (n - i)))
    ≡ first (map f (range_with_len (i + 1) (n - (i + 1))))
first-later f i n less none =
    ap (λ l. first (map f l)) (range-more i n less)
    ∙ ap (λ o. first (o ∷ map f (range_with_len (i + 1) (n - (i + 1))))) none

pub first-here : {X : Type 0} (f : ℕ → Option X) (i n : ℕ) (x : X) → i < n → f i ≡ Some x
    → first (map f (range_with_len i (n - i))) ≡ Some x
first-here f i n x less is =
    ap (λ l. first (map f l)) (range-more i n less)
    ∙ ap (λ o. first (o ∷ map f (range_with_len (i + 1) (n - (i + 1))))) is

pub first-end : {X : Type 0} (f : ℕ → Option X) (i n : ℕ) → n < i + 1
    → first (map f (range_with_len i (n - i))) ≡ None
first-end f i n past =
    let none : n - i ≡ 0 = omega (arith, past) in
    ap (λ m. first (map f (range_with_len i m))) none

-- The refusal, by what is found.
pub fault-is : (machine : Machine) (names : List (List ℕ)) (found : Option (ℕ × ℕ))
    → in_use machine (is_asked machine names) ≡ found
    → removal_fault machine names
    ≡ option_map (λ (p : ℕ × ℕ). InUse (name_at machine p.0) (name_at machine p.1)) found
fault-is machine names found is =
    ap (option_map (λ (p : ℕ × ℕ). InUse (name_at machine p.0) (name_at machine p.1))) is
