-- What is found among the places of a machine.
use Rattle.std.proofs.Common.{◌≡◌, ◌≤◌, ◌<◌, ◌+◌, ◌-◌, ◌∙◌, ◌⊎◌, inl, inr, ℕ, false, List, ◌∷◌}
use Rattle.std.proofs.Common.{Option, Some, None, sym, ap, arith, length}
use Rattle.std.specs.Prelude.{◌&&◌, nat_lt, option_map, slice_get}
use Rattle.std.specs.Option.{option_map_or}
use Rattle.std.proofs.lemmas.Bool.{cases_Bool}
use Rattle.std.proofs.lemmas.Bool.Decides.{nat_tests}
use Rattle.std.specs.Str.{bytes_eq}
use Rattle.model_loader.specs.declared.entry.LoadedModule.{LoadedModule}
use Rattle.model_loader.specs.declared.entry.Entry.{Entry}
use Rattle.model_loader.specs.Machine.{Machine}
use Rattle.model_loader.specs.Use.{IsUnused, binds, uses_entry}
use Rattle.model_loader.proofs.PlaceLemmas.{found-within, none-within, none≢some, past}
use Rattle.model_unload.specs.Unload.{first_user, place_of, is_named_at}
use Rattle.std.proofs.Math.Bool.{and-false}

pub place-within : (machine : Machine) (name : List ℕ) (j : ℕ) → Some j ≡ place_of machine name
    → j < length machine.entries
place-within machine name j is =
    omega (arith, (found-within (is_named_at machine name) 0 (length machine.entries) j (sym is)).1)

-- An entry without a user is unused.
pub unused-by-none : (machine : Machine) (j : ℕ) → first_user machine j ≡ None → IsUnused machine j
unused-by-none machine j none k =
    elim (cases_Bool (nat_lt k (length machine.entries))) [
      | inl inside ↦ none-within (λ u. binds machine u j) 0 (length machine.entries) k none
          (omega arith) (grind (arith, nat_tests))
      | inr outside ↦
          let gone : slice_get machine.entries k ≡ None
          = past machine.entries k (grind (arith, nat_tests)) in
          ap (λ o. nat_lt j k
          && option_map_or
          (λ (user : Entry). option_map_or (uses_entry user)
          (slice_get machine.entries j) false) o false) gone
          ∙ and-false (nat_lt j k)
    ]

-- The name of the entry at a place.
pub named-at : (machine : Machine) (name : List ℕ) (k : ℕ) (l : LoadedModule)
    → option_map (λ (e : Entry). e.loaded) (slice_get machine.entries k) ≡ Some l
    → bytes_eq l.name name ≡ is_named_at machine name k
named-at machine name k l is = by (slice_get machine.entries k) is
  where
    by : (o : Option Entry) → option_map (λ (e : Entry). e.loaded) o ≡ Some l
        → bytes_eq l.name name ≡ option_map_or (λ (e : Entry). bytes_eq e.loaded.name name) o false
    by None is = absurd (none≢some is)
    by (Some e) is
        = let same : e.loaded ≡ l
        = ap (λ o. option_map_or (λ (m : LoadedModule). m) o l) is in ap
        (λ (m : LoadedModule). bytes_eq m.name name) (sym same)
