-- A module that is looked for from a place down.
use Rattle.std.proofs.Common.{◌≡◌, ◌<◌, ◌-◌, ◌∙◌, inl, inr, ℕ, Bool, true, false, List, [], Option}
use Rattle.std.proofs.Common.{Some, None, sym, ap, subst, arith, length}
use Rattle.std.specs.Prelude.{find, option_map, slice_get}
use Rattle.std.specs.List.{IsDistinct, range_with_len}
use Rattle.std.specs.Option.{option_map_or}
use Rattle.std.specs.Str.{bytes_eq}
use Rattle.std.proofs.lemmas.Bool.{false≢true}
use Rattle.model_loader.specs.declared.entry.LoadedModule.{LoadedModule}
use Rattle.model_loader.specs.declared.entry.Entry.{Entry}
use Rattle.model_loader.specs.Machine.{Machine}
use Rattle.model_loader.specs.Sound.{entry_names}
use Rattle.model_loader.specs.Use.{IsUnused}
use Rattle.model_loader.proofs.PlaceLemmas.{below-or-at, found-within, none≢some}
use Rattle.model_loader.proofs.StandingLemmas.{same_name}
use Rattle.model_unload.specs.Below.{IsUnusedBelow}
use Rattle.model_unload.specs.Unload.{place_of}
use Rattle.model_unload.proofs.NameLemmas.{place-is}

same-place : (j k : ℕ) → ◌≡◌ {A = Option ℕ} (Some j) (Some k) → j ≡ k
same-place j k is = cc

-- The only place of the name is below the end.
pub found-below : (machine : Machine) (end : ℕ) (name : List ℕ) → IsUnusedBelow machine end name
    → (j : ℕ) → place_of machine name ≡ Some j → j < end
found-below machine end name u j found =
    let same : j ≡ u.place
    = same-place j u.place (sym found ∙ u.found) in omega (arith, same, u.below)

-- What is found isn't where the test fails.
pub not-at : (p : ℕ → Bool) (n j k : ℕ) → find p (range_with_len 0 n) ≡ Some j → j < k
    → p (k - 1) ≡ false → j < k - 1
not-at p n j k found less other =
    elim (below-or-at j (k - 1) (omega (arith, less))) [
      | inl before ↦ before
      | inr same ↦ absurd
          (false≢true (sym other ∙ ap p (sym same) ∙ (found-within p 0 n j found).0))
    ]

-- Where no two entries have one name, a module stands where an entry has its name.
pub named-place : (machine : Machine) (name : List ℕ) (k : ℕ) (loaded : LoadedModule)
    → IsDistinct bytes_eq (entry_names machine) → k < length machine.entries
    → option_map (λ (e : Entry). e.loaded) (slice_get machine.entries k) ≡ Some loaded
    → bytes_eq loaded.name name ≡ true → place_of machine name ≡ Some k
named-place machine name k loaded distinct less at is =
    ap (place_of machine)
    (sym (by (slice_get machine.entries k) at ∙ same_name loaded.name name is))
    ∙ place-is machine k distinct less
  where
    by : (o : Option Entry) → option_map (λ (e : Entry). e.loaded) o ≡ Some loaded
        → option_map_or (λ (e : Entry). e.loaded.name) o [] ≡ loaded.name
    by None is = absurd (none≢some is)
    by (Some e) is = ap (λ o. option_map_or (λ (l : LoadedModule). l.name) o []) is

pub is-unused : (machine : Machine) (end : ℕ) (name : List ℕ) (j : ℕ)
    → IsUnusedBelow machine end name → place_of machine name ≡ Some j → IsUnused machine j
is-unused machine end name j u found =
    subst (IsUnused machine) (same-place u.place j (sym u.found ∙ found)) u.unused
