-- The section of a name, found by its place.
use Rattle.std.proofs.Common.{◌≡◌, ℕ, ◌<◌, Bool, true, false, List, [], length, refl, sym, ap}
use Rattle.std.proofs.Common.{subst, ◌∙◌, arith, inl, inr, cond}
use Rattle.std.specs.Prelude.{Some, None, IfSome, nat_lt}
use Rattle.std.specs.List.{find, position, position_or_len, slice_get}
use Rattle.std.proofs.lemmas.Bool.{lt-ltb, ltb-true}
use Rattle.std.proofs.lemmas.Option.{slice_get_cases}
use Rattle.std.proofs.lemmas.List.Folds.{find_at}
use Rattle.std.specs.Option.{option_map_or}
use Rattle.elf_sections.specs.declared.section.Section.{Section}
use Rattle.elf_sections.specs.Sections.{bytes_of}

from_some : (b : Bool) (n i : ℕ) → Some i ≡ cond b (Some n) None → (b ≡ true) × (n ≡ i)
from_some true n i e = (refl, cc)
from_some false n i e = absurd (none_some i e)
  where
    none_some : (i : ℕ) → Some i ≡ None → ⊥
    none_some i e = cc

from_none : (b : Bool) (n : ℕ) → None ≡ cond b (Some n) None → b ≡ false
from_none true n e = cc
from_none false n e = refl

pub named-found : (p : Section → Bool) (file : List ℕ) (list : List Section) (i : ℕ)
    (bytes : List ℕ)
    → Some i ≡ position p list → IfSome (slice_get list i) (λ s. bytes ≡ bytes_of file s)
    → bytes ≡ option_map_or (bytes_of file) (find p list) []
named-found p file list i bytes e h =
    let q
    = from_some (nat_lt (position_or_len p list) (length list)) (position_or_len p list) i e in
    let within : i < length list = subst (λ n. n < length list) q.1 (ltb-true _ _ q.0) in
    let place : find p list ≡ slice_get list i = find_at p list ∙ ap (slice_get list) q.1 in
    elim (slice_get_cases list i).1 [
      | inl found ↦
          subst (λ o. bytes ≡ option_map_or (bytes_of file) o []) (sym (place ∙ found.2))
          (subst (λ o. IfSome o (λ s. bytes ≡ bytes_of file s)) found.2 h)
      | inr past ↦ absurd (omega arith)
    ]

pub named-absent : (p : Section → Bool) (file : List ℕ) (list : List Section)
    → None ≡ position p list → [] ≡ option_map_or (bytes_of file) (find p list) []
named-absent p file list e =
    let past
    = from_none (nat_lt (position_or_len p list) (length list)) (position_or_len p list) e in
    elim (slice_get_cases list (position_or_len p list)).1 [
      | inl found ↦ absurd
          (differ (nat_lt (position_or_len p list) (length list)) past (lt-ltb _ _ found.1))
      | inr none ↦ subst (λ o. [] ≡ option_map_or (bytes_of file) o [])
          (sym (find_at p list ∙ none.1)) refl
    ]
  where
    differ : (b : Bool) → b ≡ false → b ≡ true → ⊥
    differ b e f = cc
