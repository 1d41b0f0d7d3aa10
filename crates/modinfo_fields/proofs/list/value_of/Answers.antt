use Rattle.std.proofs.Common.{◌≡◌, ℕ, zero, suc, ◌==◌, List, [], ◌∷◌, true, false, length, take}
use Rattle.std.proofs.Common.{map, filter, refl, sym, ap, subst, ◌∙◌, true≢false}
use Rattle.std.proofs.lemmas.Bool.{false_from_ne_true}
use Rattle.std.specs.Prelude.{nat_eq}
use Rattle.std.specs.Cmp.Lexicographic.{bytes_decides}
use Rattle.std.specs.List.{before_first, starts_with}
use Rattle.std.specs.Str.{bytes_eq}
use Rattle.modinfo_fields.specs.Fields.{field_of, is_text, values_of_key}
use Rattle.modinfo_fields.proofs.list.value_of.Goals as goal

take-front : (n : ℕ) (piece : List ℕ) → take (length (take n piece)) piece ≡ take n piece
take-front zero [] = refl
take-front zero (b ∷ bs) = refl
take-front (suc n) [] = refl
take-front (suc n) (b ∷ bs) = ap (λ l. b ∷ l) (take-front n bs)

-- a list begins with each of its fronts
begins : (n : ℕ) (piece : List ℕ) → starts_with nat_eq piece (take n piece) ≡ true
begins n piece = rw (take-front n piece) ((bytes_decides (take n piece) (take n piece)).1 refl)

-- a piece that doesn't begin with a key has another
other_key : (piece key : List ℕ) → starts_with nat_eq piece key ≡ false
    → bytes_eq (before_first (λ b. b == 61) piece) key ≡ false
other_key piece key other =
    let name = before_first (λ b. b == 61) piece in
    false_from_ne_true (bytes_eq name key) (λ same.
    true≢false (sym (subst (λ k. starts_with nat_eq piece k ≡ true)
    ((bytes_decides name key).0 same) (begins _ piece))
    ∙ other))

-- and no value of this one
no_value : (piece key : List ℕ) → starts_with nat_eq piece key ≡ false
    → [] ≡ values_of_key key (map field_of (filter is_text (piece ∷ [])))
unfolding values_of_key field_of
no_value [] key other = refl
no_value (b ∷ bs) key other = rw (other_key (b ∷ bs) key other) refl

pub returns-then-not-starts_with : goal.returns-then-not-starts_with
returns-then-not-starts_with c =
    no_value c.args.piece.now c.args.key.now
    (sym c.starts_with.ensures.value ∙ c.if-not-starts_with.true)
