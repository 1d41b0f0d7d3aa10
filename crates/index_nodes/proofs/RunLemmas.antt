-- Values that follow one another, in two parts.
use Rattle.std.proofs.Common.{◌≡◌, refl, ap, ◌∙◌, ℕ, zero, suc, ◌+◌, true, false, ◌&&◌, nat_le}
use Rattle.std.proofs.Common.{List, ◌∷◌, ◌++◌, length, drop, arith}
use Rattle.km_names.specs.Number.{be}
use Rattle.index_format.specs.Node.{text, after_text, values_in}
use Rattle.index_format.specs.Check.{has_nul, whole_values}
use Rattle.index_nodes.specs.Runs.{after_values}

pub values_parts : (m n k : ℕ) (bytes : List ℕ) → k ≡ m + n
    → values_in k bytes ≡ values_in m bytes ++ values_in n (after_values m bytes)
unfolding values_in after_values
values_parts zero n k bytes e = ap (λ j. values_in j bytes) (omega (arith, e))
values_parts (suc m) n k bytes e =
    let next : k ≡ suc (m + n) = omega (arith, e) in
    ap (λ j. values_in j bytes) next
    ∙ ap (λ vs. (be bytes 0 4, text (drop 4 bytes)) ∷ vs)
    (values_parts m n (m + n) (after_text (drop 4 bytes)) refl)

pub after_parts : (m n k : ℕ) (bytes : List ℕ) → k ≡ m + n
    → after_values k bytes ≡ after_values n (after_values m bytes)
unfolding after_values
after_parts zero n k bytes e =
    let same : k ≡ n = omega (arith, e) in
    ap (λ j. after_values j bytes) same
after_parts (suc m) n k bytes e =
    let next : k ≡ suc (m + n) = omega (arith, e) in
    ap (λ j. after_values j bytes) next
    ∙ after_parts m n (m + n) (after_text (drop 4 bytes)) refl

-- Values are whole if a first part of them is, and the rest is.
pub whole_parts : (m n k : ℕ) (bytes : List ℕ) → k ≡ m + n
    → whole_values k bytes ≡ (whole_values m bytes && whole_values n (after_values m bytes))
unfolding whole_values after_values
whole_parts zero n k bytes e = ap (λ j. whole_values j bytes) (omega (arith, e))
whole_parts (suc m) n k bytes e =
    let next : k ≡ suc (m + n) = omega (arith, e) in
    let rest = whole_parts m n (m + n) (after_text (drop 4 bytes)) refl in
    ap (λ j. whole_values j bytes) next
    ∙ elim (nat_le 4 (length bytes)) as
    (λ t. (t && (has_nul (drop 4 bytes) && whole_values (m + n) (after_text (drop 4 bytes))))
    ≡ ((t && (has_nul (drop 4 bytes) && whole_values m (after_text (drop 4 bytes))))
    && whole_values n (after_values m (after_text (drop 4 bytes))))) [
      | true ↦ elim (has_nul (drop 4 bytes)) as
          (λ u. (u && whole_values (m + n) (after_text (drop 4 bytes)))
          ≡ ((u && whole_values m (after_text (drop 4 bytes)))
          && whole_values n (after_values m (after_text (drop 4 bytes))))) [
            | true ↦ rest
            | false ↦ refl
          ]
      | false ↦ refl
    ]
