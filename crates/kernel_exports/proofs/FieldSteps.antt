-- The fields of a line, one after the other.
use Rattle.std.proofs.Common.{◌≡◌, ℕ, zero, suc, ◌+◌, ◌<◌, ◌≤◌, Bool, true, false, List, [], ◌∷◌}
use Rattle.std.proofs.Common.{length, eqb, ltb, unwrap_or, refl, sym, ap, ◌∙◌, arith}
use Rattle.std.proofs.lemmas.Bool.Decides.{nat_tests}
use Rattle.std.proofs.lemmas.List.{drop_all, take_all}
use Rattle.std.proofs.lemmas.List.Elements.{All-from_get_or}
use Rattle.std.proofs.lemmas.List.Splits.{slice_split_first, slice_split_none}
use Rattle.std.proofs.lemmas.List.Sums.{fails_before_first}
use Rattle.std.specs.List.{slice_split, slice_get, before_first, after_first, position_or_len}
use Rattle.kernel_exports.specs.SymversLines.{field}

-- the field at a place of some fields
at : List (List ℕ) → ℕ → List ℕ
at fields k = unwrap_or (slice_get fields k) []

at-past : (text : List ℕ) (k : ℕ) → at (text ∷ []) (suc k) ≡ at ([] ∷ []) k
unfolding at
at-past text zero = refl
at-past text (suc k) = refl

-- a line without a tab has one field
module _ (text : List ℕ) (past : length text ≤ position_or_len (λ b. eqb b 9) text) where
  alone : slice_split (λ b. eqb b 9) text ≡ text ∷ []
  alone
      = slice_split_none (λ b. eqb b 9) text
      (All-from_get_or (λ b. eqb b 9 ≡ false) text 0
      (λ k within. fails_before_first (λ b. eqb b 9) text k 0 (omega arith)))

  all : before_first (λ b. eqb b 9) text ≡ text
  all = take_all (position_or_len (λ b. eqb b 9) text) text past

  nothing : after_first (λ b. eqb b 9) text ≡ []
  nothing = drop_all (position_or_len (λ b. eqb b 9) text + 1) text (omega arith)

-- the first field is what stands before the first tab
pub field-first : (text : List ℕ) → field text 0 ≡ before_first (λ b. eqb b 9) text
field-first text = go (ltb (position_or_len (λ b. eqb b 9) text) (length text)) refl
  where
    go : (b : Bool) → ltb (position_or_len (λ b. eqb b 9) text) (length text) ≡ b
        → field text 0 ≡ before_first (λ b. eqb b 9) text
    go true is =
        let within : position_or_len (λ b. eqb b 9) text < length text = grind (arith, nat_tests) in
        ap (λ fields. unwrap_or (slice_get fields 0) [])
        (slice_split_first (λ b. eqb b 9) text 0 within)
    go false is =
        let past : length text ≤ position_or_len (λ b. eqb b 9) text = grind (arith, nat_tests) in
        ap (λ fields. unwrap_or (slice_get fields 0) []) (alone text past) ∙ sym (all text past)

-- the next ones are those of what follows it
pub field-next : (text : List ℕ) (k : ℕ)
    → field text (suc k) ≡ field (after_first (λ b. eqb b 9) text) k
unfolding at
field-next text k = go (ltb (position_or_len (λ b. eqb b 9) text) (length text)) refl
  where
    go : (b : Bool) → ltb (position_or_len (λ b. eqb b 9) text) (length text) ≡ b
        → field text (suc k) ≡ field (after_first (λ b. eqb b 9) text) k
    go true is =
        let within : position_or_len (λ b. eqb b 9) text < length text = grind (arith, nat_tests) in
        ap (λ fields. unwrap_or (slice_get fields (suc k)) [])
        (slice_split_first (λ b. eqb b 9) text 0 within)
    go false is =
        let past : length text ≤ position_or_len (λ b. eqb b 9) text = grind (arith, nat_tests) in
        ap (λ fields. unwrap_or (slice_get fields (suc k)) []) (alone text past)
        ∙ at-past text k
        ∙ ap (λ rest. field rest k) (sym (nothing text past))

-- the same by what a split gives
pub field-here : (text word : List ℕ) → word ≡ before_first (λ b. eqb b 9) text
    → word ≡ field text 0
field-here text word is = is ∙ sym (field-first text)

pub field-later : (text rest word : List ℕ) (k : ℕ) → rest ≡ after_first (λ b. eqb b 9) text
    → word ≡ field rest k → word ≡ field text (suc k)
field-later text rest word k is here = here ∙ ap (λ r. field r k) is ∙ sym (field-next text k)
