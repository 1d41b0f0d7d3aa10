-- The fields of a text, from its first piece on.
use Rattle.std.proofs.Common.{◌≡◌, ℕ, ◌+◌, ◌<◌, Bool, false, List, [], ◌∷◌, ◌++◌, length, eqb}
use Rattle.std.proofs.Common.{Option, refl, sym, ap, ◌∙◌, arith, append_assoc, inl, inr}
use Rattle.std.specs.List.{slice_split, before_first, after_first, position_or_len, All, filter_map}
use Rattle.std.specs.List.{cons_option}
use Rattle.std.proofs.lemmas.List.{take_all, drop_all, length-drop}
use Rattle.std.proofs.lemmas.List.Splits.{slice_split_first, slice_split_none}
use Rattle.std.proofs.lemmas.List.Sums.{fails_before_first}
use Rattle.std.proofs.lemmas.List.Elements.{All-from_get_or}
use Rattle.std.proofs.lemmas.Bool.{cases_lt}
use Rattle.builtin_index.specs.declared.piece.BuiltinField.{BuiltinField}
use Rattle.builtin_index.specs.Fields.{fields_of, field_of}

abbrev is_nul : ℕ → Bool
is_nul b = eqb b 0

pub fields-nil : fields_of [] ≡ []
unfolding fields_of field_of
fields-nil = refl

fields-first : (bytes : List ℕ)
    → fields_of bytes
    ≡ cons_option (field_of (before_first is_nul bytes)) (fields_of (after_first is_nul bytes))
unfolding fields_of
fields-first bytes = elim (cases_lt (position_or_len is_nul bytes) (length bytes)) [
  | inl found ↦ ap (filter_map field_of) (slice_split_first is_nul bytes 0 found)
  | inr past ↦
      let none : All (λ b. is_nul b ≡ false) bytes
      = All-from_get_or (λ b. is_nul b ≡ false) bytes 0
      (λ j l. fails_before_first is_nul bytes j 0 (omega arith)) in
      let whole : before_first is_nul bytes ≡ bytes = take_all _ bytes past in
      let nothing : after_first is_nul bytes ≡ [] = drop_all _ bytes (omega arith) in
      ap (filter_map field_of) (slice_split_none is_nul bytes none)
      ∙ ap (λ piece. cons_option (field_of piece) []) (sym whole)
      ∙ ap (λ rest. cons_option (field_of (before_first is_nul bytes)) rest)
      (sym (ap (λ r. filter_map field_of (slice_split is_nul r)) nothing ∙ fields-nil))
]

-- the fields of a text, by what its first piece is
pub fields-rest : (rest piece after : List ℕ) (field : Option BuiltinField)
    → piece ≡ before_first is_nul rest → after ≡ after_first is_nul rest → field ≡ field_of piece
    → fields_of rest ≡ cons_option field (fields_of after)
fields-rest rest piece after field before then is =
    fields-first rest
    ∙ ap (λ p. cons_option (field_of p) (fields_of (after_first is_nul rest))) (sym before)
    ∙ ap (λ a. cons_option (field_of piece) (fields_of a)) (sym then)
    ∙ ap (λ o. cons_option o (fields_of after)) (sym is)

-- the fields so far and those of the rest, a piece later
pub piece-taken : (bytes rest after : List ℕ) (list : List BuiltinField) (field : BuiltinField)
    → list ++ fields_of rest ≡ fields_of bytes → fields_of rest ≡ field ∷ fields_of after
    → (list ++ field ∷ []) ++ fields_of after ≡ fields_of bytes
piece-taken bytes rest after list field inv is =
    append_assoc list (field ∷ []) (fields_of after) ∙ ap (λ l. list ++ l) (sym is) ∙ inv

pub piece-skipped : (bytes rest after : List ℕ) (list : List BuiltinField)
    → list ++ fields_of rest ≡ fields_of bytes → fields_of rest ≡ fields_of after
    → list ++ fields_of after ≡ fields_of bytes
piece-skipped bytes rest after list inv is = ap (λ l. list ++ l) (sym is) ∙ inv

-- what follows a piece is shorter than the text
pub after-shorter : (rest after : List ℕ) → 0 < length rest → after ≡ after_first is_nul rest
    → length after < length rest
after-shorter rest after some is =
    omega (arith, ap length is, length-drop (position_or_len is_nul rest + 1) rest)
