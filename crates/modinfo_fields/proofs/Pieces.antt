-- The fields of a text, from its first piece on.
use Rattle.std.proofs.Common.{◌≡◌, ℕ, ◌<◌, Bool, false, List, [], ◌∷◌, ◌++◌, length, eqb, eqb, refl}
use Rattle.std.proofs.Common.{sym, ap, ◌∙◌, arith, append_assoc, append-nil, inl, inr}
use Rattle.std.specs.Prelude.{map, filter}
use Rattle.std.specs.List.{slice_split, before_first, after_first, position_or_len, All}
use Rattle.std.proofs.lemmas.List.{take_all, drop_all, map-append}
use Rattle.std.proofs.lemmas.List.Elements.{filter-append}
use Rattle.std.proofs.lemmas.List.Splits.{slice_split_first, slice_split_none}
use Rattle.std.proofs.lemmas.List.Sums.{fails_before_first}
use Rattle.std.proofs.lemmas.List.Elements.{All-from_get_or}
use Rattle.std.proofs.lemmas.Bool.{cases_lt}
use Rattle.modinfo_fields.specs.declared.piece.Field.{Field}
use Rattle.modinfo_fields.specs.Fields.{fields_of, field_of, is_text, values_of_key}

abbrev is_nul : ℕ → Bool
is_nul b = eqb b 0

-- a first piece is a field of its own if it has a byte
piece_first : (piece : List ℕ) (pieces : List (List ℕ))
    → map field_of (filter is_text (piece ∷ pieces))
    ≡ map field_of (filter is_text (piece ∷ [])) ++ map field_of (filter is_text pieces)
piece_first [] pieces = refl
piece_first (b ∷ bs) pieces = refl

pub fields-first : (bytes : List ℕ)
    → fields_of bytes
    ≡ map field_of (filter is_text (before_first is_nul bytes ∷ []))
    ++ fields_of (after_first is_nul bytes)
unfolding fields_of
fields-first bytes = elim (cases_lt (position_or_len is_nul bytes) (length bytes)) [
  | inl found ↦ ap (λ pieces. map field_of (filter is_text pieces))
      (slice_split_first is_nul bytes 0 found)
      ∙ piece_first (before_first is_nul bytes) (slice_split is_nul (after_first is_nul bytes))
  | inr past ↦
      let none : All (λ b. is_nul b ≡ false) bytes
      = All-from_get_or (λ b. is_nul b ≡ false) bytes 0
      (λ j l. fails_before_first is_nul bytes j 0 (omega arith)) in
      let whole : before_first is_nul bytes ≡ bytes = take_all _ bytes past in
      let nothing : after_first is_nul bytes ≡ [] = drop_all _ bytes (omega arith) in
      ap (λ pieces. map field_of (filter is_text pieces)) (slice_split_none is_nul bytes none)
      ∙ sym (append-nil (map field_of (filter is_text (bytes ∷ []))))
      ∙ ap (λ b. map field_of (filter is_text (b ∷ [])) ++ []) (sym whole)
      ∙ ap (λ rest. map field_of (filter is_text (before_first is_nul bytes ∷ []))
      ++ map field_of (filter is_text (slice_split is_nul rest))) (sym nothing)
]

pub fields-nil : fields_of [] ≡ []
unfolding fields_of
fields-nil = refl

one_text : (piece : List ℕ) → 0 < length piece
    → map field_of (filter is_text (piece ∷ [])) ≡ field_of piece ∷ []
one_text [] h = absurd (omega (arith, h))
one_text (b ∷ bs) h = refl

-- the fields so far and those of the rest, a piece later
pub piece_taken : (bytes rest piece after : List ℕ) (list : List Field) (field : Field)
    → list ++ fields_of rest ≡ fields_of bytes → piece ≡ before_first is_nul rest
    → after ≡ after_first is_nul rest → 0 < length piece → field ≡ field_of piece
    → (list ++ field ∷ []) ++ fields_of after ≡ fields_of bytes
piece_taken bytes rest piece after list field inv before then some is =
    append_assoc list (field ∷ []) (fields_of after)
    ∙ ap (λ f. list ++ (f ∷ fields_of after)) is
    ∙ ap (λ l. list ++ (l ++ fields_of after)) (sym (one_text piece some))
    ∙ ap (λ p. list ++ (map field_of (filter is_text (p ∷ [])) ++ fields_of after)) before
    ∙ ap (λ a. list
    ++ (map field_of (filter is_text (before_first is_nul rest ∷ [])) ++ fields_of a))
    then
    ∙ ap (λ l. list ++ l) (sym (fields-first rest))
    ∙ inv

no_text : (piece : List ℕ) → length piece ≡ 0 → map field_of (filter is_text (piece ∷ [])) ≡ []
no_text [] h = refl
no_text (b ∷ bs) h = absurd (omega (arith, h))

pub piece_skipped : (bytes rest piece after : List ℕ) (list : List Field)
    → list ++ fields_of rest ≡ fields_of bytes → piece ≡ before_first is_nul rest
    → after ≡ after_first is_nul rest → length piece ≡ 0 → list ++ fields_of after ≡ fields_of bytes
piece_skipped bytes rest piece after list inv before then none =
    ap (λ a. list ++ fields_of a) then
    ∙ ap (λ l. list ++ (l ++ fields_of (after_first is_nul rest))) (sym (no_text piece none))
    ∙ ap (λ p. list
    ++ (map field_of (filter is_text (p ∷ [])) ++ fields_of (after_first is_nul rest))) before
    ∙ ap (λ l. list ++ l) (sym (fields-first rest))
    ∙ inv

values-append : (key : List ℕ) (front back : List Field)
    → values_of_key key (front ++ back) ≡ values_of_key key front ++ values_of_key key back
unfolding values_of_key
values-append key front back = simp (filter-append, map-append)

-- the values so far and those of the rest, a piece later
pub values_later : (key bytes rest piece after : List ℕ) (values more : List (List ℕ))
    → values ++ values_of_key key (fields_of rest) ≡ values_of_key key (fields_of bytes)
    → piece ≡ before_first is_nul rest → after ≡ after_first is_nul rest
    → more ≡ values_of_key key (map field_of (filter is_text (piece ∷ [])))
    → (values ++ more) ++ values_of_key key (fields_of after) ≡ values_of_key key (fields_of bytes)
values_later key bytes rest piece after values more inv before then is =
    append_assoc values more (values_of_key key (fields_of after))
    ∙ ap (λ m. values ++ (m ++ values_of_key key (fields_of after))) is
    ∙ ap (λ p. values
    ++ (values_of_key key (map field_of (filter is_text (p ∷ [])))
    ++ values_of_key key (fields_of after))) before
    ∙ ap (λ a. values
    ++ (values_of_key key
    (map field_of (filter is_text (before_first is_nul rest ∷ [])))
    ++ values_of_key key (fields_of a)))
    then
    ∙ ap (λ l. values ++ l)
    (sym (ap (values_of_key key) (fields-first rest)
    ∙ values-append key (map field_of (filter is_text (before_first is_nul rest ∷ [])))
    (fields_of (after_first is_nul rest))))
    ∙ inv

pub values-nil : (key : List ℕ) → values_of_key key (fields_of []) ≡ []
unfolding fields_of values_of_key
values-nil key = refl
