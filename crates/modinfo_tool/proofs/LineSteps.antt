-- Texts of lines, a line more at a time.
use Rattle.std.proofs.Common.{◌≡◌, ℕ, ◌+◌, ◌<◌, zero, suc, Bool, true, false, cond, eqb, List, []}
use Rattle.std.proofs.Common.{◌∷◌, ◌++◌, length, take, get_or, map, filter, Some, refl, sym, ap}
use Rattle.std.proofs.Common.{◌∙◌, arith, append_assoc, append-nil}
use Rattle.std.specs.List.{repeat, slice_get, before_first, after_first}
use Rattle.std.proofs.lemmas.List.{take_more}
use Rattle.std.proofs.lemmas.List.Concat.{flat_map-append}
use Rattle.std.proofs.lemmas.List.Elements.{filter_more}
use Rattle.std.proofs.lemmas.Option.{get_or_from_slice_get, slice_get_within}
use Rattle.modinfo_fields.specs.Fields.{field_of, fields_of, is_text, values_of_key}
use Rattle.modinfo_fields.proofs.Pieces.{values_later}
use Rattle.modinfo_tool.specs.Show.{ended}

-- the lines of two lists
pub ended-append : (end : ℕ) (lines more : List (List ℕ))
    → ended end (lines ++ more) ≡ ended end lines ++ ended end more
ended-append end lines more = flat_map-append (λ line. line ++ end ∷ []) lines more

pub ended-one : (end : ℕ) (line : List ℕ) → ended end (line ∷ []) ≡ line ++ end ∷ []
ended-one end line = append-nil (line ++ end ∷ [])

-- the text so far and the lines of the rest of a section, a piece later
pub lines-later : (end : ℕ) (key rest piece after text whole : List ℕ) (more : List (List ℕ))
    → text ++ ended end (values_of_key key (fields_of rest)) ≡ whole
    → piece ≡ before_first (λ b. eqb b 0) rest → after ≡ after_first (λ b. eqb b 0) rest
    → more ≡ values_of_key key (map field_of (filter is_text (piece ∷ [])))
    → (text ++ ended end more) ++ ended end (values_of_key key (fields_of after)) ≡ whole
lines-later end key rest piece after text whole more inv before then is =
    append_assoc text (ended end more) (ended end (values_of_key key (fields_of after)))
    ∙ ap (λ t. text ++ t) (sym (ended-append end more (values_of_key key (fields_of after))))
    ∙ ap (λ values. text ++ ended end values)
    (values_later key rest rest piece after [] more refl before then is)
    ∙ inv

-- one line more
pub ended-push : (end : ℕ) (lines : List (List ℕ)) (line : List ℕ)
    → ended end (lines ++ line ∷ []) ≡ ended end lines ++ (line ++ end ∷ [])
ended-push end lines line =
    ended-append end lines (line ∷ []) ∙ ap (λ t. ended end lines ++ t) (ended-one end line)

-- a text with one line more of a list
pub line-taken : (end : ℕ) (lines : List (List ℕ)) (i : ℕ) (line text : List ℕ) → i < length lines
    → line ≡ get_or lines i line → text ≡ ended end (take i lines)
    → (text ++ line) ++ end ∷ [] ≡ ended end (take (i + 1) lines)
line-taken end lines i line text within here so_far =
    append_assoc text line (end ∷ [])
    ∙ ap (λ t. t ++ (line ++ end ∷ [])) so_far
    ∙ sym (ended-push end (take i lines) line)
    ∙ ap (λ l. ended end (take i lines ++ l ∷ [])) here
    ∙ sym (ap (ended end) (take_more lines i line within))

module _ {X : Type 0} (f : X → List ℕ) (end : ℕ) where
  map-push : (xs : List X) (x : X) → map f (xs ++ x ∷ []) ≡ map f xs ++ f x ∷ []
  map-push [] x = refl
  map-push (y ∷ ys) x = ap (λ l. f y ∷ l) (map-push ys x)

  -- a text with the line of one item more
  pub item-taken : (xs : List X) (x : X) (old text : List ℕ) → text ≡ old ++ ended end (map f xs)
      → text ++ (f x ++ end ∷ []) ≡ old ++ ended end (map f (xs ++ x ∷ []))
  item-taken xs x old text so_far =
      ap (λ t. t ++ (f x ++ end ∷ [])) so_far
      ∙ append_assoc old (ended end (map f xs)) (f x ++ end ∷ [])
      ∙ ap (λ t. old ++ t)
      (sym (ended-push end (map f xs) (f x)) ∙ sym (ap (ended end) (map-push xs x)))

  pub next-taken : (xs : List X) (i : ℕ) (x : X) (old text : List ℕ) → i < length xs
      → x ≡ get_or xs i x → text ≡ old ++ ended end (map f (take i xs))
      → text ++ (f x ++ end ∷ []) ≡ old ++ ended end (map f (take (i + 1) xs))
  next-taken xs i x old text within here so_far =
      item-taken (take i xs) x old text so_far
      ∙ ap (λ y. old ++ ended end (map f (take i xs ++ y ∷ []))) here
      ∙ ap (λ l. old ++ ended end (map f l)) (sym (take_more xs i x within))

-- the items that pass, with the next one looked at
module _ {X : Type 0} (test : X → Bool) (xs : List X) (i : ℕ) (x : X)
    (here : slice_get xs i ≡ Some x) where
  passing-next : filter test (take (i + 1) xs)
      ≡ filter test (take i xs) ++ cond (test x) (x ∷ []) []
  passing-next =
      let within : i < length xs = slice_get_within xs i x here in
      filter_more test xs i x within
      ∙ ap (λ y. filter test (take i xs) ++ cond (test y) (y ∷ []) [])
      (get_or_from_slice_get xs i x x here)

  pub passing-taken : test x ≡ true
      → filter test (take (i + 1) xs) ≡ filter test (take i xs) ++ x ∷ []
  passing-taken passes
      = passing-next ∙ ap (λ b. filter test (take i xs) ++ cond b (x ∷ []) []) passes

  pub passing-left : test x ≡ false → filter test (take (i + 1) xs) ≡ filter test (take i xs)
  passing-left fails
      = passing-next ∙ ap (λ b. filter test (take i xs) ++ cond b (x ∷ []) []) fails
      ∙ append-nil (filter test (take i xs))

repeat-suc : (n : ℕ) (text : List ℕ) → repeat n text ++ text ≡ repeat (suc n) text
repeat-suc zero text = sym (append-nil text)
repeat-suc (suc n) text =
    append_assoc text (repeat n text) text ∙ ap (λ t. text ++ t) (repeat-suc n text)

-- a text repeated once more
pub repeat-push : (n : ℕ) (text : List ℕ) → repeat n text ++ text ≡ repeat (n + 1) text
repeat-push n text =
    let e : suc n ≡ n + 1 = omega arith in
    repeat-suc n text ∙ ap (λ (m : ℕ). repeat m text) e
