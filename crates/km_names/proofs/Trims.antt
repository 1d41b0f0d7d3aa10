-- What a count of bytes from either end says of the parts of a text.
use Rattle.std.proofs.Common.{◌+◌, ◌-◌, [], ◌∷◌, ◌++◌, refl, ◌≡◌, ℕ, ◌-◌, ◌<◌, ◌≤◌, true, false}
use Rattle.std.proofs.Common.{List, length, take, drop, get_or, sym, ap, ◌∙◌, arith}
use Rattle.std.specs.List.{All, slice_split, before_first, after_first, prefix_len, suffix_len}
use Rattle.std.specs.List.{position_or_len}
use Rattle.std.proofs.lemmas.List.{take_rest, drop-drop, length-drop, take_all, append_assoc}
use Rattle.std.proofs.lemmas.List.{append-nil}
use Rattle.std.proofs.lemmas.List.Splits.{slice_split_first, slice_split_none}
use Rattle.std.proofs.lemmas.List.Elements.{All-from_get_or}
use Rattle.std.proofs.lemmas.List.Sums.{fails_before_first, position_or_len_is, prefix_len_is}
use Rattle.std.proofs.lemmas.List.Sums.{suffix_len_is}
use Rattle.km_names.specs.Space.{is_space, nonempty, trimmed_start, trimmed_end}

pub word_at : (text : List ℕ) (n : ℕ) → n ≤ length text
    → ((k : ℕ) → k < n → is_space (get_or text k 0) ≡ false)
    → (n < length text → is_space (get_or text n 0) ≡ true) → n ≡ position_or_len is_space text
word_at text n l before here = sym (position_or_len_is is_space text n 0 l before here)

pub start_at : (text : List ℕ) (n : ℕ) → n ≤ length text
    → ((k : ℕ) → k < n → is_space (get_or text k 0) ≡ true)
    → (n < length text → is_space (get_or text n 0) ≡ false)
    → take (length text - n) (drop n text) ≡ trimmed_start text
start_at text n l before here =
    let e : prefix_len is_space text ≡ n = prefix_len_is is_space text n 0 l before here in
    take_rest text n ∙ ap (λ m. drop m text) (sym e)

pub end_at : (text : List ℕ) (n : ℕ) → n ≤ length text
    → ((k : ℕ) → n ≤ k → k < length text → is_space (get_or text k 0) ≡ true)
    → ((0 < n) → is_space (get_or text (n - 1) 0) ≡ false) → take n text ≡ trimmed_end text
end_at text n l after here =
    let e : suffix_len is_space text ≡ length text - n
    = suffix_len_is is_space text n 0 l after here in
    let p : length text - suffix_len is_space text ≡ n = omega (arith, e) in
    ap (λ m. take m text) (sym p)

-- the piece before the first white space, and the pieces after it
pub words-more : (done : List (List ℕ)) (text : List ℕ) (n : ℕ) → n ≡ position_or_len is_space text
    → n < length text → (next : List ℕ) → next ≡ drop (n + 1) text
    → (done ++ nonempty (take n text ∷ [])) ++ nonempty (slice_split is_space next)
    ≡ done ++ nonempty (slice_split is_space text)
words-more done text n e l next same =
    let cut : slice_split is_space text
    ≡ before_first is_space text ∷ slice_split is_space (after_first is_space text)
    = slice_split_first is_space text 0 (omega (arith, e)) in
    append_assoc done (nonempty (take n text ∷ [])) (nonempty (slice_split is_space next))
    ∙ ap (λ rest. done ++ (nonempty (take n text ∷ []) ++ nonempty (slice_split is_space rest)))
    same
    ∙ ap (λ m. done
    ++ (nonempty (take m text ∷ []) ++ nonempty (slice_split is_space (drop (m + 1) text)))) e
    ∙ ap (λ ws. done ++ ws)
    (nonempty-first (before_first is_space text)
    (slice_split is_space (after_first is_space text)))
    ∙ ap (λ ps. done ++ nonempty ps) (sym cut)
  where
    nonempty-first : (p : List ℕ) (ps : List (List ℕ))
        → nonempty (p ∷ []) ++ nonempty ps ≡ nonempty (p ∷ ps)
    nonempty-first [] ps = refl
    nonempty-first (b ∷ bs) ps = refl

-- the last piece
pub words-end : (done : List (List ℕ)) (text : List ℕ) (n : ℕ) → n ≡ position_or_len is_space text
    → n ≡ length text
    → done ++ nonempty (take n text ∷ []) ≡ done ++ nonempty (slice_split is_space text)
words-end done text n e l =
    let none : All (λ b. is_space b ≡ false) text
    = All-from_get_or (λ b. is_space b ≡ false) text 0
    (λ j m. fails_before_first is_space text j 0 (omega (arith, e))) in
    ap (λ p. done ++ nonempty (p ∷ [])) (take_all n text (omega arith))
    ∙ ap (λ ps. done ++ nonempty ps) (sym (slice_split_none is_space text none))

-- a piece that is left out where it is empty
pub piece-some : (done : List (List ℕ)) (piece copy : List ℕ) → (length piece ≡ 0 → ⊥)
    → copy ≡ piece → done ++ copy ∷ [] ≡ done ++ nonempty (piece ∷ [])
piece-some done [] copy some e = absurd (some refl)
piece-some done (b ∷ bs) copy some e = ap (λ p. done ++ p ∷ []) e

pub piece-none : (done : List (List ℕ)) (piece : List ℕ) → length piece ≡ 0
    → done ≡ done ++ nonempty (piece ∷ [])
piece-none done [] e = sym (append-nil done)
piece-none done (b ∷ bs) e = absurd (omega (arith, e))

-- what follows the first white space
pub next-is : (text after : List ℕ) (n : ℕ) → after ≡ take (length text - n) (drop n text)
    → take (length after - 1) (drop 1 after) ≡ drop (n + 1) text
next-is text after n e = take_rest after 1 ∙ ap (drop 1) (e ∙ take_rest text n) ∙ drop-drop 1 n text

-- nothing follows the last word
pub after-none : (text : List ℕ) (n : ℕ) → length (take (length text - n) (drop n text)) ≡ 0
    → n ≤ length text → n ≡ length text
after-none text n e l =
    let f : length (drop n text) ≡ 0 = sym (ap length (take_rest text n)) ∙ e in
    omega (arith, f, length-drop n text)

-- something follows the first word
pub after-some : (text : List ℕ) (n : ℕ) → (length (take (length text - n) (drop n text)) ≡ 0 → ⊥)
    → n < length text
after-some text n some = omega (arith, some, ap length (take_rest text n), length-drop n text)
