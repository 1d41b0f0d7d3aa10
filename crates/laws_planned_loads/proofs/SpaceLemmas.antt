-- Words and white space of texts that are put together.
use Rattle.std.proofs.Common.{◌≡◌, ◌∙◌, ◌+◌, ◌-◌, ◌<◌, ◌≤◌, ℕ, zero, suc, Bool, true, false, cond}
use Rattle.std.proofs.Common.{List, [], ◌∷◌, ◌++◌, length, map, take, drop, get_or, refl, sym, ap}
use Rattle.std.proofs.Common.{arith, length-append}
use Rattle.std.specs.Prelude.{not}
use Rattle.std.specs.List.{list_all, slice_split, onto_first, prefix_len, suffix_len}
use Rattle.std.specs.List.{position_or_len, ends_with}
use Rattle.std.proofs.Math.Seq.{drop-append_seam, drop-append-add, get_or-append_seam}
use Rattle.std.proofs.Math.Seq.{take-append_seam}
use Rattle.std.proofs.lemmas.Bool.{and_parts}
use Rattle.std.proofs.lemmas.List.{append-nil, get_or-append_right, get_or_append_left}
use Rattle.std.proofs.lemmas.List.Splits.{slice_split-cons_yes, slice_split-cons_no}
use Rattle.std.proofs.lemmas.List.Sums.{suffix_len_is}
use Rattle.km_names.specs.Space.{is_space, first_word, nonempty, rest_after_word, trimmed}
use Rattle.km_names.specs.Space.{trimmed_end, trimmed_start, words}

-- ---- white space at the start

pub trim-space : (b : ℕ) (text : List ℕ) → is_space b ≡ true
    → trimmed_start (b ∷ text) ≡ trimmed_start text
trim-space b text is =
    let one : 1 + prefix_len is_space text ≡ suc (prefix_len is_space text) = omega arith in
    ap (λ v. drop (cond v (1 + prefix_len is_space text) 0) (b ∷ text)) is
    ∙ ap (λ n. drop n (b ∷ text)) one

pub trim-other : (b : ℕ) (text : List ℕ) → is_space b ≡ false → trimmed_start (b ∷ text) ≡ b ∷ text
trim-other b text is = ap (λ v. drop (cond v (1 + prefix_len is_space text) 0) (b ∷ text)) is

-- a text that ends in another byte still does
pub trim-to-end : (front : List ℕ) (z : ℕ) → is_space z ≡ false
    → (rest : List ℕ) × (trimmed_start (front ++ z ∷ []) ≡ rest ++ z ∷ [])
trim-to-end [] z is = ([], trim-other z [] is)
trim-to-end (b ∷ front) z is = go (is_space b) refl (trim-to-end front z is)
  where
    go : (v : Bool) → is_space b ≡ v
        → (rest : List ℕ) × (trimmed_start (front ++ z ∷ []) ≡ rest ++ z ∷ [])
        → (rest : List ℕ) × (trimmed_start (b ∷ front ++ z ∷ []) ≡ rest ++ z ∷ [])
    go true space ih = (ih.0, trim-space b (front ++ z ∷ []) space ∙ ih.1)
    go false other ih = (b ∷ front, trim-other b (front ++ z ∷ []) other)

-- ---- white space at the end

passes-at : (p : ℕ → Bool) (xs : List ℕ) (k : ℕ) (d : ℕ) → list_all p xs ≡ true → k < length xs
    → p (get_or xs k d) ≡ true
passes-at p [] k d all less = absurd (omega (arith, less))
passes-at p (x ∷ xs) zero d all less = (and_parts (p x) (list_all p xs) all).0
passes-at p (x ∷ xs) (suc k) d all less =
    passes-at p xs k d (and_parts (p x) (list_all p xs) all).1 (omega (arith, less))

pub trim-end : (front : List ℕ) (z : ℕ) (space : List ℕ) → is_space z ≡ false
    → list_all is_space space ≡ true → trimmed_end ((front ++ z ∷ []) ++ space) ≡ front ++ z ∷ []
trim-end front z space other all =
    let kept = front ++ z ∷ [] in
    let n : length kept ≡ length front + 1 = length-append front (z ∷ []) in
    let long : length (kept ++ space) ≡ length kept + length space = length-append kept space in
    let after = λ (k : ℕ) (low : length kept ≤ k) (high : k < length (kept ++ space)).
    ap is_space (get_or-append_right kept space (length kept) k 0 refl low)
    ∙ passes-at is_space space (k - length kept) 0 all (omega (arith, low, high, long)) in
    let last : get_or (kept ++ space) (length kept - 1) 0 ≡ z =
    get_or_append_left kept space 0 (length kept - 1) (omega (arith, n))
    ∙ ap (λ k. get_or kept k 0) (let e : length kept - 1 ≡ length front = omega (arith, n) in e)
    ∙ get_or-append_seam front z [] 0 in
    let at : suffix_len is_space (kept ++ space) ≡ length (kept ++ space) - length kept =
    suffix_len_is is_space (kept ++ space) (length kept) 0 (omega (arith, long)) after
    (λ some. ap is_space last ∙ other) in
    let whole : length (kept ++ space) - suffix_len is_space (kept ++ space) ≡ length kept
    = omega (arith, at, long) in
    ap (λ k. take k (kept ++ space)) whole ∙ take-append_seam kept space

pub trim-none : (front : List ℕ) (z : ℕ) → is_space z ≡ false
    → trimmed_end (front ++ z ∷ []) ≡ front ++ z ∷ []
trim-none front z other =
    ap trimmed_end (sym (append-nil (front ++ z ∷ []))) ∙ trim-end front z [] other refl

-- ---- words

words-space : (b : ℕ) (text : List ℕ) → is_space b ≡ true → words (b ∷ text) ≡ words text
unfolding words
words-space b text is = ap nonempty (slice_split-cons_yes is_space b text is)

pub words-start : (text : List ℕ) → words (trimmed_start text) ≡ words text
words-start [] = refl
words-start (b ∷ text) = go (is_space b) refl (words-start text)
  where
    go : (v : Bool) → is_space b ≡ v → words (trimmed_start text) ≡ words text
        → words (trimmed_start (b ∷ text)) ≡ words (b ∷ text)
    go true is ih = ap words (trim-space b text is) ∙ ih ∙ sym (words-space b text is)
    go false is ih = ap words (trim-other b text is)

-- pieces between white space alone
abbrev empties : List ℕ → List (List ℕ)
empties space = map (λ b. []) space

split-spaces : (space : List ℕ) → list_all is_space space ≡ true
    → slice_split is_space space ≡ [] ∷ empties space
split-spaces [] all = refl
split-spaces (b ∷ space) all =
    let h = and_parts (is_space b) (list_all is_space space) all in
    slice_split-cons_yes is_space b space h.0 ∙ ap (λ ps. [] ∷ ps) (split-spaces space h.1)

split-some : (text : List ℕ)
    → (p : List ℕ) × (ps : List (List ℕ)) × (slice_split is_space text ≡ p ∷ ps)
split-some [] = ([], [], refl)
split-some (b ∷ text) = go (is_space b) refl (split-some text)
  where
    go : (v : Bool) → is_space b ≡ v
        → (p : List ℕ) × (ps : List (List ℕ)) × (slice_split is_space text ≡ p ∷ ps)
        → (p : List ℕ) × (ps : List (List ℕ)) × (slice_split is_space (b ∷ text) ≡ p ∷ ps)
    go true is ih = ([], slice_split is_space text, slice_split-cons_yes is_space b text is)
    go false is ih
        = (b ∷ ih.0, ih.1, slice_split-cons_no is_space b text is ∙ ap (onto_first b) ih.2)

onto-more : (b : ℕ) (pieces p : List (List ℕ)) (first : List ℕ) (others : List (List ℕ))
    → pieces ≡ first ∷ others → onto_first b (pieces ++ p) ≡ onto_first b pieces ++ p
onto-more b pieces p first others is =
    ap (λ ps. onto_first b (ps ++ p)) is ∙ sym (ap (λ ps. onto_first b ps ++ p) is)

split-end : (text space : List ℕ) → list_all is_space space ≡ true
    → slice_split is_space (text ++ space) ≡ slice_split is_space text ++ empties space
split-end [] space all = split-spaces space all
split-end (b ∷ text) space all = go (is_space b) refl (split-end text space all)
  where
    go : (v : Bool) → is_space b ≡ v
        → slice_split is_space (text ++ space) ≡ slice_split is_space text ++ empties space
        → slice_split is_space (b ∷ text ++ space)
        ≡ slice_split is_space (b ∷ text) ++ empties space
    go true is ih =
        slice_split-cons_yes is_space b (text ++ space) is ∙ ap (λ ps. [] ∷ ps) ih
        ∙ sym (ap (λ ps. ps ++ empties space) (slice_split-cons_yes is_space b text is))
    go false is ih =
        let some = split-some text in
        slice_split-cons_no is_space b (text ++ space) is ∙ ap (onto_first b) ih
        ∙ onto-more b (slice_split is_space text) (empties space) some.0 some.1 some.2
        ∙ sym (ap (λ ps. ps ++ empties space) (slice_split-cons_no is_space b text is))

nonempty-end : (pieces : List (List ℕ)) (space : List ℕ)
    → nonempty (pieces ++ empties space) ≡ nonempty pieces
nonempty-end [] [] = refl
nonempty-end [] (b ∷ space) = nonempty-end [] space
nonempty-end ([] ∷ pieces) space = nonempty-end pieces space
nonempty-end ((b ∷ bs) ∷ pieces) space = ap (λ ps. (b ∷ bs) ∷ ps) (nonempty-end pieces space)

pub words-end : (text space : List ℕ) → list_all is_space space ≡ true
    → words (text ++ space) ≡ words text
unfolding words
words-end text space all =
    ap nonempty (split-end text space all) ∙ nonempty-end (slice_split is_space text) space

-- ---- the first word, and the rest

abbrev pub is_solid : ℕ → Bool
is_solid b = not (is_space b)

solid-length : (word : List ℕ) (b : ℕ) (text : List ℕ) → list_all is_solid word ≡ true
    → is_space b ≡ true → position_or_len is_space (word ++ b ∷ text) ≡ length word
solid-length [] b text solid space =
    ap (λ v. cond (not v) (1 + position_or_len is_space text) 0) space
solid-length (c ∷ word) b text solid space =
    let h = and_parts (is_solid c) (list_all is_solid word) solid in
    let ih : position_or_len is_space (word ++ b ∷ text) ≡ length word
    = solid-length word b text h.1 space in
    let one : 1 + position_or_len is_space (word ++ b ∷ text) ≡ suc (length word)
    = omega (arith, ih) in
    ap (λ v. cond v (1 + position_or_len is_space (word ++ b ∷ text)) 0) h.0 ∙ one

pub first-word : (word : List ℕ) (b : ℕ) (text : List ℕ) → list_all is_solid word ≡ true
    → is_space b ≡ true → first_word (word ++ b ∷ text) ≡ word
unfolding first_word
first-word word b text solid space =
    ap (λ n. take n (word ++ b ∷ text)) (solid-length word b text solid space)
    ∙ take-append_seam word (b ∷ text)

trimmed-space : (b : ℕ) (text : List ℕ) → is_space b ≡ true → trimmed (b ∷ text) ≡ trimmed text
unfolding trimmed
trimmed-space b text space = ap trimmed_end (trim-space b text space)

pub rest-after : (word : List ℕ) (b : ℕ) (text : List ℕ) → list_all is_solid word ≡ true
    → is_space b ≡ true → rest_after_word (word ++ b ∷ text) ≡ trimmed text
unfolding rest_after_word
rest-after word b text solid space =
    ap (λ w. trimmed (drop (length w) (word ++ b ∷ text))) (first-word word b text solid space)
    ∙ ap trimmed (drop-append_seam word (b ∷ text)) ∙ trimmed-space b text space

-- ---- the last byte

pub ends-last : (front text : List ℕ) (b : ℕ) (e : ℕ → ℕ → Bool) → 0 < length text
    → ends_with e (front ++ text) (b ∷ []) ≡ ends_with e text (b ∷ [])
ends-last front text b e some =
    let at : length (front ++ text) - 1 ≡ length front + (length text - 1)
    = omega (arith, length-append front text) in
    let same : drop (length (front ++ text) - 1) (front ++ text) ≡ drop (length text - 1) text =
    ap (λ n. drop n (front ++ text)) at ∙ drop-append-add front text (length text - 1) in
    rw same refl
