-- The words of a text, one word at a time.
use Rattle.std.proofs.Common.{◌≡◌, ℕ, zero, suc, ◌+◌, ◌-◌, ◌<◌, ◌≤◌, Bool, true, false, cond, List}
use Rattle.std.proofs.Common.{[], ◌∷◌, ◌++◌, length, take, drop, get_or, sym, refl, ap, ◌∙◌, ◌⊎◌}
use Rattle.std.proofs.Common.{inl, inr, append-nil, eqb, arith}
use Rattle.std.proofs.lemmas.Bool.{true≢false, eqb-true}
use Rattle.std.specs.Prelude.{not}
use Rattle.std.proofs.Math.Nat.{eq-or-lt_of_le}
use Rattle.std.specs.List.{All, slice_split, onto_first, before_first, after_first, prefix_len}
use Rattle.std.specs.List.{suffix_len, position_or_len}
use Rattle.std.proofs.lemmas.List.{take_more, length-take-le, length-drop, length-take}
use Rattle.std.proofs.lemmas.List.Elements.{All-from_get_or}
use Rattle.std.proofs.lemmas.List.Splits.{slice_split-cons_yes, slice_split_first, slice_split_none}
use Rattle.std.proofs.lemmas.List.Splits.{length-slice_split}
use Rattle.std.proofs.lemmas.List.Sums.{fails_before_first, passes_at_first, prefix_len-le-length}
use Rattle.std.proofs.lemmas.List.Sums.{suffix_len-take_yes, suffix_len-take_no}
use Rattle.std.proofs.Math.Seq.{take-length, drop-length, drop-cons}
use Rattle.km_names.specs.Space.{is_space, nonempty, trimmed_start, trimmed_end, trimmed}
use Rattle.km_names.specs.Space.{first_word, rest_after_word, words}

abbrev pieces : List ℕ → List (List ℕ)
pieces text = nonempty (slice_split is_space text)

-- ---- white space at either end gives no word

onto-snoc : (x : ℕ) (parts : List (List ℕ)) → 0 < length parts
    → onto_first x (parts ++ [] ∷ []) ≡ onto_first x parts ++ [] ∷ []
onto-snoc x [] l = absurd (omega arith)
onto-snoc x (part ∷ parts) l = refl

split-snoc : (text : List ℕ) (s : ℕ) → is_space s ≡ true
    → slice_split is_space (text ++ s ∷ []) ≡ slice_split is_space text ++ [] ∷ []
split-snoc [] s is = slice_split-cons_yes is_space s [] is
split-snoc (x ∷ text) s is =
    ap (λ ps. cond (is_space x) ([] ∷ ps) (onto_first x ps)) (split-snoc text s is)
    ∙ by (is_space x)
  where
    parts : List (List ℕ)
    parts = slice_split is_space text

    by : (b : Bool)
        → cond b ([] ∷ (parts ++ [] ∷ [])) (onto_first x (parts ++ [] ∷ []))
        ≡ cond b ([] ∷ parts) (onto_first x parts) ++ [] ∷ []
    by true = refl
    by false = onto-snoc x parts (omega (arith, length-slice_split is_space text))

nonempty-snoc : (parts : List (List ℕ)) → nonempty (parts ++ [] ∷ []) ≡ nonempty parts
nonempty-snoc [] = refl
nonempty-snoc ([] ∷ parts) = nonempty-snoc parts
nonempty-snoc ((b ∷ bs) ∷ parts) = ap (λ ps. (b ∷ bs) ∷ ps) (nonempty-snoc parts)

ends-at : (text : List ℕ) (n : ℕ) → n ≤ length text
    → pieces (take (n - suffix_len is_space (take n text)) text) ≡ pieces (take n text)
ends-at text zero l =
    ap (λ m. pieces (take m text))
    (let e : 0 - suffix_len is_space (take 0 text) ≡ 0 = omega arith in e)
ends-at text (suc n) l = by (is_space (get_or text n 0)) refl (ends-at text n (omega (arith, l)))
  where
    before : suc n - 1 ≡ n
    before = omega arith

    by : (b : Bool) → is_space (get_or text n 0) ≡ b
        → pieces (take (n - suffix_len is_space (take n text)) text) ≡ pieces (take n text)
        → pieces (take (suc n - suffix_len is_space (take (suc n) text)) text)
        ≡ pieces (take (suc n) text)
    by true is rest =
        let one : suffix_len is_space (take (suc n) text) ≡ 1 + suffix_len is_space (take n text) =
        suffix_len-take_yes is_space text (suc n) 0 (omega arith) l
        (ap (λ m. is_space (get_or text m 0)) before ∙ is)
        ∙ ap (λ m. 1 + suffix_len is_space (take m text)) before in
        let less : suc n - suffix_len is_space (take (suc n) text)
        ≡ n - suffix_len is_space (take n text)
        = omega (arith, one) in
        let more : take (suc n) text ≡ take n text ++ get_or text n 0 ∷ []
        = ap (λ m. take m text) (let e : suc n ≡ n + 1 = omega arith in e)
        ∙ take_more text n 0 (omega (arith, l)) in
        ap (λ m. pieces (take m text)) less ∙ rest
        ∙ sym (ap pieces more ∙ ap nonempty (split-snoc (take n text) (get_or text n 0) is)
        ∙ nonempty-snoc (slice_split is_space (take n text)))
    by false is rest =
        let none : suffix_len is_space (take (suc n) text) ≡ 0
        = suffix_len-take_no is_space text (suc n) 0 (omega arith) l
        (ap (λ m. is_space (get_or text m 0)) before ∙ is) in
        ap (λ m. pieces (take m text))
        (let e : suc n - suffix_len is_space (take (suc n) text) ≡ suc n
        = omega (arith, none) in e)

pieces-end : (text : List ℕ) → pieces (trimmed_end text) ≡ pieces text
pieces-end text =
    let all = take-length text in
    ap (λ t. pieces (take (length text - suffix_len is_space t) text)) (sym all)
    ∙ ends-at text (length text) (omega arith)
    ∙ ap pieces all

past : (n b : ℕ) (text : List ℕ) → drop (1 + n) (b ∷ text) ≡ drop n text
past n b text = ap (λ m. drop m (b ∷ text)) (let e : 1 + n ≡ suc n = omega arith in e)

pieces-start : (text : List ℕ) → pieces (trimmed_start text) ≡ pieces text
pieces-start [] = refl
pieces-start (b ∷ text) = by (is_space b) refl (pieces-start text)
  where
    by : (c : Bool) → is_space b ≡ c → pieces (trimmed_start text) ≡ pieces text
        → pieces (drop (cond (is_space b) (1 + prefix_len is_space text) 0) (b ∷ text))
        ≡ pieces (b ∷ text)
    by true is rest =
        ap (λ c. pieces (drop (cond c (1 + prefix_len is_space text) 0) (b ∷ text))) is
        ∙ ap pieces (past (prefix_len is_space text) b text) ∙ rest
        ∙ sym (ap nonempty (slice_split-cons_yes is_space b text is))
    by false is rest
        = ap (λ c. pieces (drop (cond c (1 + prefix_len is_space text) 0) (b ∷ text))) is

pieces-trimmed : (text : List ℕ) → pieces (trimmed text) ≡ pieces text
unfolding trimmed
pieces-trimmed text = pieces-end (trimmed_start text) ∙ pieces-start text

-- ---- the first word, and those of the rest

nonempty-first : (p : List ℕ) (ps : List (List ℕ))
    → nonempty (p ∷ ps) ≡ nonempty (p ∷ []) ++ nonempty ps
nonempty-first [] ps = refl
nonempty-first (b ∷ bs) ps = refl

module _ (text : List ℕ) where
  abbrev place : ℕ
  place = position_or_len is_space text

  within : place ≤ length text
  within = prefix_len-le-length (λ b. not (is_space b)) text

  word-long : length (before_first is_space text) ≡ place
  word-long = length-take-le place text within

  cut : (place ≡ length text) ⊎ (place < length text)
      → pieces text ≡ nonempty (before_first is_space text ∷ []) ++ pieces (drop place text)
  cut (inr l) =
      let at : drop place text ≡ get_or text place 0 ∷ after_first is_space text
      = drop-cons text place 0 l
      ∙ ap (λ m. get_or text place 0 ∷ drop m text)
      (let e : suc place ≡ place + 1 = omega arith in e) in
      ap nonempty (slice_split_first is_space text 0 l)
      ∙ nonempty-first (before_first is_space text)
      (slice_split is_space (after_first is_space text))
      ∙ ap (λ ps. nonempty (before_first is_space text ∷ []) ++ ps)
      (sym (ap pieces at
      ∙ ap nonempty
      (slice_split-cons_yes is_space (get_or text place 0)
      (after_first is_space text) (passes_at_first is_space text 0 l))))
  cut (inl end) =
      let none : All (λ b. is_space b ≡ false) text
      = All-from_get_or (λ b. is_space b ≡ false) text 0
      (λ j m. fails_before_first is_space text j 0 (omega (arith, end, m))) in
      ap nonempty (slice_split_none is_space text none)
      ∙ ap (λ t. nonempty (t ∷ [])) (sym (ap (λ m. take m text) end ∙ take-length text))
      ∙ sym (append-nil (nonempty (before_first is_space text ∷ [])))
      ∙ ap (λ t. nonempty (before_first is_space text ∷ []) ++ pieces t)
      (sym (ap (λ m. drop m text) end ∙ drop-length text))

pub words-split : (text : List ℕ)
    → words text ≡ nonempty (first_word text ∷ []) ++ words (rest_after_word text)
unfolding words first_word rest_after_word
words-split text =
    cut text (eq-or-lt_of_le (within text))
    ∙ ap (λ ps. nonempty (before_first is_space text ∷ []) ++ ps)
    (ap (λ m. pieces (drop m text)) (sym (word-long text))
    ∙ sym (pieces-trimmed (drop (length (before_first is_space text)) text)))

-- ---- the rest is shorter

trimmed-short : (text : List ℕ) → length (trimmed text) ≤ length (trimmed_start text)
unfolding trimmed
trimmed-short text =
    omega (
      arith,
      length-take (length (trimmed_start text) - suffix_len is_space (trimmed_start text))
          (trimmed_start text),
    )

start-short : (text : List ℕ) → length (trimmed_start text) ≤ length text
start-short text = omega (arith, length-drop (prefix_len is_space text) text)

-- a text that begins with white space loses it, and one that begins with a word loses the word
pub rest-short : (text : List ℕ) → 0 < length text → length (rest_after_word text) < length text
unfolding rest_after_word first_word
rest-short [] l = absurd (omega (arith, l))
rest-short (b ∷ text) l = by (is_space b) refl
  where
    left : List ℕ
    left = drop (length (before_first is_space (b ∷ text))) (b ∷ text)

    by : (c : Bool) → is_space b ≡ c → length (trimmed left) < length (b ∷ text)
    by true is =
        let none : length (before_first is_space (b ∷ text)) ≡ 0
        = word-long (b ∷ text)
        ∙ ap (λ c. cond (not c) (1 + prefix_len (λ x. not (is_space x)) text) 0) is in
        let all : left ≡ b ∷ text = ap (λ m. drop m (b ∷ text)) none in
        let start : trimmed_start left ≡ trimmed_start text
        = ap trimmed_start all
        ∙ ap (λ c. drop (cond c (1 + prefix_len is_space text) 0) (b ∷ text)) is
        ∙ past (prefix_len is_space text) b text in
        omega (arith, trimmed-short left, ap length start, start-short text)
    by false is =
        let some : length (before_first is_space (b ∷ text))
        ≡ 1 + prefix_len (λ x. not (is_space x)) text
        =
        word-long (b ∷ text)
        ∙ ap (λ c. cond (not c) (1 + prefix_len (λ x. not (is_space x)) text) 0) is in
        omega (
          arith,
          trimmed-short left,
          start-short left,
          length-drop (length (before_first is_space (b ∷ text))) (b ∷ text),
          some,
        )

-- ---- by what a text was split into

pub words-cut : (text word after : List ℕ) → word ≡ first_word text → after ≡ rest_after_word text
    → nonempty (word ∷ []) ++ words after ≡ words text
words-cut text word after first rest =
    ap (λ w. nonempty (w ∷ []) ++ words after) first
    ∙ ap (λ t. nonempty (first_word text ∷ []) ++ words t) rest ∙ sym (words-split text)

pub rest-shorter : (text after : List ℕ) → after ≡ rest_after_word text
    → eqb (length text) 0 ≡ false → length after < length text
rest-shorter [] after rest some = absurd (true≢false some)
rest-shorter (b ∷ bs) after rest some =
    omega (arith, ap length rest, rest-short (b ∷ bs) (omega arith))

pub no-words : (text : List ℕ) → eqb (length text) 0 ≡ true → words text ≡ []
unfolding words
no-words [] none = refl
no-words (b ∷ bs) none = absurd (omega (arith, eqb-true (length (b ∷ bs)) 0 none))
