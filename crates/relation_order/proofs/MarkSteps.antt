-- Marks, 64 in a word.
use Rattle.std.proofs.Common.{◌≡◌, ℕ, zero, suc, ◌+◌, ◌*◌, ◌/◌, ◌%◌, ◌^◌, ◌<◌, ◌≤◌, Bool, true}
use Rattle.std.proofs.Common.{false, cond, eqb, ltb, List, [], ◌∷◌, length, get_or, set, replicate}
use Rattle.std.proofs.Common.{max, w64, sym, refl, ap, ◌∙◌, inl, inr, zero-add, arith}
use Rattle.std.specs.Prelude.{◌||◌, ◌&&◌, ◌≢◌, filter, bit_or, count_ones, nat_eq}
use Rattle.std.specs.Int.{bit_at, div_ceil}
use Rattle.std.specs.Int.Count.{ones_step}
use Rattle.std.specs.List.{sum_by, count_by, range_with_len, AllPairs, IsDistinct}
use Rattle.std.specs.Cmp.{nat_eq_equiv}
use Rattle.std.proofs.lemmas.Bool.{true≢false, cases_eq, cases_lt, eq-eqb, ne_eqb, lt-ltb, le-ltb}
use Rattle.std.proofs.lemmas.Bool.Decides.{Decides-eqb}
use Rattle.std.proofs.lemmas.List.{get_or-set_same, get_or-set_other, get_or_past, get_or_read}
use Rattle.std.proofs.lemmas.List.Sums.{length-filter, sum_by-cons}
use Rattle.std.proofs.lemmas.List.Kept.{AllPairs-filter}
use Rattle.std.proofs.lemmas.List.FromFn.{length-range_with_len, get_or-range_with_len}
use Rattle.std.proofs.lemmas.Map.Made.{IsDistinct-from_AllPairs, length-from_same_keys}
use Rattle.std.proofs.lemmas.Nat.{ones_le_self}
use Rattle.std.proofs.Math.Nat.{pow-suc}
use Rattle.std.proofs.lemmas.Nat.Bits.{bit_at_set_same, bit_at_set_other, bit_at_or, bit_at-zero}
use Rattle.std.proofs.lemmas.Nat.Bits.{bit_at-lt, bit_at-suc, bit_at_lowest}
use Rattle.relation_order.specs.Sets.{has, below}
use Rattle.relation_order.specs.Rows.{has_mark}
use Rattle.relation_order.proofs.Lists.{has-range}
use Rattle.relation_order.proofs.Saturation.{has-filter}

-- two places in one word
same-place : (x y : ℕ) → x / 64 ≡ y / 64 → x % 64 ≡ y % 64 → x ≡ y
same-place x y q m = omega arith

-- the word of an item is one of those that all items take
pub low-word : (y n : ℕ) → y < n → y / 64 < div_ceil n 64
low-word y n l = omega arith

or-false : (b : Bool) → (b || false) ≡ b
or-false true = refl
or-false false = refl

or-true : (b : Bool) → (b || true) ≡ true
or-true true = refl
or-true false = refl

-- no mark past the last word, nor where each word is 0
pub no-mark : (words : List ℕ) (y : ℕ) → get_or words (y / 64) 0 ≡ 0 → has_mark words y ≡ false
no-mark words y e = ap (λ n. eqb (bit_at n (y % 64)) 1) e ∙ ap (λ n. eqb n 1) (bit_at-zero (y % 64))

pub unmarked : (n y : ℕ) → has_mark (replicate n 0) y ≡ false
unmarked n y = no-mark (replicate n 0) y (zeros n (y / 64))
  where
    zeros : (n k : ℕ) → ◌≡◌ {A = ℕ} (get_or (replicate n 0) k 0) 0
    zeros zero k = refl
    zeros (suc n) zero = refl
    zeros (suc n) (suc k) = zeros n k

-- of the items of an order none is marked in a row without a word
pub none-marked : (words order : List ℕ) → length words ≡ 0 → filter (has_mark words) order ≡ []
none-marked words [] short = refl
none-marked words (y ∷ ys) short =
    ap (λ b. cond b (y ∷ filter (has_mark words) ys) (filter (has_mark words) ys))
    (no-mark words y (get_or_past words (y / 64) 0 (omega arith)))
    ∙ none-marked words ys short

-- one mark more
marked-one : (words : List ℕ) (item y : ℕ) → item / 64 < length words
    → has_mark (set words (item / 64)
    (bit_or (get_or words (item / 64) 0) (1 * 2 ^ (item % 64) % 2 ^ 64))) y
    ≡ (has_mark words y || eqb y item)
marked-one words item y l =
    elim (cases_eq (y / 64) (item / 64)) [
      | inr other ↦
          ap (λ n. eqb (bit_at n (y % 64)) 1)
          (get_or-set_other words (item / 64) (y / 64) _ 0 other)
          ∙ sym (or-false (has_mark words y))
          ∙ ap (λ b. has_mark words y || b)
          (sym (ne_eqb y item (λ e. other (ap (λ n. n / 64) e))))
      | inl same ↦
          ap (λ k. eqb (bit_at
          (get_or (set words (item / 64)
          (bit_or (get_or words (item / 64) 0) (1 * 2 ^ (item % 64) % 2 ^ 64))) k 0)
          (y % 64)) 1) same
          ∙ ap (λ n. eqb (bit_at n (y % 64)) 1)
          (get_or-set_same words (item / 64)
          (bit_or (get_or words (item / 64) 0) (1 * 2 ^ (item % 64) % 2 ^ 64)) 0 l)
          ∙ in-word same
    ]
  where
    in-word : y / 64 ≡ item / 64
        → eqb (bit_at (bit_or (get_or words (item / 64) 0) (1 * 2 ^ (item % 64) % 2 ^ 64)) (y % 64))
        1
        ≡ (has_mark words y || eqb y item)
    in-word same =
        elim (cases_eq (y % 64) (item % 64)) [
          | inl bit ↦
              ap (λ i. eqb (bit_at
              (bit_or (get_or words (item / 64) 0) (1 * 2 ^ (item % 64) % 2 ^ 64)) i) 1) bit
              ∙ ap (λ n. eqb n 1)
              (bit_at_set_same w64 (get_or words (item / 64) 0) (item % 64) (omega arith))
              ∙ sym (ap (λ b. has_mark words y || b) (eq-eqb y item (same-place y item same bit))
              ∙ or-true (has_mark words y))
          | inr bit ↦
              ap (λ n. eqb n 1)
              (bit_at_set_other w64 (get_or words (item / 64) 0) (item % 64) (omega arith)
              (y % 64) bit)
              ∙ ap (λ k. eqb (bit_at (get_or words k 0) (y % 64)) 1) (sym same)
              ∙ sym (ap (λ b. has_mark words y || b) (ne_eqb y item (λ e. bit (ap (λ n. n % 64) e)))
              ∙ or-false (has_mark words y))
        ]

pub marked-read : (words : List ℕ) (item word y : ℕ) → item / 64 < length words
    → word ≡ get_or words (item / 64) word
    → has_mark (set words (item / 64) (bit_or word (1 * 2 ^ (item % 64) % 2 ^ 64))) y
    ≡ (has_mark words y || eqb y item)
marked-read words item word y l is =
    ap (λ n. has_mark (set words (item / 64) (bit_or n (1 * 2 ^ (item % 64) % 2 ^ 64))) y)
    (get_or_read words (item / 64) word l is 0)
    ∙ marked-one words item y l

-- the marks of two rows
pub marked-either : (words other words' : List ℕ) (k y : ℕ) → length other ≤ k
    → ((j : ℕ)
    → get_or words' j 0
    ≡ cond (ltb j k) (bit_or (get_or words j 0) (get_or other j 0)) (get_or words j 0))
    → has_mark words' y ≡ (has_mark words y || has_mark other y)
marked-either words other words' k y past each =
    elim (cases_lt (y / 64) k) [
      | inl l ↦
          ap (λ n. eqb (bit_at n (y % 64)) 1)
          (each (y / 64)
          ∙ ap (λ b. cond b (bit_or (get_or words (y / 64) 0) (get_or other (y / 64) 0))
          (get_or words (y / 64) 0)) (lt-ltb (y / 64) k l))
          ∙ ap (λ n. eqb n 1)
          (bit_at_or (get_or words (y / 64) 0) (get_or other (y / 64) 0) (y % 64))
          ∙ either (bit_at (get_or words (y / 64) 0) (y % 64))
          (bit_at (get_or other (y / 64) 0) (y % 64))
          (bit_at-lt (get_or words (y / 64) 0) (y % 64))
          (bit_at-lt (get_or other (y / 64) 0) (y % 64))
      | inr h ↦
          ap (λ n. eqb (bit_at n (y % 64)) 1)
          (each (y / 64)
          ∙ ap (λ b. cond b (bit_or (get_or words (y / 64) 0) (get_or other (y / 64) 0))
          (get_or words (y / 64) 0)) (le-ltb (y / 64) k h))
          ∙ sym (ap (λ b. has_mark words y || b)
          (no-mark other y (get_or_past other (y / 64) 0 (omega arith)))
          ∙ or-false (has_mark words y))
    ]
  where
    either : (a b : ℕ) → a < 2 → b < 2 → eqb (max a b) 1 ≡ (eqb a 1 || eqb b 1)
    either zero zero l m = refl
    either zero (suc zero) l m = refl
    either (suc zero) zero l m = refl
    either (suc zero) (suc zero) l m = refl
    either (suc (suc a)) b l m = absurd (omega arith)
    either a (suc (suc b)) l m = absurd (omega arith)

count-cons : (p : ℕ → Bool) (x : ℕ) (xs : List ℕ)
    → count_by p (x ∷ xs) ≡ cond (p x) 1 0 + count_by p xs
count-cons p x xs = sum_by-cons (λ y. cond (p y) 1 0) x xs

-- how many of some numbers in a run pass, of which the first are those of a first run
count-split : (p : ℕ → Bool) (a n m : ℕ)
    → count_by p (range_with_len a (n + m))
    ≡ count_by p (range_with_len a n) + count_by p (range_with_len (a + n) m)
count-split p a zero m =
    let e : 0 + m ≡ m = omega arith in
    let f : a + 0 ≡ a = omega arith in
    ap (λ k. count_by p (range_with_len a k)) e ∙ ap (λ b. count_by p (range_with_len b m)) (sym f)
    ∙ sym (zero-add _)
count-split p a (suc n) m =
    let e : suc n + m ≡ suc (n + m) = omega arith in
    let f : (a + 1) + n ≡ a + suc n = omega arith in
    ap (λ k. count_by p (range_with_len a k)) e ∙ count-cons p a (range_with_len (a + 1) (n + m))
    ∙ omega (
      arith,
      count-split p (a + 1) n m,
      ap (λ b. count_by p (range_with_len b m)) f,
      count-cons p a (range_with_len (a + 1) n),
    )

-- how many marks a word has
ones-of_word : (k a n : ℕ) (p : ℕ → Bool) → n < 2 ^ k
    → ((i : ℕ) → i < k → p (a + i) ≡ eqb (bit_at n i) 1)
    → count_by p (range_with_len a k) ≡ count_ones n
ones-of_word zero a n p l same = omega (arith, ones_le_self n)
ones-of_word (suc k) a n p l same =
    let e : 2 ^ suc k ≡ 2 ^ k * 2 = pow-suc 2 k in
    let z : a + 0 ≡ a = omega arith in
    let first : cond (p a) 1 0 ≡ n % 2
    = ap (λ b. cond (p b) 1 0) (sym z) ∙ ap (λ b. cond b 1 0) (same 0 (omega arith))
    ∙ ap (λ b. cond (eqb b 1) 1 0) (bit_at_lowest n) ∙ bit (n % 2) (omega arith) in
    let rest
    = ones-of_word k (a + 1) (n / 2) p (omega arith)
    (λ i m. let f : (a + 1) + i ≡ a + suc i
    = omega arith in ap p f ∙ same (suc i) (omega arith)
    ∙ ap (λ b. eqb b 1) (bit_at-suc n i)) in
    omega (arith, count-cons p a (range_with_len (a + 1) k), first, rest, ones_step n)
  where
    bit : (b : ℕ) → b < 2 → cond (eqb b 1) 1 0 ≡ b
    bit zero l = refl
    bit (suc zero) l = refl
    bit (suc (suc b)) l = absurd (omega arith)

-- and how many those of a row have
ones-of_words : (words : List ℕ) (a : ℕ) (p : ℕ → Bool) → ((k : ℕ) → get_or words k 0 < 2 ^ 64)
    → ((y : ℕ) → y < 64 * length words → p (a + y) ≡ has_mark words y)
    → count_by p (range_with_len a (64 * length words)) ≡ sum_by count_ones words
ones-of_words [] a p fits same = refl
ones-of_words (w ∷ ws) a p fits same =
    let e : 64 * suc (length ws) ≡ 64 + 64 * length ws = omega arith in
    let rest
    = ones-of_words ws (a + 64) p (λ k. fits (suc k))
    (λ y l. let f : (a + 64) + y ≡ a + (64 + y)
    = omega arith in ap p f ∙ same (64 + y) (omega arith) ∙ later y) in
    ap (λ k. count_by p (range_with_len a k)) e ∙ count-split p a 64 (64 * length ws)
    ∙ omega (
      arith,
      ones-of_word 64 a w p (fits 0) (λ i l. same i (omega arith) ∙ first i l),
      rest,
      sum_by-cons count_ones w ws,
    )
  where
    first : (i : ℕ) → i < 64 → has_mark (w ∷ ws) i ≡ eqb (bit_at w i) 1
    first i l =
        let q : i / 64 ≡ 0 = omega arith in
        let m : i % 64 ≡ i = omega arith in
        ap (λ k. eqb (bit_at (get_or (w ∷ ws) k 0) (i % 64)) 1) q ∙ ap (λ k. eqb (bit_at w k) 1) m

    later : (y : ℕ) → has_mark (w ∷ ws) (64 + y) ≡ has_mark ws y
    later y =
        let q : (64 + y) / 64 ≡ suc (y / 64) = omega arith in
        let m : (64 + y) % 64 ≡ y % 64 = omega arith in
        ap (λ k. eqb (bit_at (get_or (w ∷ ws) k 0) ((64 + y) % 64)) 1) q
        ∙ ap (λ k. eqb (bit_at (get_or ws (y / 64) 0) k) 1) m

pub marks-are_ones : (words : List ℕ) → ((k : ℕ) → get_or words k 0 < 2 ^ 64)
    → sum_by count_ones words ≡ length (filter (has_mark words) (below (64 * length words)))
marks-are_ones words fits =
    sym (length-filter (has_mark words) (below (64 * length words))
    ∙ ones-of_words words 0 (has_mark words) fits
    (λ y l. let z : 0 + y ≡ y = omega arith in ap (has_mark words) z))

-- a mark is within the words
mark-inside : (words : List ℕ) (y : ℕ) → has_mark words y ≡ true → y < 64 * length words
mark-inside words y h =
    elim (cases_lt (y / 64) (length words)) [
      | inl l ↦ omega arith
      | inr past ↦ absurd (true≢false (sym h ∙ no-mark words y (get_or_past words (y / 64) 0 past)))
    ]

-- an order that has all that is marked has as many marked ones
pub marks-in_order : (words order : List ℕ) → AllPairs (λ x y. x ≢ y) order
    → ((y : ℕ) → has_mark words y ≡ true → has order y ≡ true)
    → length (filter (has_mark words) (below (64 * length words)))
    ≡ length (filter (has_mark words) order)
marks-in_order words order once all =
    length-from_same_keys nat_eq_equiv (filter (has_mark words) (below n))
    (filter (has_mark words) order)
    (distinct-filter (below n) (λ i j d l m. apart i j d l m)) (distinct-filter order once) same
  where
    n : ℕ
    n = 64 * length words

    distinct-filter : (xs : List ℕ) → AllPairs (λ x y. x ≢ y) xs
        → IsDistinct nat_eq (filter (has_mark words) xs)
    distinct-filter xs pairs
        = IsDistinct-from_AllPairs Decides-eqb (filter (has_mark words) xs)
        (AllPairs-filter (λ x y. x ≢ y) (has_mark words) xs pairs)

    apart : AllPairs (λ x y. x ≢ y) (below n)
    apart i j d l m e =
        let long = length-range_with_len 0 n in
        let a = get_or-range_with_len 0 n i d (omega arith) in
        let b = get_or-range_with_len 0 n j d (omega arith) in
        absurd (omega (arith, e))

    same : (q : ℕ)
        → has (filter (has_mark words) (below n)) q ≡ has (filter (has_mark words) order) q
    same q
        = has-filter (has_mark words) (below n) q ∙ go (has_mark words q) refl
        ∙ sym (has-filter (has_mark words) order q)
      where
        go : (b : Bool) → has_mark words q ≡ b → (b && has (below n) q) ≡ (b && has order q)
        go false e = refl
        go true e
            = has-range 0 n q (omega arith) (let l = mark-inside words q e in omega arith)
            ∙ sym (all q e)
