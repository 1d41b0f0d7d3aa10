-- Loops that change words one by one, and the bits of words.
use Rattle.std.proofs.Common.{leb, w8, cond, replicate, [], ◌∷◌, ◌≡◌, refl, sym, ap, subst, ◌∙◌}
use Rattle.std.proofs.Common.{⊎_elim, ℕ, zero, suc, ◌+◌, ◌-◌, ◌*◌, ◌/◌, ◌%◌, ◌^◌, ◌<◌, ◌≤◌, min}
use Rattle.std.proofs.Common.{max, Bool, true, false, not, ◌&&◌, ◌||◌, nat_le, List, length, map}
use Rattle.std.proofs.Common.{take, set, slice_index, arith}
use Rattle.std.proofs.lemmas.Bool.{false_from_ne_true, cases_eq, cases_lt, or_left, or_right}
use Rattle.std.proofs.lemmas.Bool.{or_from, and_left, and_right, leb-true, le-leb, lt-leb}
use Rattle.std.proofs.lemmas.Bool.{true≢false}
use Rattle.std.proofs.lemmas.List.{get_or-set_same, get_or-set_other, get_or-map, length-map}
use Rattle.std.proofs.lemmas.List.{get_or-take, length-take-le}
use Rattle.std.proofs.lemmas.Simd.{bit_mask_l, get_or-chunk, length-chunk, tops_compared}
use Rattle.std.proofs.lemmas.Simd.{mask_l-mod}
use lib.Lanes.{chunk, mask_l, zip2, top}
use Rattle.std.proofs.lemmas.Nat.Bits.{bit_at-zero, bit_at_and, bit_at_ones, bit_at_ones_above}
use Rattle.std.proofs.lemmas.Nat.Bits.{bit_at_mask_inside, bit_at_mask_below, ones_shr}
use Rattle.std.specs.Int.{bit_at}
use Rattle.std.specs.Int.Bits.{bit_and}
use Rattle.glob_match.specs.Words.{bit, is_between, HasBits, HasFront, HasPlaces, moved, any_up_to}

-- ---- words that are changed one by one

-- The words up to a place were changed as P says of a word's place, its old value and its new one.
pub record Changed (P : ℕ → ℕ → ℕ → Type 0) (old new : List ℕ) (at : ℕ) : Type 0 where
  pub done : (k : ℕ) → k < at → P k (slice_index old k) (slice_index new k)
  pub left : (k : ℕ) → at ≤ k → slice_index new k ≡ slice_index old k

pub unchanged : (P : ℕ → ℕ → ℕ → Type 0) (old : List ℕ) → Changed P old old 0
unchanged P old = record { done = λ k lt. absurd (omega (arith, lt)); left = λ k le. refl }

pub change : (P : ℕ → ℕ → ℕ → Type 0) (old new : List ℕ) (at word : ℕ) → at < length new
    → Changed P old new at → P at (slice_index old at) word
    → Changed P old (set new at word) (at + 1)
change P old new at word low h p = record {
  done = λ k lt.
      ⊎_elim
      (λ here. subst (λ j. P j (slice_index old j) (slice_index (set new at word) j)) (sym here)
      (subst (P at (slice_index old at)) (sym (get_or-set_same new at word 0 low)) p))
      (λ other. subst (P k (slice_index old k)) (sym (get_or-set_other new at k word 0 other))
      (h.done k (omega (arith, lt, other))))
      (cases_eq k at);
  left
      = λ k le. get_or-set_other new at k word 0 (λ e. omega (arith, le, e))
      ∙ h.left k (omega (arith, le));
}

-- ---- bits of tests

pub bit_both : (s t : Bool) → min (bit s) (bit t) ≡ bit (s && t)
bit_both true true = refl
bit_both true false = refl
bit_both false true = refl
bit_both false false = refl

pub bit_either : (s t : Bool) → max (bit s) (bit t) ≡ bit (s || t)
bit_either true true = refl
bit_either true false = refl
bit_either false true = refl
bit_either false false = refl

pub bit_other : (t : Bool) → 1 - bit t ≡ bit (not t)
bit_other true = refl
bit_other false = refl

pub bit_once : (t s : Bool) → bit t ≡ bit s → t ≡ s
bit_once true true e = refl
bit_once false false e = refl
bit_once true false e = absurd (omega (arith, e))
bit_once false true e = absurd (omega (arith, e))

-- ---- a comparison with one byte

splat_zip2 : (f : ℕ → ℕ → Bool) (x : ℕ) (ys : List ℕ)
    → zip2 f (replicate (length ys) x) ys ≡ map (f x) ys
splat_zip2 f x [] = refl
splat_zip2 f x (y ∷ ys) = ap (λ rest. f x y ∷ rest) (splat_zip2 f x ys)

-- `to_bitmask` of `simd_ge` with this byte
pub least_bitmask : (v : List ℕ) (low : ℕ) → length v ≡ 64
    → mask_l (map (top 7) (zip2 (λ a b. cond (leb a b) 255 0) (replicate 64 low) v)) % 2 ^ 64
    ≡ mask_l (map (λ byte. leb low byte) v)
least_bitmask v low long =
    ap (λ ms. mask_l ms % 2 ^ 64)
    (tops_compared w8 leb (replicate 64 low) v
    ∙ ap (λ m. zip2 leb (replicate m low) v) (sym long) ∙ splat_zip2 leb low v)
    ∙ mask_l-mod (map (λ byte. leb low byte) v) 64
    (omega (arith, length-map v (λ byte. leb low byte)))

-- one bit of the mask of the lanes that pass a test
pub lane : (test : ℕ → Bool) (xs : List ℕ) (i : ℕ) → i < length xs
    → bit_at (mask_l (map test xs)) i ≡ bit (test (slice_index xs i))
lane test xs i lt = bit_mask_l (map test xs) i ∙ ap bit (get_or-map test xs i 0 false lt)

pub both_lanes : (xs : List ℕ) (low high i a b : ℕ) → i < 64 → 64 ≤ length xs
    → a ≡ mask_l (map (λ byte. nat_le low byte) (chunk 0 64 xs))
    → b ≡ mask_l (map (λ byte. nat_le byte high) (chunk 0 64 xs))
    → bit_at (bit_and a b) i ≡ bit (is_between low high (slice_index xs i))
both_lanes xs low high i a b lt room a_is b_is =
    let long = length-chunk 0 64 xs room in
    let within : i < length (chunk 0 64 xs) = omega (arith, long, lt) in
    let start : 0 + i ≡ i = omega arith in
    let here : slice_index (chunk 0 64 xs) i ≡ slice_index xs i
    = get_or-chunk 0 64 xs i 0 lt ∙ ap (slice_index xs) start in
    bit_at_and a b i
    ∙ (λ j. min (bit_at (a_is j) i) (bit_at (b_is j) i))
    ∙ (λ j. min (lane (λ byte. nat_le low byte) (chunk 0 64 xs) i within j)
    (lane (λ byte. nat_le byte high) (chunk 0 64 xs) i within j))
    ∙ bit_both (nat_le low (slice_index (chunk 0 64 xs) i))
    (nat_le (slice_index (chunk 0 64 xs) i) high)
    ∙ ap (λ x. bit (is_between low high x)) here

-- ---- places up to a number

abbrev pub any_below : (ℕ → Bool) → ℕ → Bool
any_below test zero = false
any_below test (suc n) = any_below test n || test n

pub up_to_below : (test : ℕ → Bool) (n : ℕ) → any_up_to test n ≡ any_below test (suc n)
up_to_below test zero = refl
up_to_below test (suc n) = ap (λ t. t || test (suc n)) (up_to_below test n)

pub none_below : (test : ℕ → Bool) (m j : ℕ) → any_below test m ≡ false
    → ((i : ℕ) → i < j → test (m + i) ≡ false) → any_below test (m + j) ≡ false
none_below test m zero none later =
    let here : m ≡ m + 0 = omega arith in subst (λ n. any_below test n ≡ false) here none
none_below test m (suc j) none later =
    let more : suc (m + j) ≡ m + suc j = omega arith in
    subst (λ n. any_below test n ≡ false) more
    (or_from _ _ (none_below test m j none (λ i lt. later i (omega (arith, lt))))
    (later j (omega arith)))

pub some_below : (test : ℕ → Bool) (m n : ℕ) → m < n → test m ≡ true → any_below test n ≡ true
some_below test m zero low holds = absurd (omega (arith, low))
some_below test m (suc n) low holds =
    ⊎_elim
    (λ here. or_right (any_below test n) (test n) (subst (λ k. test k ≡ true) here holds))
    (λ other. or_left (any_below test n) (test n)
    (some_below test m n (omega (arith, low, other)) holds))
    (cases_eq m n)

pub still_below : (test : ℕ → Bool) (m n : ℕ) → m ≤ n → any_below test m ≡ true
    → any_below test n ≡ true
still_below test zero n le holds = absurd (true≢false (sym holds))
still_below test (suc m) zero le holds = absurd (omega (arith, le))
still_below test (suc m) (suc n) le holds =
    ⊎_elim
    (λ here. subst (λ k. any_below test (suc k) ≡ true) here holds)
    (λ other. or_left (any_below test n) (test n)
    (still_below test (suc m) n (omega (arith, le, other)) holds))
    (cases_eq m n)

-- ---- a word that is filled from its lowest place on

module _ (test : ℕ → Bool) (words : List ℕ) (h : HasBits words test) (k : ℕ) (lt : k < length words)
  where
    pub after_some : any_below test (64 * k) ≡ true → (i : ℕ) → any_up_to test (64 * k + i) ≡ true
    after_some some i
        = up_to_below test (64 * k + i)
        ∙ still_below test (64 * k) (suc (64 * k + i)) (omega arith) some

    no_place : (i : ℕ) → i < 64 → bit_at (slice_index words k) i ≡ 0 → test (64 * k + i) ≡ false
    no_place i low e = bit_once (test (64 * k + i)) false (sym (h k i lt low) ∙ e)

    pub empty_word : slice_index words k ≡ 0 → any_below test (64 * k) ≡ false → (j : ℕ) → j ≤ 64
        → any_below test (64 * k + j) ≡ false
    empty_word e none j le
        = none_below test (64 * k) j none
        (λ i low. no_place i (omega (arith, low, le)) (ap (λ w. bit_at w i) e ∙ bit_at-zero i))

    -- the place t is the lowest one of the word
    module _ (t : ℕ) (low : t < 64) (there : bit_at (slice_index words k) t ≡ 1)
        (none : (i : ℕ) → i < t → bit_at (slice_index words k) i ≡ 0) where
      lowest_place : test (64 * k + t) ≡ true
      lowest_place = bit_once (test (64 * k + t)) true (sym (h k t lt low) ∙ there)

      pub found_word : any_below test (64 * (k + 1)) ≡ true
      found_word = some_below test (64 * k + t) (64 * (k + 1)) (omega (arith, low)) lowest_place

      pub filled_word : any_below test (64 * k) ≡ false → (i : ℕ) → i < 64
          → bit_at (2 ^ 64 - 2 ^ t) i ≡ bit (any_up_to test (64 * k + i))
      filled_word before i small =
          ⊎_elim
          (λ under.
          let more : suc (64 * k + i) ≡ 64 * k + suc i = omega arith in
          bit_at_mask_below t 64 i under
          ∙ ap bit (sym
          (up_to_below test (64 * k + i) ∙ ap (any_below test) more
          ∙ none_below test (64 * k) (suc i) before
          (λ j lt_j. no_place j (omega (arith, lt_j, small))
          (none j (omega (arith, lt_j, under)))))))
          (λ from.
          bit_at_mask_inside t 64 i from small
          ∙ ap bit (sym
          (up_to_below test (64 * k + i)
          ∙ some_below test (64 * k + t) (suc (64 * k + i)) (omega (arith, from))
          lowest_place)))
          (cases_lt i t)

-- ---- the last word, up to a place

pub cut_mask : (r i : ℕ) → r < 64 → i < 64
    → bit_at ((2 ^ 64 - 1) / 2 ^ (63 - r)) i ≡ bit (nat_le i r)
cut_mask r i small low =
    let few : 63 - r ≤ 64 = omega arith in
    let count : 64 - (63 - r) ≡ r + 1 = omega (arith, small) in
    ap (λ n. bit_at n i) (ones_shr 64 (63 - r) few ∙ ap (λ n. 2 ^ n - 1) count)
    ∙ ⊎_elim
    (λ within. bit_at_ones (r + 1) i within ∙ ap bit (sym (le-leb i r (omega (arith, within)))))
    (λ past. bit_at_ones_above (r + 1) i past ∙ ap bit (sym (lt-leb i r (omega (arith, past)))))
    (cases_lt i (r + 1))

pub same_order : (a b m n : ℕ) → (a ≤ b → m ≤ n) → (m ≤ n → a ≤ b) → nat_le a b ≡ nat_le m n
same_order a b m n to back =
    elim (nat_le a b) as (λ t. nat_le a b ≡ t → t ≡ nat_le m n) [
      | true ↦ λ e. sym (le-leb m n (to (leb-true a b e)))
      | false ↦ λ e. sym
          (false_from_ne_true (nat_le m n)
          (λ f. true≢false (sym (le-leb a b (back (leb-true m n f))) ∙ e)))
    ] refl

pub cut_bits : (words : List ℕ) (last : ℕ) (test : ℕ → Bool) → HasBits words test
    → last / 64 + 1 ≡ length words → (k i : ℕ) → k < length words → i < 64
    → bit_at (slice_index
    (set words (last / 64)
    (bit_and (slice_index words (last / 64)) ((2 ^ 64 - 1) / 2 ^ (63 - last % 64)))) k)
    i
    ≡ bit (nat_le (64 * k + i) last && test (64 * k + i))
cut_bits words last test h size k i lt low =
    let q = last / 64 in
    let r = last % 64 in
    let word = bit_and (slice_index words q) ((2 ^ 64 - 1) / 2 ^ (63 - r)) in
    let parts : 64 * q + r ≡ last = omega arith in
    ⊎_elim
    (λ here.
    let same : nat_le i r ≡ nat_le (64 * k + i) last
    = same_order i r (64 * k + i) last (λ le. omega (arith, le, here, parts))
    (λ le. omega (arith, le, here, parts)) in
    ap (λ w. bit_at w i)
    (ap (slice_index (set words q word)) here
    ∙ get_or-set_same words q word 0 (omega (arith, size)))
    ∙ bit_at_and (slice_index words q) ((2 ^ 64 - 1) / 2 ^ (63 - r)) i
    ∙ (λ j. min (ap (λ m. bit_at (slice_index words m) i) (sym here) j)
    (cut_mask r i (omega arith) low j))
    ∙ (λ j. min (h k i lt low j) (bit (same j)))
    ∙ bit_swapped (test (64 * k + i)) (nat_le (64 * k + i) last))
    (λ other.
    let within : nat_le (64 * k + i) last ≡ true
    = le-leb (64 * k + i) last (omega (arith, other, lt, size, parts)) in
    ap (λ w. bit_at w i) (get_or-set_other words q k word 0 other)
    ∙ h k i lt low
    ∙ ap (λ t. bit (t && test (64 * k + i))) (sym within))
    (cases_eq k q)
  where
    bit_swapped : (s t : Bool) → min (bit s) (bit t) ≡ bit (t && s)
    bit_swapped true true = refl
    bit_swapped true false = refl
    bit_swapped false true = refl
    bit_swapped false false = refl

-- ---- places from a first one on

taken_bits : (words : List ℕ) (m : ℕ) (test : ℕ → Bool) → m ≤ length words → HasBits words test
    → HasBits (take m words) test
taken_bits words m test le h k i lt low =
    let size = length-take-le m words le in
    ap (λ w. bit_at w i) (get_or-take m words k 0 (omega (arith, lt, size)))
    ∙ h k i (omega (arith, lt, size, le)) low

pub cut_places : (first size : ℕ) (words new : List ℕ) (test : ℕ → Bool) → first ≤ size
    → (size - first) / 64 < length words → length new ≡ (size - first) / 64 + 1
    → ((t : ℕ → Bool) → HasBits (take ((size - first) / 64 + 1) words) t
    → HasBits new (λ n. nat_le n (size - first) && t n))
    → HasFront first size words test → HasPlaces first new (λ n. nat_le n size && test n)
cut_places first size words new test low short count more h = record {
  bits = λ k i lt small.
      more (λ n. test (first + n))
      (taken_bits words ((size - first) / 64 + 1) (λ n. test (first + n)) (omega (arith, short))
      h.bits) k i lt small
      ∙ ap (λ t. bit (t && test (first + (64 * k + i))))
      (same_order (64 * k + i) (size - first) (first + (64 * k + i)) size
      (λ le. omega (arith, le, low)) (λ le. omega (arith, le)));
  before = λ n lt. and_right (nat_le n size) (test n) (h.before n lt);
  after = λ n le. and_left (nat_le n size) (test n) (lt-leb n size (omega (arith, le, count, low)));
}

pub kept_places : (first : ℕ) (words kept : List ℕ) (test list : ℕ → Bool)
    → length kept ≡ length words → HasPlaces first words test
    → HasBits kept (λ n. test (first + n) && list (first + n)) → (size : ℕ)
    → HasFront (first + 1) size kept (moved test list)
kept_places first words kept test list count h bits size = record {
  bits = λ k i lt low.
      let at : suc (first + (64 * k + i)) ≡ first + 1 + (64 * k + i) = omega arith in
      bits k i lt low ∙ ap (λ n. bit (moved test list n)) at;
  before = no_earlier;
  after = λ n le _. no_later n le;
}
  where
    no_earlier : (n : ℕ) → n < first + 1 → moved test list n ≡ false
    no_earlier zero lt = refl
    no_earlier (suc n) lt = and_left (test n) (list n) (h.before n (omega (arith, lt)))

    no_later : (n : ℕ) → first + 1 + 64 * length kept ≤ n → moved test list n ≡ false
    no_later zero le = refl
    no_later (suc n) le = and_left (test n) (list n) (h.after n (omega (arith, le, count)))

none_up_to : (test : ℕ → Bool) (first n : ℕ) → ((m : ℕ) → m < first → test m ≡ false) → n ≤ first
    → any_below test n ≡ false
none_up_to test first zero none le = refl
none_up_to test first (suc n) none le =
    or_from _ _ (none_up_to test first n none (omega (arith, le))) (none n (omega (arith, le)))

shift_up : (test : ℕ → Bool) (first n : ℕ) → ((m : ℕ) → m < first → test m ≡ false)
    → any_up_to (λ m. test (first + m)) n ≡ any_up_to test (first + n)
shift_up test first zero none =
    let here : first ≡ first + 0 = omega arith in
    ap test (sym here)
    ∙ sym (up_to_below test first
    ∙ ap (λ t. t || test first) (none_up_to test first first none (omega arith)))
    ∙ ap (any_up_to test) here
shift_up test first (suc n) none =
    let next : suc (first + n) ≡ first + suc n = omega arith in
    ap (λ t. t || test (first + suc n)) (shift_up test first n none)
    ∙ ap (λ m. any_up_to test (first + n) || test m) (sym next) ∙ ap (any_up_to test) next

pub filled_places : (first size : ℕ) (words longer filled : List ℕ) (test : ℕ → Bool) → first ≤ size
    → length longer ≡ (size - first) / 64 + 1 → length filled ≡ length longer
    → ((k : ℕ) → k < length longer → k < length words → slice_index longer k ≡ slice_index words k)
    → ((k : ℕ) → k < length longer → length words ≤ k → slice_index longer k ≡ 0)
    → ((t : ℕ → Bool) → HasBits longer t → HasBits filled (any_up_to t))
    → HasPlaces first words test → HasFront first size filled (any_up_to test)
filled_places first size words longer filled test low count same keep zeros more h = record {
  bits
      = λ k i lt small. more (λ n. test (first + n)) bits_longer k i lt small
      ∙ ap bit (shift_up test first (64 * k + i) h.before);
  before = λ n lt. up_to_below test n ∙ none_up_to test first (suc n) h.before lt;
  after = λ n le within. absurd (omega (arith, le, within, count, same, low));
}
  where
    bits_longer : HasBits longer (λ n. test (first + n))
    bits_longer k i lt small =
        ⊎_elim
        (λ inside. ap (λ w. bit_at w i) (keep k lt inside) ∙ h.bits k i inside small)
        (λ past. ap (λ w. bit_at w i) (zeros k lt past) ∙ bit_at-zero i
        ∙ ap bit (sym (h.after (first + (64 * k + i)) (omega (arith, past)))))
        (cases_lt k (length words))
