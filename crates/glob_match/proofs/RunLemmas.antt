-- Runs of `*`, and of items of a set, in a file.
use Rattle.std.proofs.Common.{◌≡◌, ◌≢◌, refl, sym, ap, subst, ◌∙◌, ⊎_elim, ℕ, zero, suc, ◌+◌, ◌-◌}
use Rattle.std.proofs.Common.{◌<◌, ◌≤◌, ◌==◌, ◌||◌, Bool, true, false, List, [], ◌∷◌, ◌++◌, length}
use Rattle.std.proofs.Common.{take, drop, slice_index, slice_get, Option, Some, None, append_assoc}
use Rattle.std.proofs.Common.{arith}
use Rattle.std.specs.Int.{bit_at}
use Rattle.std.specs.List.{AllByRecursion}
use Rattle.std.specs.Option.{option_map_or}
use Rattle.std.proofs.lemmas.Bool.{cases_eq}
use Rattle.std.proofs.lemmas.Nat.Bits.{bit_at-zero}
use Rattle.std.proofs.lemmas.List.{drop-drop, get_or-drop, get_or-take, get_or-replicate}
use Rattle.std.proofs.lemmas.List.{length-drop, length-take, drop_more}
use Rattle.std.proofs.Math.Seq.{take-add}
use Rattle.glob_pattern.specs.Pattern.{star, closing, dash}
use Rattle.glob_pattern.specs.Parts.{is_listed}
use Rattle.glob_match.specs.Words.{HasBits, is_between}
use Rattle.glob_match.specs.Runs.{IsRun, AreItems, GoOn}
use Rattle.glob_match.specs.declared.set_items.Items.{Items}
use Rattle.glob_match.proofs.ReadLemmas.{listed_low, same_between}

-- One byte of the file.
pub one_byte : (b : List ℕ) (from : ℕ) → from < length b
    → take (from + 1 - from) (drop from b) ≡ slice_index b from ∷ []
one_byte b from lt =
    let one : from + 1 - from ≡ 1 = omega arith in
    λ i. take (one i) (drop_more b from 0 lt i)

module _ (b : List ℕ) (from end : ℕ) (within : end ≤ length b) (first : slice_index b from ≡ star)
    (run : IsRun b (from + 1) end) where
  pub length-run : length (take (end - from) (drop from b)) ≡ end - from
  length-run =
      let order = run.order in
      omega (arith, length-take (end - from) (drop from b), length-drop from b, within, order)

  -- All bytes of the run are stars.
  pub run_stars : (k : ℕ) → k < length (take (end - from) (drop from b))
      → slice_index (take (end - from) (drop from b)) k ≡ star
  run_stars k lt =
      let inside : k < end - from = omega (arith, lt, length-run) in
      get_or-take (end - from) (drop from b) k 0 inside ∙ get_or-drop from b k 0 ∙ is_star k inside
    where
      is_star : (k : ℕ) → k < end - from → slice_index b (from + k) ≡ star
      is_star zero lt
          = let same : from ≡ from + 0
          = omega arith in subst (λ k. slice_index b k ≡ star) same first
      is_star (suc k) lt = run.stars (from + suc k) (omega arith) (omega (arith, lt))

-- Two parts of the file, one after the other.
pub part_more : (b : List ℕ) (start at next : ℕ) → start ≤ at → at ≤ next
    → take (next - start) (drop start b)
    ≡ take (at - start) (drop start b) ++ take (next - at) (drop at b)
part_more b start at next low high =
    let size : next - start ≡ (at - start) + (next - at) = omega (arith, low, high) in
    let there : start + (at - start) ≡ at = omega (arith, low) in
    ap (λ n. take n (drop start b)) size
    ∙ take-add (at - start) (next - at) (drop start b)
    ∙ ap (λ bs. take (at - start) (drop start b) ++ take (next - at) bs)
    (drop-drop (at - start) start b ∙ ap (λ n. drop n b) there)

pub take_first : (b : List ℕ) (at next n : ℕ) → next ≡ at + 1 → at < length b
    → take (suc n) (drop at b) ≡ slice_index b at ∷ take n (drop next b)
take_first b at next n is lt =
    ap (take (suc n)) (drop_more b at 0 lt)
    ∙ ap (λ m. slice_index b at ∷ take n (drop m b)) (sym is)

-- ---- what items list

abbrev pub Lists : List ℕ → ℕ → ℕ → (ℕ → Bool) → Type 0
Lists b start end test =
    (rest : List ℕ) (x : ℕ)
    → is_listed (take (end - start) (drop start b) ++ slice_index b end ∷ rest) x
    ≡ (test x || is_listed (slice_index b end ∷ rest) x)

begins_with : (b : List ℕ) (start end : ℕ) (rest : List ℕ) → start ≤ end → start < length b
    → slice_index (take (end - start) (drop start b) ++ slice_index b end ∷ rest) 0
    ≡ slice_index b start
begins_with b start end rest order lt =
    ⊎_elim
    (λ same.
    let none : end - start ≡ 0 = omega (arith, same) in
    ap (λ n. slice_index (take n (drop start b) ++ slice_index b end ∷ rest) 0) none
    ∙ ap (slice_index b) (sym same))
    (λ other.
    let size : end - start ≡ suc (end - start - 1) = omega (arith, order, other) in
    ap (λ n. slice_index (take n (drop start b) ++ slice_index b end ∷ rest) 0) size
    ∙ ap (λ bs. slice_index (bs ++ slice_index b end ∷ rest) 0)
    (take_first b start (start + 1) (end - start - 1) refl lt))
    (cases_eq start end)

pub low_first : (low : ℕ) (items : List ℕ) (x : ℕ) → slice_index items 0 ≢ dash
    → is_listed (low ∷ items) x ≡ ((x == low) || is_listed items x)
low_first low [] x other = refl
low_first low (byte ∷ rest) x other = listed_low low byte rest x other

swapped : (a t c : Bool) → (a || (t || c)) ≡ ((t || a) || c)
swapped true true c = refl
swapped true false c = refl
swapped false true c = refl
swapped false false c = refl

dash_is_inside : (b : ℕ) → b ≡ dash → b ≢ closing
dash_is_inside b is same = let e : dash ≡ closing = sym is ∙ same in absurd (omega (arith, e))

module _ (b : List ℕ) (at : ℕ) (next : Items) (is : AreItems b next) (new : Items)
    (starts : new.start ≡ at) (ends : new.end ≡ next.end) (words : length new.listed ≡ 4) where
  -- One byte before other items.
  pub byte_before : next.start ≡ at + 1 → at + 1 < length b → slice_index b (at + 1) ≢ dash
      → slice_index b (at + 1) ≢ closing
      → ((test : ℕ → Bool) → HasBits next.listed test
      → HasBits new.listed
      (λ x. test x || is_between (slice_index b at) (slice_index b at) x))
      → AreItems b new
  byte_before begin within other more bits = record {
    order = omega (arith, starts, ends, begin, order);
    inside = λ k from to.
        ⊎_elim
        (λ same. subst (λ n. slice_index b n ≢ closing) (sym same) more)
        (λ past. is.inside k (omega (arith, from, past, starts, begin)) (omega (arith, to, ends)))
        (cases_eq k (at + 1));
    test = λ x. is.test x || is_between low low x;
    words = words;
    bits = bits is.test is.bits;
    lists
        = subst (λ s. Lists b s new.end whole) (sym starts)
        (subst (λ e. Lists b at e whole) (sym ends) core);
  }
    where
      low : ℕ
      low = slice_index b at

      whole : ℕ → Bool
      whole x = is.test x || is_between low low x

      order : next.start ≤ next.end
      order = is.order

      core : Lists b at next.end whole
      core rest x =
          let tail = take (next.end - (at + 1)) (drop (at + 1) b) in
          let last = slice_index b next.end in
          let size : next.end - at ≡ suc (next.end - (at + 1)) = omega (arith, order, begin) in
          let after : at + 1 ≤ next.end = omega (arith, order, begin) in
          let first : take (next.end - at) (drop at b) ≡ low ∷ tail
          = ap (λ n. take n (drop at b)) size
          ∙ take_first b at (at + 1) (next.end - (at + 1)) refl (omega (arith, within)) in
          ap (λ bs. is_listed (bs ++ last ∷ rest) x) first
          ∙ low_first low (tail ++ last ∷ rest) x
          (λ e. other (sym (begins_with b (at + 1) next.end rest after within) ∙ e))
          ∙ ap (λ t. (x == low) || t)
          (subst (λ s. Lists b s next.end is.test) begin is.lists rest x)
          ∙ swapped (x == low) (is.test x) (is_listed (last ∷ rest) x)
          ∙ ap (λ t. (is.test x || t) || is_listed (last ∷ rest) x) (sym (same_between low x))

  -- A range before other items.
  pub range_before : next.start ≡ at + 3 → at + 3 < length b → slice_index b (at + 1) ≡ dash
      → slice_index b (at + 2) ≢ closing → slice_index b (at + 3) ≢ closing
      → ((test : ℕ → Bool) → HasBits next.listed test
      → HasBits new.listed
      (λ x. test x || is_between (slice_index b at) (slice_index b (at + 2)) x))
      → AreItems b new
  range_before begin within middle high_inside more bits = record {
    order = omega (arith, starts, ends, begin, order);
    inside = λ k from to.
        ⊎_elim
        (λ one. subst (λ n. slice_index b n ≢ closing) (sym one)
        (dash_is_inside (slice_index b (at + 1)) middle))
        (λ not_one.
        ⊎_elim
        (λ two. subst (λ n. slice_index b n ≢ closing) (sym two) high_inside)
        (λ not_two.
        ⊎_elim
        (λ three. subst (λ n. slice_index b n ≢ closing) (sym three) more)
        (λ past. is.inside k (omega (arith, from, past, not_one, not_two, starts, begin))
        (omega (arith, to, ends)))
        (cases_eq k (at + 3)))
        (cases_eq k (at + 2)))
        (cases_eq k (at + 1));
    test = whole;
    words = words;
    bits = bits is.test is.bits;
    lists
        = subst (λ s. Lists b s new.end whole) (sym starts)
        (subst (λ e. Lists b at e whole) (sym ends) core);
  }
    where
      low : ℕ
      low = slice_index b at

      high : ℕ
      high = slice_index b (at + 2)

      whole : ℕ → Bool
      whole x = is.test x || is_between low high x

      order : next.start ≤ next.end
      order = is.order

      core : Lists b at next.end whole
      core rest x =
          let tail = take (next.end - (at + 3)) (drop (at + 3) b) in
          let last = slice_index b next.end in
          let size : next.end - at ≡ suc (suc (suc (next.end - (at + 3))))
          = omega (arith, order, begin) in
          let two : at + 2 ≡ at + 1 + 1 = omega arith in
          let three : at + 3 ≡ at + 2 + 1 = omega arith in
          let first : take (next.end - at) (drop at b) ≡ low ∷ slice_index b (at + 1) ∷ high ∷ tail
          =
          ap (λ n. take n (drop at b)) size
          ∙ take_first b at (at + 1) (suc (suc (next.end - (at + 3)))) refl (omega (arith, within))
          ∙ ap (λ bs. low ∷ bs)
          (take_first b (at + 1) (at + 2) (suc (next.end - (at + 3))) two
          (omega (arith, within)))
          ∙ ap (λ bs. low ∷ slice_index b (at + 1) ∷ bs)
          (take_first b (at + 2) (at + 3) (next.end - (at + 3)) three (omega (arith, within)))
          in
          ap (λ bs. is_listed (bs ++ last ∷ rest) x) first
          ∙ ap (λ m. is_listed (low ∷ m ∷ high ∷ (tail ++ last ∷ rest)) x) middle
          ∙ ap (λ t. is_between low high x || t)
          (subst (λ s. Lists b s next.end is.test) begin is.lists rest x)
          ∙ swapped (is_between low high x) (is.test x) (is_listed (last ∷ rest) x)

pub no_items : (b : List ℕ) (at : ℕ)
    → AreItems b (record { start = at; end = at; listed = 0 ∷ 0 ∷ 0 ∷ 0 ∷ [] })
no_items b at = record {
  order = omega arith;
  inside = λ k from to. absurd (omega (arith, from, to));
  test = λ x. false;
  words = refl;
  bits = λ k j lt low. ap (λ w. bit_at w j) (get_or-replicate 4 k 0 0 lt) ∙ bit_at-zero j;
  lists
      = λ rest x. let none : at - at ≡ 0
      = omega arith in ap (λ n. is_listed (take n (drop at b) ++ slice_index b at ∷ rest) x) none;
}

-- ---- items that go on

module _ (b : List ℕ) (from to low : ℕ) (i : Items) (within : to ≤ length b)
    (on : GoOn b from to low i) where
  run : List ℕ
  run = take (i.end + 1 - from) (drop from b)

  all_items : low ∷ run ≡ take (i.end - i.start) (drop i.start b) ++ slice_index b i.end ∷ []
  unfolding run
  all_items =
      let start = on.start in
      let some = on.some in
      let high = on.high in
      let size : i.end + 1 - i.start ≡ suc (i.end + 1 - from) = omega (arith, start, some) in
      let order : i.start ≤ i.end = omega (arith, start, some) in
      ap (λ x. x ∷ take (i.end + 1 - from) (drop from b)) (sym on.begin)
      ∙ sym (ap (λ n. take n (drop i.start b)) size
      ∙ take_first b i.start from (i.end + 1 - from) (sym start)
      (omega (arith, order, high, within)))
      ∙ part_more b i.start i.end (i.end + 1) order (omega arith)
      ∙ ap (λ bs. take (i.end - i.start) (drop i.start b) ++ bs)
      (one_byte b i.end (omega (arith, high, within)))

  pub go_on : (rest : List ℕ) (x : ℕ)
      → is_listed (low ∷ take (i.end + 1 - from) (drop from b) ++ rest) x
      ≡ (on.items.test x || is_listed (slice_index b i.end ∷ rest) x)
  unfolding run
  go_on rest x =
      ap (λ bs. is_listed (bs ++ rest) x) all_items
      ∙ ap (λ bs. is_listed bs x)
      (append_assoc (take (i.end - i.start) (drop i.start b)) (slice_index b i.end ∷ []) rest)
      ∙ on.items.lists rest x

  pub stays_open : (k : ℕ) → k < length (take (i.end + 1 - from) (drop from b))
      → slice_index (take (i.end + 1 - from) (drop from b)) k ≢ closing
  stays_open k lt =
      let start = on.start in
      let size : k < i.end + 1 - from
      = omega (arith, lt, length-take (i.end + 1 - from) (drop from b)) in
      let at : slice_index (take (i.end + 1 - from) (drop from b)) k ≡ slice_index b (from + k)
      = get_or-take (i.end + 1 - from) (drop from b) k 0 size ∙ get_or-drop from b k 0 in
      λ e. on.items.inside (from + k) (omega (arith, start)) (omega (arith, size)) (sym at ∙ e)

-- ---- the items that are kept

pub all_more : {X : Type 0} (P : X → Type 0) (xs : List X) (x : X) → AllByRecursion P xs → P x
    → AllByRecursion P (xs ++ x ∷ [])
all_more P [] x h p = (p, tt)
all_more P (y ∷ ys) x h p = (h.0, all_more P ys x h.1 p)

none_there : (x : Items) → ◌≡◌ {A = Option Items} None (Some x) → ⊥
none_there x e =
    subst (λ (o : Option Items). elim o as (λ _. Type 0) [ None ↦ Unit {0} | Some _ ↦ ⊥ ]) e tt

pub all_at : (P : Items → Type 0) (xs : List Items) (n : ℕ) (x : Items) → slice_get xs n ≡ Some x
    → AllByRecursion P xs → P x
all_at P [] n x at all = absurd (none_there x at)
all_at P (y ∷ ys) zero x at all =
    let same : y ≡ x = ap (λ o. option_map_or (λ (z : Items). z) o y) at in subst P same all.0
all_at P (y ∷ ys) (suc n) x at all = all_at P ys n x at all.1
