-- What a search for a byte says of the parts of a text before and after it.
use Rattle.std.proofs.Common.{◌≡◌, ℕ, ◌+◌, ◌-◌, ◌<◌, ◌≤◌, Bool, true, false, List, [], length, take}
use Rattle.std.proofs.Common.{drop, get_or, eqb, Some, None, sym, ap, ◌∙◌, arith}
use Rattle.std.specs.Prelude.{not}
use Rattle.std.specs.List.{before_first, after_first, after_last, suffix_len, position_or_len}
use Rattle.std.proofs.lemmas.Bool.{false_from_ne_true, not_from_true, not_from_false}
use Rattle.std.proofs.lemmas.List.{take_all, drop_all, length-drop}
use Rattle.std.proofs.lemmas.List.Sums.{position_or_len_is, suffix_len_is}
use Rattle.memchr.specs.Find.{IsFirstByte, IsLastByte, is_byte}
use Rattle.km_names.specs.Path.{without_end_slashes}

pub before_first-found : (a : ℕ) (hay : List ℕ) (k : ℕ) → IsFirstByte (is_byte a) hay (Some k)
    → take k hay ≡ before_first (λ b. eqb b a) hay
before_first-found a hay k h =
    let e : position_or_len (λ b. eqb b a) hay ≡ k
    = position_or_len_is (λ b. eqb b a) hay k 0 (omega (arith, h.0.high))
    (λ j l. false_from_ne_true _ (h.0.before j (omega arith) l)) (λ _. h.1) in
    ap (λ n. take n hay) (sym e)

pub before_first-none : (a : ℕ) (hay : List ℕ) → IsFirstByte (is_byte a) hay None
    → hay ≡ before_first (λ b. eqb b a) hay
before_first-none a hay h =
    let e : position_or_len (λ b. eqb b a) hay ≡ length hay
    = position_or_len_is (λ b. eqb b a) hay (length hay) 0 (omega arith)
    (λ j l. false_from_ne_true _ (h j (omega arith) l)) (λ l. absurd (omega (arith, l))) in
    sym (ap (λ n. take n hay) e ∙ take_all _ hay (omega arith))

after_last_at : (a : ℕ) (hay : List ℕ) (n : ℕ) → n ≤ length hay
    → ((k : ℕ) → n ≤ k → k < length hay → eqb (get_or hay k 0) a ≡ false)
    → ((0 < n) → eqb (get_or hay (n - 1) 0) a ≡ true) → drop n hay ≡ after_last (λ b. eqb b a) hay
after_last_at a hay n l none here =
    let e : suffix_len (λ b. not (eqb b a)) hay ≡ length hay - n
    = suffix_len_is (λ b. not (eqb b a)) hay n 0 l (λ k m o. not_from_false' _ (none k m o))
    (λ m. not_from_true _ (here m)) in
    let p : length hay - suffix_len (λ b. not (eqb b a)) hay ≡ n = omega (arith, e) in
    ap (λ m. drop m hay) (sym p)
  where
    not_from_false' : (x : Bool) → x ≡ false → not x ≡ true
    not_from_false' x e = not_from_false x e

pub after_last-found : (a : ℕ) (hay : List ℕ) (k : ℕ) → IsLastByte (is_byte a) hay (Some k)
    → take (length hay - (k + 1)) (drop (k + 1) hay) ≡ after_last (λ b. eqb b a) hay
after_last-found a hay k h =
    let e : drop (k + 1) hay ≡ after_last (λ b. eqb b a) hay
    = after_last_at a hay (k + 1) (omega (arith, h.0.high))
    (λ j l m. false_from_ne_true _ (h.0.after j l m)) (λ _. rw sub_one' h.1) in
    take_all _ (drop (k + 1) hay) (omega (arith, length-drop (k + 1) hay)) ∙ e
  where
    sub_one' : k + 1 - 1 ≡ k
    sub_one' = omega arith

pub after_last-none : (a : ℕ) (hay : List ℕ) → IsLastByte (is_byte a) hay None
    → hay ≡ after_last (λ b. eqb b a) hay
after_last-none a hay h =
    after_last_at a hay 0 (omega arith) (λ j l m. false_from_ne_true _ (h j l m))
    (λ l. absurd (omega (arith, l)))

pub without_end_at : (path : List ℕ) (n : ℕ) → n ≤ length path
    → ((k : ℕ) → n ≤ k → k < length path → eqb (get_or path k 0) 47 ≡ true)
    → ((0 < n) → eqb (get_or path (n - 1) 0) 47 ≡ false) → take n path ≡ without_end_slashes path
without_end_at path n l slashes here =
    let e : suffix_len (λ b. eqb b 47) path ≡ length path - n
    = suffix_len_is (λ b. eqb b 47) path n 0 l slashes here in
    let p : length path - suffix_len (λ b. eqb b 47) path ≡ n = omega (arith, e) in
    ap (λ m. take m path) (sym p)

pub after_first-found : (a : ℕ) (hay : List ℕ) (k : ℕ) → IsFirstByte (is_byte a) hay (Some k)
    → drop (k + 1) hay ≡ after_first (λ b. eqb b a) hay
after_first-found a hay k h =
    let e : position_or_len (λ b. eqb b a) hay ≡ k
    = position_or_len_is (λ b. eqb b a) hay k 0 (omega (arith, h.0.high))
    (λ j l. false_from_ne_true _ (h.0.before j (omega arith) l)) (λ _. h.1) in
    ap (λ n. drop (n + 1) hay) (sym e)

pub after_first-none : (a : ℕ) (hay : List ℕ) → IsFirstByte (is_byte a) hay None
    → [] ≡ after_first (λ b. eqb b a) hay
after_first-none a hay h =
    let e : position_or_len (λ b. eqb b a) hay ≡ length hay
    = position_or_len_is (λ b. eqb b a) hay (length hay) 0 (omega arith)
    (λ j l. false_from_ne_true _ (h j (omega arith) l)) (λ l. absurd (omega (arith, l))) in
    sym (drop_all (position_or_len (λ b. eqb b a) hay + 1) hay (omega (arith, e)))
