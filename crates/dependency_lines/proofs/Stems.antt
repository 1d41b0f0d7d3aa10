-- What searches of a path say of its last part, and of a name in it.
use Rattle.std.proofs.Common.{◌≡◌, ℕ, suc, ◌+◌, ◌-◌, ◌<◌, ◌≤◌, Bool, true, false, cond, List, []}
use Rattle.std.proofs.Common.{◌∷◌, refl, length, take, drop, get_or, eqb, Some, None, sym, ap, ◌∙◌}
use Rattle.std.proofs.Common.{arith}
use Rattle.std.specs.Prelude.{not}
use Rattle.std.specs.List.{after_last, suffix_len}
use Rattle.std.proofs.lemmas.Bool.{false_from_ne_true, not_from_true, not_from_false}
use Rattle.std.proofs.lemmas.List.{take_all, length-drop}
use Rattle.std.proofs.lemmas.List.Sums.{suffix_len_is}
use Rattle.memchr.specs.Find.{IsFirstByte, IsLastByte, is_byte}
use Rattle.km_names.specs.Path.{underscored}

pub after-place : (a : ℕ) (hay : List ℕ) (n : ℕ) → n ≤ length hay
    → ((k : ℕ) → n ≤ k → k < length hay → eqb (get_or hay k 0) a ≡ false)
    → ((0 < n) → eqb (get_or hay (n - 1) 0) a ≡ true) → drop n hay ≡ after_last (λ b. eqb b a) hay
after-place a hay n l none here =
    let e : suffix_len (λ b. not (eqb b a)) hay ≡ length hay - n
    = suffix_len_is (λ b. not (eqb b a)) hay n 0 l (λ k m o. differs _ (none k m o))
    (λ m. not_from_true _ (here m)) in
    let p : length hay - suffix_len (λ b. not (eqb b a)) hay ≡ n = omega (arith, e) in
    ap (λ m. drop m hay) (sym p)
  where
    differs : (x : Bool) → x ≡ false → not x ≡ true
    differs x e = not_from_false x e

pub after-found : (a : ℕ) (hay : List ℕ) (k : ℕ) → IsLastByte (is_byte a) hay (Some k)
    → take (length hay - (k + 1)) (drop (k + 1) hay) ≡ after_last (λ b. eqb b a) hay
after-found a hay k h =
    let e : drop (k + 1) hay ≡ after_last (λ b. eqb b a) hay
    = after-place a hay (k + 1) (omega (arith, h.0.high))
    (λ j l m. false_from_ne_true _ (h.0.after j l m)) (λ _. rw before h.1) in
    take_all _ (drop (k + 1) hay) (omega (arith, length-drop (k + 1) hay)) ∙ e
  where
    before : k + 1 - 1 ≡ k
    before = omega arith

pub after-none : (a : ℕ) (hay : List ℕ) → IsLastByte (is_byte a) hay None
    → hay ≡ after_last (λ b. eqb b a) hay
after-none a hay h =
    after-place a hay 0 (omega arith) (λ j l m. false_from_ne_true _ (h j l m))
    (λ l. absurd (omega (arith, l)))

plain-at : (text : List ℕ) → ((k : ℕ) → k < length text → eqb (get_or text k 0) 45 ≡ false)
    → underscored text ≡ text
plain-at [] none = refl
plain-at (b ∷ bs) none =
    λ i. cond (none 0 (omega arith) i) 95 b ∷ plain-at bs (λ k l. none (suc k) (omega (arith, l))) i

pub plain-none : (text : List ℕ) → IsFirstByte (is_byte 45) text None → underscored text ≡ text
plain-none text h = plain-at text (λ k l. false_from_ne_true _ (h k (omega arith) l))
