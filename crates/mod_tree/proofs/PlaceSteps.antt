-- The first place of an element in a list that grows at its end.
use Rattle.std.proofs.Common.{◌≡◌, ℕ, ◌+◌, ◌<◌, ◌≤◌, Bool, true, false, cond, ltb, List, [], ◌∷◌}
use Rattle.std.proofs.Common.{◌++◌, length, sym, refl, ap, ◌∙◌, inl, inr, arith, Option, Some, None}
use Rattle.std.specs.Prelude.{not, is_some, unwrap_or, option_copied}
use Rattle.std.specs.Borrow.{Bor}
use Rattle.std.specs.List.{position, position_or_len}
use Rattle.std.specs.Str.{bytes_eq}
use Rattle.std.specs.Ordering.{nat_cmp, eq_by_cmp}
use Rattle.std.specs.Cmp.Lexicographic.{slice_cmp}
use Rattle.std.proofs.lemmas.Bool.{cases_Bool, true≢false, false_from_ne_true, ltb-true, ltb-false}
use Rattle.std.proofs.lemmas.Bool.{lt-ltb, le-ltb}
use Rattle.std.proofs.lemmas.List.{length-append}
use Rattle.std.proofs.lemmas.List.Sums.{prefix_len-le-length}
use Rattle.std.proofs.lemmas.Slice.Eq.{bytes_eq-Decides}
use Rattle.mod_tree.proofs.Ascending.{eq-is}
use Rattle.mod_tree.proofs.Heads.{bytes_total, bytes_same}

module _ {X : Type 0} (p : X → Bool) where
  pos-found : (xs ys : List X) → position_or_len p xs < length xs
      → position_or_len p (xs ++ ys) ≡ position_or_len p xs
  pos-found [] ys l = absurd (omega (arith, l))
  pos-found (x ∷ xs) ys l =
      elim (cases_Bool (p x)) [
        | inl here ↦ rw here refl
        | inr later ↦ let m : position_or_len p xs < length xs
            = omega (arith, rw later at l) in rw (later, pos-found xs ys m) refl
      ]

  pos-end : (xs ys : List X) → position_or_len p xs ≡ length xs
      → position_or_len p (xs ++ ys) ≡ length xs + position_or_len p ys
  pos-end [] ys e = omega arith
  pos-end (x ∷ xs) ys e =
      elim (cases_Bool (p x)) [
        | inl here ↦ absurd (omega (arith, rw here at e))
        | inr later ↦ let m : position_or_len p xs ≡ length xs
            = omega (arith, rw later at e) in rw (later, pos-end xs ys m) (omega arith)
      ]

  at-end : (xs : List X) → position p xs ≡ None → position_or_len p xs ≡ length xs
  at-end xs e =
      elim (cases_Bool (ltb (position_or_len p xs) (length xs))) [
        | inl l ↦ let f : Some (position_or_len p xs) ≡ None
            = sym (ap (λ b. cond b (Some (position_or_len p xs)) None) l) ∙ e in cc
        | inr h ↦ omega (
          arith,
          ltb-false (position_or_len p xs) (length xs) h,
          prefix_len-le-length (λ x. not (p x)) xs,
        )
      ]

  at-place : (xs : List X) (k : ℕ) → position p xs ≡ Some k
      → (position_or_len p xs ≡ k) × (position_or_len p xs < length xs)
  at-place xs k e =
      elim (cases_Bool (ltb (position_or_len p xs) (length xs))) [
        | inl l ↦ let f : Some (position_or_len p xs) ≡ Some k
            = sym (ap (λ b. cond b (Some (position_or_len p xs)) None) l)
            ∙ e in (cc, ltb-true (position_or_len p xs) (length xs) l)
        | inr h ↦ let f : None ≡ Some k
            = sym (ap (λ b. cond b (Some (position_or_len p xs)) None) h) ∙ e in cc
      ]

  position-at : (xs : List X) (k : ℕ) → position_or_len p xs ≡ k → k < length xs
      → position p xs ≡ Some k
  position-at xs k e l
      = let t : ltb (position_or_len p xs) (length xs) ≡ true
      = lt-ltb (position_or_len p xs) (length xs) (omega (arith, e)) in ap
      (λ b. cond b (Some (position_or_len p xs)) None) t
      ∙ ap Some e

  position-none : (xs : List X) → length xs ≤ position_or_len p xs → position p xs ≡ None
  position-none xs l
      = ap (λ b. cond b (Some (position_or_len p xs)) None)
      (le-ltb (position_or_len p xs) (length xs) l)

  pub position-kept : (xs : List X) (x : X) (k : ℕ) → position p xs ≡ Some k
      → position p (xs ++ x ∷ []) ≡ Some k
  position-kept xs x k e =
      let a = at-place xs k e in
      position-at (xs ++ x ∷ []) k (pos-found xs (x ∷ []) a.1 ∙ a.0)
      (omega (arith, a.0, a.1, length-append xs (x ∷ [])))

  pub position-new : (xs : List X) (x : X) → position p xs ≡ None → p x ≡ true
      → position p (xs ++ x ∷ []) ≡ Some (length xs)
  position-new xs x e here =
      let z : position_or_len p (x ∷ []) ≡ 0 = rw here refl in
      position-at (xs ++ x ∷ []) (length xs) (pos-end xs (x ∷ []) (at-end xs e) ∙ omega (arith, z))
      (omega (arith, length-append xs (x ∷ [])))

  pub position-still : (xs : List X) (x : X) → position p xs ≡ None → p x ≡ false
      → position p (xs ++ x ∷ []) ≡ None
  position-still xs x e other =
      let z : position_or_len p (x ∷ []) ≡ 1 + 0 = rw other refl in
      position-none (xs ++ x ∷ [])
      (omega (arith, pos-end xs (x ∷ []) (at-end xs e), z, length-append xs (x ∷ [])))

  pub place-or-count : (xs : List X) (o : Option ℕ) (n : ℕ) → o ≡ position p xs → n ≡ length xs
      → unwrap_or o n ≡ position_or_len p xs
  place-or-count xs None n e l = l ∙ sym (at-end xs (sym e))
  place-or-count xs (Some k) n e l = sym (at-place xs k (sym e)).0

tie-is : (x y : List ℕ) (v : Bool) → bytes_eq x y ≡ v → eq_by_cmp (slice_cmp nat_cmp) y x ≡ v
tie-is x y true e =
    eq-is bytes_total bytes_same y x ∙ (bytes_eq-Decides y x).1 (sym ((bytes_eq-Decides x y).0 e))
tie-is x y false e =
    eq-is bytes_total bytes_same y x
    ∙ false_from_ne_true (bytes_eq y x)
    (λ is. true≢false
    (sym ((bytes_eq-Decides x y).1 (sym ((bytes_eq-Decides y x).0 is))) ∙ e))

-- what a look-up gives after an element was put in that wasn't there
pub added : (items : List (List ℕ)) (item q : List ℕ) (before after mine : Option ℕ) (n : ℕ)
    → n ≡ length items → before ≡ position (bytes_eq q) items
    → mine ≡ position (bytes_eq item) items → mine ≡ None
    → after ≡ cond (eq_by_cmp (slice_cmp nat_cmp) item q) (Some n) before
    → after ≡ position (bytes_eq q) (items ++ item ∷ [])
added items item q before after mine n count old here none new =
    elim (cases_Bool (bytes_eq q item)) [
      | inl is ↦
          let e : q ≡ item = (bytes_eq-Decides q item).0 is in
          let gone : position (bytes_eq q) items ≡ None
          = ap (λ x. position (bytes_eq x) items) e ∙ sym here ∙ none in
          new ∙ ap (λ b. cond b (Some n) before) (tie-is q item true is) ∙ ap Some count
          ∙ sym (position-new (bytes_eq q) items item gone is)
      | inr other ↦ new ∙ ap (λ b. cond b (Some n) before) (tie-is q item false other)
          ∙ go before old other
    ]
  where
    go : (o : Option ℕ) → o ≡ position (bytes_eq q) items → bytes_eq q item ≡ false
        → o ≡ position (bytes_eq q) (items ++ item ∷ [])
    go None e other = sym (position-still (bytes_eq q) items item (sym e) other)
    go (Some k) e other = sym (position-kept (bytes_eq q) items item k (sym e))

-- and after one that was there already
pub repeated : (items : List (List ℕ)) (item q : List ℕ) (before mine : Option ℕ)
    → before ≡ position (bytes_eq q) items → mine ≡ position (bytes_eq item) items
    → is_some mine ≡ true → before ≡ position (bytes_eq q) (items ++ item ∷ [])
repeated items item q None mine old here some =
    elim (cases_Bool (bytes_eq q item)) [
      | inl is ↦
          let e : q ≡ item = (bytes_eq-Decides q item).0 is in
          absurd (true≢false
          (sym some
          ∙ ap is_some (here ∙ ap (λ x. position (bytes_eq x) items) (sym e) ∙ sym old)))
      | inr other ↦ sym (position-still (bytes_eq q) items item (sym old) other)
    ]
repeated items item q (Some k) mine old here some =
    sym (position-kept (bytes_eq q) items item k (sym old))

pub copied-none : (r : Option (Bor ℕ)) → is_some r ≡ false → option_copied r ≡ None
copied-none None e = refl
copied-none (Some x) e = absurd (true≢false e)

pub copied-some : (r : Option (Bor ℕ)) → is_some r ≡ true → is_some (option_copied r) ≡ true
copied-some None e = absurd (true≢false (sym e))
copied-some (Some x) e = refl
