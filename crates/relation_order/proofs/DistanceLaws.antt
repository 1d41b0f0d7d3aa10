-- The distance of a member is the length of the shortest walk.
use Rattle.std.proofs.Common.{◌≡◌, ℕ, zero, suc, ◌+◌, ◌<◌, ◌≤◌, Bool, true, false, cond, eqb, List}
use Rattle.std.proofs.Common.{[], length, sym, refl, ap, ◌∙◌, subst, inl, inr, arith}
use Rattle.std.specs.Prelude.{not, ◌⊎◌}
use Rattle.std.specs.List.{list_any, range_with_len, position_or_len}
use Rattle.std.proofs.lemmas.Bool.{true≢false, or_cases, or_left, or_right, eqb-true, eq-eqb}
use Rattle.std.proofs.lemmas.Bool.{cases_eq, cases_lt}
use Rattle.relation_order.specs.Sets.{Relation, has}
use Rattle.relation_order.specs.Walks.{Walk, step, further, steps_of}
use Rattle.relation_order.specs.Cycle.{is_near, near, distance}
use Rattle.relation_order.specs.Distances.{IsDistance, none, shortest, endless}
use Rattle.relation_order.proofs.Saturation.{kept, keeps, ended, only}
use Rattle.relation_order.proofs.ReachedLaws.{passing, any-from_has}
use Rattle.relation_order.proofs.Nearness.{near-grows}

-- a number passes, and none before it in a run
pub record IsFirst (p : ℕ → Bool) (a n k : ℕ) : Type 0 where
  pub inside : k < n
  pub passes : p (a + k) ≡ true
  pub before : (j : ℕ) → j < k → p (a + j) ≡ false

-- no number of a run passes
pub record IsNone (p : ℕ → Bool) (a n k : ℕ) : Type 0 where
  pub long : k ≡ n
  pub fails : (j : ℕ) → j < n → p (a + j) ≡ false

-- the place of the first number in a run that passes a test
first-in : (p : ℕ → Bool) (a n : ℕ)
    → IsFirst p a n (position_or_len p (range_with_len a n))
    ⊎ IsNone p a n (position_or_len p (range_with_len a n))
first-in p a zero = inr (record { long = refl; fails = λ j l. absurd (omega arith) })
first-in p a (suc n) =
    go (p a) refl (position_or_len p (range_with_len (a + 1) n)) (first-in p (a + 1) n)
  where
    same : (i j : ℕ) (v : Bool) → i ≡ j → p j ≡ v → p i ≡ v
    same i j v e h = ap p e ∙ h

    before : (k : ℕ) → p a ≡ false → ((j : ℕ) → j < k → p (a + 1 + j) ≡ false) → (j : ℕ) → j < 1 + k
        → p (a + j) ≡ false
    before k e all zero l = same (a + 0) a false (omega arith) e
    before k e all (suc j) l
        = same (a + suc j) (a + 1 + j) false (omega arith) (all j (omega arith))

    go : (b : Bool) → p a ≡ b → (k : ℕ) → IsFirst p (a + 1) n k ⊎ IsNone p (a + 1) n k
        → IsFirst p a (suc n) (cond (not b) (1 + k) 0) ⊎ IsNone p a (suc n) (cond (not b) (1 + k) 0)
    go true e k ih
        = inl (record {
          inside = omega arith;
          passes = same (a + 0) a true (omega arith) e;
          before = λ j l. absurd (omega arith);
        })
    go false e k (inl f)
        = inl (record {
          inside = omega arith;
          passes = same (a + (1 + k)) (a + 1 + k) true (omega arith) f.passes;
          before = before k e f.before;
        })
    go false e k (inr f)
        = inr (record { long = omega arith; fails = λ j l. before n e f.fails j (omega arith) })

module _ (r : Relation) (set : List ℕ) (goal : ℕ) where
  abbrev at : ℕ → ℕ → Bool
  at k x = has (near r set goal k) x

  -- a walk ends in the set
  walk-end : (x y : ℕ) → Walk r set x y → has set y ≡ true
  walk-end x y (step e h) = h
  walk-end x y (further w e h) = h

  -- one step more at the front of a walk
  longer : (x y z : ℕ) → r x y ≡ true → has set y ≡ true → (w : Walk r set y z)
      → (v : Walk r set x z) × (steps_of v ≡ suc (steps_of w))
  longer x y z e h (step f m) = (further (step e h) f m, refl)
  longer x y z e h (further {x = u} w f m)
      = let v
      = longer x y u e h w in (further v.0 f m, ap suc v.1)

  -- one step alone
  last : (x y : ℕ) → y ≡ goal → r x y ≡ true → has set y ≡ true
      → (w : Walk r set x goal) × (steps_of w ≡ 1)
  last x y e f h = (step (subst (λ z. r x z ≡ true) e f) (subst (λ z. has set z ≡ true) e h), refl)

  -- from what is near a walk of a few steps leads to the goal
  near-walk : (k x : ℕ) → at (suc k) x ≡ true
      → (x ≡ goal) ⊎ ((w : Walk r set x goal) × (steps_of w ≤ k))
  near-walk zero x h =
      elim (or_cases (eqb x goal) false (kept (is_near r goal (near r set goal 0)) set x h).0) [
        | inl s ↦ inl (eqb-true x goal s)
        | inr m ↦ absurd (true≢false (sym m))
      ]
  near-walk (suc j) x h =
      elim (or_cases (eqb x goal) (list_any (λ y. r x y) (near r set goal (suc j)))
      (kept (is_near r goal (near r set goal (suc j))) set x h).0) [
        | inl s ↦ inl (eqb-true x goal s)
        | inr m ↦
            let y = passing (λ y. r x y) (near r set goal (suc j)) m in
            let member = (kept (is_near r goal (near r set goal j)) set y.0 y.1).1 in
            elim (near-walk j y.0 y.1) [
              | inl e ↦ let w = last x y.0 e y.2 member in inr (w.0, omega (arith, w.1))
              | inr v ↦ let w
                  = longer x y.0 goal y.2 member v.0 in inr (w.0, omega (arith, w.1, v.1))
            ]
      ]

  -- what goes to what is near is near
  step-near : (x z j : ℕ) → has set x ≡ true → r x z ≡ true → at (suc j) z ≡ true
      → at (suc (suc j)) x ≡ true
  step-near x z j m e n
      = keeps (is_near r goal (near r set goal (suc j))) set x
      (or_right _ _ (any-from_has (λ y. r x y) (near r set goal (suc j)) z n e)) m

  -- and what walks to it
  walk-through : (x z j : ℕ) → has set x ≡ true → (w : Walk r set x z) → at (suc j) z ≡ true
      → at (suc (steps_of w + j)) x ≡ true
  walk-through x z j m (step e h) n =
      let two : suc (suc j) ≡ suc (1 + j) = omega arith in
      subst (λ k. at k x ≡ true) two (step-near x z j m e n)
  walk-through x z j m (further {x = y} w e h) n =
      let all : suc (steps_of w + suc j) ≡ suc (suc (steps_of w) + j) = omega arith in
      subst (λ k. at k x ≡ true) all
      (walk-through x y (suc j) m w (step-near y z j (walk-end x y w) e n))

  walk-near : (x : ℕ) → has set x ≡ true → (w : Walk r set x goal) → at (suc (steps_of w)) x ≡ true
  walk-near x m w =
      let first : at 1 goal ≡ true
      = keeps (is_near r goal []) set goal (or_left _ _ (eq-eqb goal goal refl))
      (walk-end x goal w) in
      let all : suc (steps_of w + 0) ≡ suc (steps_of w) = omega arith in
      subst (λ k. at k x ≡ true) all (walk-through x goal 0 m w first)

  -- what is near after any number of rounds is so after as many as there are members
  near-ended : (k x : ℕ) → at k x ≡ true → at (length set) x ≡ true
  near-ended k x h
      = only (is_near r goal) (near-grows r goal) set (λ y. at (length set) y ≡ true) closed k x h
    where
      closed : (xs : List ℕ) → ((y : ℕ) → has xs y ≡ true → at (length set) y ≡ true) → (y : ℕ)
          → has set y ≡ true → is_near r goal xs y ≡ true → at (length set) y ≡ true
      closed xs all y s t =
          subst (λ ys. has ys y ≡ true) (ended (is_near r goal) (near-grows r goal) set)
          (keeps (is_near r goal (near r set goal (length set))) set y
          (near-grows r goal xs (near r set goal (length set)) all y t) s)

  module _ (x : ℕ) (member : has set x ≡ true) where
    abbrev passes : ℕ → Bool
    passes k = at (suc k) x

    zero-plus : (k : ℕ) (v : Bool) → passes (0 + k) ≡ v → passes k ≡ v
    zero-plus k v h = let z : k ≡ 0 + k = omega arith in ap passes z ∙ h

    -- no walk is shorter than the first round that finds the item
    no-shorter : (d : ℕ) → ((j : ℕ) → j < d → passes (0 + j) ≡ false) → (w : Walk r set x goal)
        → d ≤ steps_of w
    no-shorter d before w =
        elim (cases_lt (steps_of w) d) [
          | inl l ↦ absurd
              (true≢false (sym (walk-near x member w)
              ∙ zero-plus (steps_of w) false (before (steps_of w) l)))
          | inr h ↦ h
        ]

    found : (d : ℕ) → IsFirst passes 0 (length set) d → IsDistance r set goal x d
    found d f =
        elim (cases_eq x goal) [
          | inl e ↦ subst (IsDistance r set goal x) (sym (at-once e)) (none e)
          | inr ne ↦ elim (near-walk d x (zero-plus d true f.passes)) [
            | inl e ↦ absurd (ne e)
            | inr w ↦
                let least : (v : Walk r set x goal) → d ≤ steps_of v = no-shorter d f.before in
                let low = least w.0 in
                let e : steps_of w.0 ≡ d = omega (arith, w.1, low) in
                let inside : d < length set = f.inside in
                subst (IsDistance r set goal x) e
                (shortest ne w.0 (λ v. let l = least v in omega arith) (omega arith))
          ]
        ]
      where
        at-once : x ≡ goal → d ≡ 0
        at-once e =
            elim (cases_eq d 0) [
              | inl z ↦ z
              | inr more ↦ absurd
                  (true≢false (sym
                  (keeps (is_near r goal []) set x (or_left _ _ (eq-eqb x goal e)) member)
                  ∙ zero-plus 0 false (f.before 0 (omega arith))))
            ]

    lost : (d : ℕ) → IsNone passes 0 (length set) d → IsDistance r set goal x d
    lost d f
        = subst (IsDistance r set goal x) (sym f.long)
        (endless (λ e. never (near-goal e))
        (λ w. never (near-ended (suc (steps_of w)) x (walk-near x member w))))
      where
        near-goal : x ≡ goal → at (length set) x ≡ true
        near-goal e
            = near-ended 1 x
            (keeps (is_near r goal []) set x (or_left _ _ (eq-eqb x goal e)) member)

        not-at : (n : ℕ) → n ≡ length set → at n x ≡ true → ⊥
        not-at zero e h = true≢false (sym h)
        not-at (suc n) e h = true≢false (sym h ∙ zero-plus n false (f.fails n (omega arith)))

        never : at (length set) x ≡ true → ⊥
        never h = not-at (length set) refl h

    either : (d : ℕ) → IsFirst passes 0 (length set) d ⊎ IsNone passes 0 (length set) d
        → IsDistance r set goal x d
    either d (inl f) = found d f
    either d (inr f) = lost d f

pub distance-is : (r : Relation) (set : List ℕ) (goal x : ℕ) → has set x ≡ true
    → IsDistance r set goal x (distance r set goal x)
distance-is r set goal x h =
    either r set goal x h (distance r set goal x)
    (first-in (λ k. has (near r set goal (suc k)) x) 0 (length set))
