-- How the search for strongly connected components goes on.
use Rattle.std.proofs.Common.{◌≡◌, ℕ, ◌+◌, ◌<◌, ◌≤◌, Bool, true, false, eqb, ltb, leb, List, []}
use Rattle.std.proofs.Common.{◌∷◌, ◌++◌, length, take, set, get_or, sym, refl, ap, ◌∙◌, subst, inl}
use Rattle.std.proofs.Common.{inr, arith}
use Rattle.std.specs.Prelude.{◌&&◌, ◌||◌, ◌⊎◌}
use Rattle.std.proofs.lemmas.Bool.{true≢false, and_parts, and_from, or_cases, or_left, or_right}
use Rattle.std.proofs.lemmas.Bool.{eqb-true, eq-eqb, ne_eqb, cases_eq, cases_lt, cases_order}
use Rattle.std.proofs.lemmas.Bool.{cases_Bool, false_from_ne_true, ltb-true, ltb-false, le-leb}
use Rattle.std.proofs.lemmas.Bool.{or_parts}
use Rattle.std.proofs.lemmas.List.{get_or_append_left, get_or_push, length_push, get_or-set_same}
use Rattle.std.proofs.lemmas.List.{get_or-set_other, get_or-take, length-take-le}
use Rattle.relation_order.specs.Sets.{Relation, has, Rising}
use Rattle.relation_order.specs.Reached.{reached}
use Rattle.relation_order.specs.Components.{Searching, IsNoEarlier, Finishes, state_of, is_new}
use Rattle.relation_order.specs.Components.{is_done, is_on_cycle, with_step}
use Rattle.relation_order.specs.declared.components.State.{State}
use Rattle.relation_order.specs.declared.components.State.TheVariants.{New, Open, Done}
use Rattle.relation_order.proofs.ReachedLaws.{reached-step, reached-further, reached-only}
use Rattle.relation_order.proofs.LeastLaws.{push-has}
use Rattle.relation_order.proofs.Restricted.{same-tests}

-- one walk after another
pub reached-trans : (r : Relation) (all : List ℕ) (x y z : ℕ) → has (reached r all x) y ≡ true
    → has (reached r all y) z ≡ true → has (reached r all x) z ≡ true
reached-trans r all x y z a b =
    reached-only r all y (λ w. has (reached r all x) w ≡ true)
    (λ w h e. reached-further r all x y w a e h)
    (λ v w l h e. reached-further r all x v w l e h) z b

-- numbers that rise, with one more at the end
pub rising-push : (xs : List ℕ) (a : ℕ) → Rising xs → ((y : ℕ) → has xs y ≡ true → y < a)
    → Rising (xs ++ a ∷ [])
rising-push [] a up below = ((λ y h. absurd (true≢false (sym h))), tt)
rising-push (x ∷ xs) a up below = (
  λ y h. elim (or_cases (has xs y) (eqb y a) (sym (push-has xs a y) ∙ h)) [
    | inl m ↦ up.0 y m
    | inr s ↦ let e
        = eqb-true y a s in let l
        = below x (or_left _ _ (eq-eqb x x refl)) in omega arith
  ],
  rising-push xs a up.1 (λ y h. below y (or_right _ _ h)),
)

pub rising-front : (xs : List ℕ) (a : ℕ) → Rising (xs ++ a ∷ [])
    → Rising xs × ((y : ℕ) → has xs y ≡ true → y < a)
rising-front [] a up = (tt, λ y h. absurd (true≢false (sym h)))
rising-front (x ∷ xs) a up =
    let w = rising-front xs a up.1 in (
      ((λ y h. up.0 y (push-has xs a y ∙ or_left _ _ h)), w.0),
      λ y h. elim (or_cases (eqb y x) (has xs y) h) [
        | inl s ↦ let e
            = eqb-true y x s in let l
            = up.0 a (push-has xs a a ∙ or_right _ _ (eq-eqb a a refl)) in omega arith
        | inr m ↦ w.1 y m
      ],
    )

-- a place that is the last one, or one before
pub at-most : (front : List ℕ) (at p : ℕ) → Rising (front ++ at ∷ [])
    → has (front ++ at ∷ []) p ≡ true → p ≤ at
at-most front at p up h =
    elim (or_cases (has front p) (eqb p at) (sym (push-has front at p) ∙ h)) [
      | inl m ↦ let l = (rising-front front at up).1 p m in omega arith
      | inr s ↦ let e = eqb-true p at s in omega arith
    ]

-- the states differ
new-open : (p : ℕ) → New ≡ Open p → ⊥
new-open p e = cc

open-done : (p : ℕ) (b : Bool) → Open p ≡ Done b → ⊥
open-done p b e = cc

place-is : (p q : ℕ) → Open p ≡ Open q → p ≡ q
place-is p q e = cc

new-not-done : (v : State) → v ≡ New → is_done v ≡ true → ⊥
new-not-done v e d = true≢false (sym d ∙ ap is_done e)

open-not-done : (v : State) (p : ℕ) → v ≡ Open p → is_done v ≡ true → ⊥
open-not-done v p e d = true≢false (sym d ∙ ap is_done e)

-- an item is met, to which walks lead from all open ones
module _ (r looked : Relation) (all : List ℕ) (states : List State) (stack starts path : List ℕ)
    (w : ℕ) (s : Searching r looked all states stack starts path) (unmet : state_of states w ≡ New)
    (inside : w < length states) (member : has all w ≡ true)
    (leads : (p : ℕ) → p < length stack → has (reached r all (get_or stack p 0)) w ≡ true) where
  abbrev state' : ℕ → State
  state' = state_of (set states w (Open (length stack)))

  abbrev item' : ℕ → ℕ
  item' p = get_or (stack ++ w ∷ []) p 0

  low : (p : ℕ) → p < length (stack ++ w ∷ []) → (p ≡ length stack → ⊥) → p < length stack
  low p l ne = omega (arith, length_push stack w)

  new-item : (p : ℕ) → p ≡ length stack → item' p ≡ w
  new-item p e = get_or_push stack w 0 p (sym e)

  old-item : (p : ℕ) → p < length stack → item' p ≡ get_or stack p 0
  old-item p l = get_or_append_left stack (w ∷ []) 0 p l

  here : state' w ≡ Open (length stack)
  here = get_or-set_same states w (Open (length stack)) New inside

  there : (x : ℕ) → (x ≡ w → ⊥) → state' x ≡ state_of states x
  there x ne = get_or-set_other states w x (Open (length stack)) New ne

  apart : (p : ℕ) → p < length stack → get_or stack p 0 ≡ w → ⊥
  apart p l e = new-open p (sym unmet ∙ ap (state_of states) (sym e) ∙ s.placed p l)

  pub entered : Searching r looked all (set states w (Open (length stack))) (stack ++ w ∷ [])
      (starts ++ length stack ∷ []) (path ++ length stack ∷ [])
  entered =
      record {
        members = λ p l. elim (cases_eq p (length stack)) [
          | inl e ↦ ap (has all) (new-item p e) ∙ member
          | inr ne ↦ let o = low p l ne in ap (has all) (old-item p o) ∙ s.members p o
        ];
        placed = λ p l. elim (cases_eq p (length stack)) [
          | inl e ↦ ap state' (new-item p e) ∙ here ∙ ap Open (sym e)
          | inr ne ↦ let o
              = low p l ne in ap state' (old-item p o) ∙ there (get_or stack p 0) (apart p o)
              ∙ s.placed p o
        ];
        at_place = λ x p e. elim (cases_eq x w) [
          | inl same ↦ let k
              = place-is p (length stack) (sym e ∙ ap state' same ∙ here) in
              (omega (arith, length_push stack w), new-item p k ∙ sym same)
          | inr other ↦ let o
              = s.at_place x p (sym (there x other) ∙ e) in
              (omega (arith, length_push stack w), old-item p o.0 ∙ o.1)
        ];
        forth = λ p q l m. elim (cases_eq q (length stack)) [
          | inl e ↦ subst (λ y. has (reached r all (item' p)) y ≡ true) (sym (new-item q e))
              (subst (λ x. has (reached r all x) w ≡ true) (sym (old-item p (omega arith)))
              (leads p (omega arith)))
          | inr ne ↦ let o
              = low q m ne in subst (λ y. has (reached r all (item' p)) y ≡ true)
              (sym (old-item q o))
              (subst (λ x. has (reached r all x) (get_or stack q 0) ≡ true)
              (sym (old-item p (omega arith))) (s.forth p q l o))
        ];
        back = λ p q l m level. elim (cases_eq q (length stack)) [
          | inl e ↦ let k
              = level (length stack)
              (push-has starts (length stack) (length stack)
              ∙ or_right _ _ (eq-eqb (length stack) (length stack) refl)) (omega arith) in
              absurd (omega arith)
          | inr ne ↦ let o
              = low q m ne in subst (λ y. has (reached r all (item' q)) y ≡ true)
              (sym (old-item p (omega arith)))
              (subst (λ x. has (reached r all x) (get_or stack p 0) ≡ true) (sym (old-item q o))
              (s.back p q l o
              (λ b h k. level b (push-has starts (length stack) b ∙ or_left _ _ h) k)))
        ];
        settled = λ p y l t m. elim (cases_eq p (length stack)) [
          | inl e ↦ absurd
              (true≢false (sym t ∙ ap (λ x. looked x y) (new-item p e) ∙ s.fresh w y unmet))
          | inr ne ↦ still-settled p y (low p l ne)
              (s.settled p y (low p l ne) (ap (λ x. looked x y) (sym (old-item p (low p l ne))) ∙ t)
              m)
        ];
        fresh = λ x y e. elim (cases_eq x w) [
          | inl same ↦ absurd (new-open (length stack) (sym e ∙ ap state' same ∙ here))
          | inr other ↦ s.fresh x y (sym (there x other) ∙ e)
        ];
        whole = λ p y l off m t. elim (cases_eq p (length stack)) [
          | inl e ↦ absurd
              (true≢false (sym
              (push-has path (length stack) p ∙ or_right _ _ (eq-eqb p (length stack) e))
              ∙ off))
          | inr ne ↦
              let o = low p l ne in
              ap (λ x. looked x y) (old-item p o)
              ∙ s.whole p y o
              (false_from_ne_true _
              (λ h. true≢false
              (sym (push-has path (length stack) p ∙ or_left _ _ h) ∙ off))) m
              (ap (λ x. r x y) (sym (old-item p o)) ∙ t)
        ];
        starts_on_path
            = λ b h. elim
            (or_cases (has starts b) (eqb b (length stack))
            (sym (push-has starts (length stack) b) ∙ h)) [
              | inl old ↦ push-has path (length stack) b ∙ or_left _ _ (s.starts_on_path b old)
              | inr this ↦ push-has path (length stack) b ∙ or_right _ _ this
            ];
        first_start = λ l. elim (cases_eq (length stack) 0) [
          | inl none ↦ push-has starts (length stack) 0
              ∙ or_right _ _ (eq-eqb 0 (length stack) (sym none))
          | inr some ↦ push-has starts (length stack) 0 ∙ or_left _ _ (s.first_start (omega arith))
        ];
        path_open
            = λ p h. elim
            (or_cases (has path p) (eqb p (length stack))
            (sym (push-has path (length stack) p) ∙ h)) [
              | inl old ↦ let l = s.path_open p old in omega (arith, length_push stack w)
              | inr this ↦ let e
                  = eqb-true p (length stack) this in omega (arith, length_push stack w)
            ];
        path_rises = rising-push path (length stack) s.path_rises s.path_open;
        starts_rise
            = rising-push starts (length stack) s.starts_rise
            (λ b h. s.path_open b (s.starts_on_path b h));
        done_closed = λ x y d m t.
            let other
            = λ (same : x ≡ w). open-not-done (state' x) (length stack) (ap state' same ∙ here)
            d in
            let e = s.done_closed x y (ap is_done (sym (there x other)) ∙ d) m t in
            ap is_done (there y
            (λ same. new-not-done (state_of states y) (ap (state_of states) same ∙ unmet)
            e))
            ∙ e;
        done_known
            = λ x b e. s.done_known x b
            (sym (there x
            (λ same. open-done (length stack) b (sym (ap state' same ∙ here) ∙ e)))
            ∙ e);
      }
    where
      still-settled : (p y : ℕ) → p < length stack
          → (is_done (state_of states y) ≡ true)
          ⊎ ((q : ℕ) × (state_of states y ≡ Open q) × IsNoEarlier starts p q)
          → (is_done (state' y) ≡ true)
          ⊎ ((q : ℕ) × (state' y ≡ Open q) × IsNoEarlier (starts ++ length stack ∷ []) p q)
      still-settled p y l (inl d)
          = inl (ap is_done
          (there y (λ same. new-not-done (state_of states y)
          (ap (state_of states) same ∙ unmet) d))
          ∙ d)
      still-settled p y l (inr v) = inr (
        v.0,
        there y (λ same. new-open v.0 (sym unmet ∙ ap (state_of states) (sym same) ∙ v.1)) ∙ v.1,
        λ b h k. elim
            (or_cases (has starts b) (eqb b (length stack))
            (sym (push-has starts (length stack) b) ∙ h)) [
              | inl old ↦ v.2 b old k
              | inr this ↦ let z = eqb-true b (length stack) this in absurd (omega arith)
            ],
      )

-- a step from the last item of the path back to an open one: the components from that one's on
-- become one
module _ (r looked : Relation) (all : List ℕ) (states : List State)
    (stack starts starts' path front : List ℕ) (at q : ℕ)
    (s : Searching r looked all states stack starts path) (path-is : path ≡ front ++ at ∷ [])
    (q-open : q < length stack) (step : r (get_or stack at 0) (get_or stack q 0) ≡ true)
    (kept : (b : ℕ) → has starts' b ≡ (has starts b && leb b q)) (rises : Rising starts') where
  on-path : (b : ℕ) → has path b ≡ true → b ≤ at
  on-path b h
      = at-most front at b (subst Rising path-is s.path_rises)
      (ap (λ xs. has xs b) (sym path-is) ∙ h)

  fewer : (p p' : ℕ) → IsNoEarlier starts p p' → IsNoEarlier starts' p p'
  fewer p p' level b h = level b (and_parts _ _ (sym (kept b) ∙ h)).0

  -- from the items past the one that is gone back to
  leads-back : (j : ℕ) → j < length stack → q < j
      → has (reached r all (get_or stack j 0)) (get_or stack q 0) ≡ true
  leads-back j l far =
      elim (cases_order j at) [
        | inl e ↦ reached-step r all (get_or stack j 0) (get_or stack q 0)
            (ap (λ i. r (get_or stack i 0) (get_or stack q 0)) e ∙ step) (s.members q q-open)
        | inr (inl before) ↦ reached-further r all (get_or stack j 0) (get_or stack at 0)
            (get_or stack q 0) (s.forth j at before at-open) step (s.members q q-open)
        | inr (inr past) ↦ reached-further r all (get_or stack j 0) (get_or stack at 0)
            (get_or stack q 0) (s.back at j past l (λ b h k. on-path b (s.starts_on_path b h))) step
            (s.members q q-open)
      ]
    where
      at-open : at < length stack
      at-open
          = s.path_open at
          (ap (λ xs. has xs at) path-is ∙ push-has front at at
          ∙ or_right _ _ (eq-eqb at at refl))

  pub joined : Searching r looked all states stack starts' path
  joined =
      record {
        members = s.members;
        placed = s.placed;
        at_place = s.at_place;
        forth = s.forth;
        back = back';
        settled
            = λ p y l t m. elim (s.settled p y l t m)
            [ inl d ↦ inl d | inr v ↦ inr (v.0, v.1, fewer p v.0 v.2) ];
        fresh = s.fresh;
        whole = s.whole;
        starts_on_path = λ b h. s.starts_on_path b (and_parts _ _ (sym (kept b) ∙ h)).0;
        first_start = λ l. kept 0 ∙ and_from _ _ (s.first_start l) (le-leb 0 q (omega arith));
        path_open = s.path_open;
        path_rises = s.path_rises;
        starts_rise = rises;
        done_closed = s.done_closed;
        done_known = s.done_known;
      }
    where
      back' : (p j : ℕ) → p < j → j < length stack → IsNoEarlier starts' j p
          → has (reached r all (get_or stack j 0)) (get_or stack p 0) ≡ true
      back' p j l m level =
          elim (cases_lt q j) [
            | inr near ↦ s.back p j l m
                (λ b h k. level b (kept b ∙ and_from _ _ h (le-leb b q (omega arith))) k)
            | inl far ↦ elim (cases_order q p) [
              | inl e ↦ subst
                  (λ i. has (reached r all (get_or stack j 0)) (get_or stack i 0) ≡ true) e
                  (leads-back j m far)
              | inr (inl before) ↦ reached-trans r all (get_or stack j 0) (get_or stack q 0)
                  (get_or stack p 0) (leads-back j m far) (s.forth q p before (omega arith))
              | inr (inr past) ↦ reached-trans r all (get_or stack j 0) (get_or stack q 0)
                  (get_or stack p 0) (leads-back j m far)
                  (s.back p q past q-open
                  (λ b h k. level b (kept b ∙ and_from _ _ h (le-leb b q k)) (omega arith)))
            ]
          ]

-- one step more was looked at
module _ (r looked : Relation) (all : List ℕ) (states : List State) (stack starts path : List ℕ)
    (at target : ℕ) (s : Searching r looked all states stack starts path)
    (at-open : at < length stack)
    (found : has all target ≡ true
    → (is_done (state_of states target) ≡ true)
    ⊎ ((q : ℕ) × (state_of states target ≡ Open q) × IsNoEarlier starts at q)) where
  pub looked-more : Searching r (with_step looked (get_or stack at 0) target) all states stack
      starts path
  looked-more =
      record {
        members = s.members;
        placed = s.placed;
        at_place = s.at_place;
        forth = s.forth;
        back = s.back;
        settled = λ p y l t m. elim (or_cases (looked (get_or stack p 0) y) _ t) [
          | inl old ↦ s.settled p y l old m
          | inr this ↦
              let e = and_parts _ _ this in
              let place
              = place-is p at
              (sym (s.placed p l) ∙ ap (state_of states) (eqb-true _ _ e.0)
              ∙ s.placed at at-open) in
              let to = eqb-true y target e.1 in
              subst (λ i. (is_done (state_of states y) ≡ true)
              ⊎ ((q : ℕ) × (state_of states y ≡ Open q) × IsNoEarlier starts i q)) (sym place)
              (subst (λ z. (is_done (state_of states z) ≡ true)
              ⊎ ((q : ℕ) × (state_of states z ≡ Open q) × IsNoEarlier starts at q)) (sym to)
              (found (ap (has all) (sym to) ∙ m)))
        ];
        fresh
            = λ x y e. neither _ _ (s.fresh x y e)
            (off x y (ne_eqb x (get_or stack at 0)
            (λ same. new-open at
            (sym e ∙ ap (state_of states) same ∙ s.placed at at-open))));
        whole = λ p y l off m t. or_left _ _ (s.whole p y l off m t);
        starts_on_path = s.starts_on_path;
        first_start = s.first_start;
        path_open = s.path_open;
        path_rises = s.path_rises;
        starts_rise = s.starts_rise;
        done_closed = s.done_closed;
        done_known = s.done_known;
      }
    where
      neither : (a b : Bool) → a ≡ false → b ≡ false → (a || b) ≡ false
      neither a b e f = ap (λ c. c || b) e ∙ f

      off : (x y : ℕ) → eqb x (get_or stack at 0) ≡ false
          → (eqb x (get_or stack at 0) && eqb y target) ≡ false
      off x y e = ap (λ c. c && eqb y target) e

-- the last item of the path is left, and its component isn't whole
module _ (r looked : Relation) (all : List ℕ) (states : List State) (stack starts front : List ℕ)
    (at : ℕ) (s : Searching r looked all states stack starts (front ++ at ∷ []))
    (later : has starts at ≡ false)
    (all-looked : (y : ℕ) → has all y ≡ true → r (get_or stack at 0) y ≡ true
    → looked (get_or stack at 0) y ≡ true) where
  pub left : Searching r looked all states stack starts front
  left =
      record {
        members = s.members;
        placed = s.placed;
        at_place = s.at_place;
        forth = s.forth;
        back = s.back;
        settled = s.settled;
        fresh = s.fresh;
        whole = λ p y l off m t. elim (cases_eq p at) [
          | inl e ↦ ap (λ i. looked (get_or stack i 0) y) e
              ∙ all-looked y m (ap (λ i. r (get_or stack i 0) y) (sym e) ∙ t)
          | inr ne ↦ s.whole p y l
              (push-has front at p ∙ ap (λ b. b || eqb p at) off ∙ ne_eqb p at ne) m t
        ];
        starts_on_path
            = λ b h. elim
            (or_cases (has front b) (eqb b at)
            (sym (push-has front at b) ∙ s.starts_on_path b h)) [
              | inl m ↦ m
              | inr e ↦ absurd (true≢false (sym h ∙ ap (has starts) (eqb-true b at e) ∙ later))
            ];
        first_start = s.first_start;
        path_open = λ p h. s.path_open p (push-has front at p ∙ or_left _ _ h);
        path_rises = (rising-front front at s.path_rises).0;
        starts_rise = s.starts_rise;
        done_closed = s.done_closed;
        done_known = s.done_known;
      }

-- the last item of the path is left, and its component is whole
module _ (r looked : Relation) (all : List ℕ) (states states' : List State)
    (stack starts front : List ℕ) (at : ℕ)
    (s : Searching r looked all states stack (starts ++ at ∷ []) (front ++ at ∷ []))
    (all-looked : (y : ℕ) → has all y ≡ true → r (get_or stack at 0) y ≡ true
    → looked (get_or stack at 0) y ≡ true) (f : Finishes r stack at states states') where
  is-last : has (front ++ at ∷ []) at ≡ true
  is-last = push-has front at at ∙ or_right _ _ (eq-eqb at at refl)

  at-start : has (starts ++ at ∷ []) at ≡ true
  at-start = push-has starts at at ∙ or_right _ _ (eq-eqb at at refl)

  at-open : at < length stack
  at-open = s.path_open at is-last

  take-long : length (take at stack) ≡ at
  take-long = length-take-le at stack (let l = at-open in omega arith)

  front-below : (p : ℕ) → has front p ≡ true → p < at
  front-below = (rising-front front at s.path_rises).1

  starts-below : (b : ℕ) → has starts b ≡ true → b < at
  starts-below = (rising-front starts at s.starts_rise).1

  -- no component begins after the last place of the path
  starts-most : (b : ℕ) → has (starts ++ at ∷ []) b ≡ true → b ≤ at
  starts-most b h = at-most front at b s.path_rises (s.starts_on_path b h)

  -- an item is as it was, or in the component
  abbrev Same : ℕ → Type 0
  Same x
      = (state_of states' x ≡ state_of states x) × ((p : ℕ) → state_of states x ≡ Open p → p < at)

  abbrev Among : ℕ → Type 0
  Among x
      = (p : ℕ) × (at ≤ p) × (p < length stack) × (get_or stack p 0 ≡ x)
      × (state_of states' x ≡ Done (ltb (at + 1) (length stack) || r x x))

  which : (x : ℕ) → Same x ⊎ Among x
  which x = go (state_of states x) refl
    where
      place-of : (p : ℕ) → p < length stack → get_or stack p 0 ≡ x → state_of states x ≡ Open p
      place-of p l e = ap (state_of states) (sym e) ∙ s.placed p l

      go : (v : State) → state_of states x ≡ v → Same x ⊎ Among x
      go New e
          = inl (
            f.rest x (λ p l m h. new-open p (sym e ∙ place-of p m h)),
            λ p h. absurd (new-open p (sym e ∙ h)),
          )
      go (Done b) e
          = inl (
            f.rest x (λ p l m h. open-done p b (sym (place-of p m h) ∙ e)),
            λ p h. absurd (open-done p b (sym h ∙ e)),
          )
      go (Open q) e =
          elim (cases_lt q at) [
            | inl low ↦ inl (
              f.rest x (λ p l m h. let k
                  = place-is p q (sym (place-of p m h) ∙ e) in absurd (omega arith)),
              λ p h. let k = place-is p q (sym h ∙ e) in omega arith,
            )
            | inr high ↦ let o
                = s.at_place x q e in inr (
                  q,
                  high,
                  o.0,
                  o.1,
                  subst
                      (λ z. state_of states' z ≡ Done (ltb (at + 1) (length stack) || r z z))
                      o.1 (f.finished q high o.0),
                )
          ]

  finished-done : (x : ℕ) → Among x → is_done (state_of states' x) ≡ true
  finished-done x w = ap is_done w.4

  still-done : (x : ℕ) → is_done (state_of states x) ≡ true → is_done (state_of states' x) ≡ true
  still-done x d = elim (which x) [ inl w ↦ ap is_done w.0 ∙ d | inr w ↦ finished-done x w ]

  -- what an item of the component goes to was done, or is in it
  goes-to : (p y : ℕ) → at ≤ p → p < length stack → has all y ≡ true → r (get_or stack p 0) y ≡ true
      → (is_done (state_of states y) ≡ true)
      ⊎ ((q : ℕ) × (at ≤ q) × (q < length stack) × (get_or stack q 0 ≡ y))
  goes-to p y high l m t =
      elim (s.settled p y l seen m) [
        | inl d ↦ inl d
        | inr v ↦ let o = s.at_place y v.0 v.1 in inr (v.0, v.2 at at-start high, o.0, o.1)
      ]
    where
      seen : looked (get_or stack p 0) y ≡ true
      seen = elim (cases_eq p at) [
        | inl e ↦ ap (λ i. looked (get_or stack i 0) y) e
            ∙ all-looked y m (ap (λ i. r (get_or stack i 0) y) (sym e) ∙ t)
        | inr ne ↦ s.whole p y l
            (false_from_ne_true _
            (λ h. let k = at-most front at p s.path_rises h in absurd (omega arith))) m t
      ]

  among-from : (q y : ℕ) → at ≤ q → q < length stack → get_or stack q 0 ≡ y
      → is_done (state_of states' y) ≡ true
  among-from q y high l e
      = ap (λ z. is_done (state_of states' z)) (sym e) ∙ ap is_done (f.finished q high l)

  -- an item of the component lies on a cycle if there is another, or it goes to itself
  on-cycle : (p : ℕ) → at ≤ p → p < length stack
      → (ltb (at + 1) (length stack) || r (get_or stack p 0) (get_or stack p 0)) ≡ true
      → has (reached r all (get_or stack p 0)) (get_or stack p 0) ≡ true
  on-cycle p high l h =
      elim (or_cases (ltb (at + 1) (length stack)) (r (get_or stack p 0) (get_or stack p 0)) h) [
        | inr itself ↦ reached-step r all (get_or stack p 0) (get_or stack p 0) itself
            (s.members p l)
        | inl many ↦
            let n = ltb-true (at + 1) (length stack) many in
            elim (cases_eq p at) [
              | inl e ↦ round p (p + 1) (omega arith) (omega arith) high
              | inr ne ↦ let w
                  = round at p (omega arith) l (omega arith) in other at p (omega arith) l
                  (omega arith)
            ]
      ]
    where
      level : (i j : ℕ) → at ≤ i → IsNoEarlier (starts ++ at ∷ []) j i
      level i j o b m k = let z = starts-most b m in omega arith

      round : (i j : ℕ) → i < j → j < length stack → at ≤ i
          → has (reached r all (get_or stack i 0)) (get_or stack i 0) ≡ true
      round i j k m o
          = reached-trans r all (get_or stack i 0) (get_or stack j 0) (get_or stack i 0)
          (s.forth i j k m) (s.back i j k m (level i j o))

      other : (i j : ℕ) → i < j → j < length stack → at ≤ i
          → has (reached r all (get_or stack j 0)) (get_or stack j 0) ≡ true
      other i j k m o
          = reached-trans r all (get_or stack j 0) (get_or stack i 0) (get_or stack j 0)
          (s.back i j k m (level i j o)) (s.forth i j k m)

  -- and only then
  off-cycle : (p : ℕ) → at ≤ p → p < length stack
      → has (reached r all (get_or stack p 0)) (get_or stack p 0) ≡ true
      → (ltb (at + 1) (length stack) || r (get_or stack p 0) (get_or stack p 0)) ≡ true
  off-cycle p high l h =
      elim (cases_Bool (ltb (at + 1) (length stack) || r (get_or stack p 0) (get_or stack p 0))) [
        | inl so ↦ so
        | inr never ↦
            let w = or_parts _ _ never in
            let few = ltb-false (at + 1) (length stack) w.0 in
            absurd (open-not-done (state_of states (get_or stack p 0)) p (s.placed p l)
            (reached-only r all (get_or stack p 0) (λ y. is_done (state_of states y) ≡ true)
            (λ y m t. elim (goes-to p y high l m t) [
              | inl d ↦ d
              | inr v ↦ let same : v.0 ≡ p
                  = omega arith in absurd
                  (true≢false (sym t
                  ∙ ap (λ z. r (get_or stack p 0) z)
                  (sym v.3 ∙ ap (λ i. get_or stack i 0) same)
                  ∙ w.1))
            ])
            (λ x y d m t. s.done_closed x y d m t) (get_or stack p 0) h))
      ]

  pub closed : Searching r looked all states' (take at stack) starts front
  closed =
      record {
        members
            = λ p l. ap (has all) (old-item p l) ∙ s.members p (omega (arith, take-long, at-open));
        placed
            = λ p l. ap (state_of states') (old-item p l) ∙ kept-low p (low p l)
            ∙ s.placed p (omega (arith, take-long, at-open));
        at_place = λ x p e. elim (which x) [
          | inl w ↦ let o
              = s.at_place x p (sym w.0 ∙ e) in let k
              = w.1 p (sym w.0 ∙ e) in (omega (arith, take-long), get_or-take at stack p 0 k ∙ o.1)
          | inr w ↦ absurd (open-done p _ (sym e ∙ w.4))
        ];
        forth
            = λ p q l m. subst (λ y. has (reached r all (get_or (take at stack) p 0)) y ≡ true)
            (sym (old-item q m))
            (subst (λ x. has (reached r all x) (get_or stack q 0) ≡ true)
            (sym (old-item p (omega arith)))
            (s.forth p q l (omega (arith, low q m, at-open))));
        back
            = λ p q l m level. subst
            (λ y. has (reached r all (get_or (take at stack) q 0)) y ≡ true)
            (sym (old-item p (omega arith))) (subst
            (λ x. has (reached r all x) (get_or stack p 0) ≡ true) (sym (old-item q m)) (s.back
            p q l (omega (arith, low q m, at-open)) (λ b h k. elim
            (or_cases (has starts b) (eqb b at) (sym (push-has starts at b) ∙ h)) [
              | inl old ↦ level b old k
              | inr this ↦ let z = eqb-true b at this in let v = low q m in absurd (omega arith)
            ])));
        settled
            = λ p y l t m. still-settled p y
            (s.settled p y (omega (arith, low p l, at-open))
            (ap (λ x. looked x y) (sym (old-item p l)) ∙ t) m);
        fresh
            = λ x y e. elim (which x) [
              | inl w ↦ s.fresh x y (sym w.0 ∙ e)
              | inr w ↦ absurd
                  (new-not-done _ e (ap is_done w.4))
            ];
        whole = λ p y l off m t.
            let v = low p l in
            ap (λ x. looked x y) (old-item p l)
            ∙ s.whole p y (omega (arith, at-open))
            (push-has front at p ∙ ap (λ b. b || eqb p at) off
            ∙ ne_eqb p at (λ e. absurd (omega arith))) m
            (ap (λ x. r x y) (sym (old-item p l)) ∙ t);
        starts_on_path
            = λ b h. elim
            (or_cases (has front b) (eqb b at)
            (sym (push-has front at b)
            ∙ s.starts_on_path b (push-has starts at b ∙ or_left _ _ h))) [
              | inl m ↦ m
              | inr e ↦ let z = eqb-true b at e in let v = starts-below b h in absurd (omega arith)
            ];
        first_start
            = λ l. elim (or_cases (has starts 0) (eqb 0 at)
            (sym (push-has starts at 0) ∙ s.first_start (omega (arith, at-open)))) [
              | inl m ↦ m
              | inr e ↦ let z = eqb-true 0 at e in absurd (omega (arith, take-long))
            ];
        path_open = λ p h. let v = front-below p h in omega (arith, take-long);
        path_rises = (rising-front front at s.path_rises).0;
        starts_rise = (rising-front starts at s.starts_rise).0;
        done_closed = λ x y d m t. elim (which x) [
          | inl w ↦ still-done y (s.done_closed x y (ap is_done (sym w.0) ∙ d) m t)
          | inr w ↦ elim (goes-to w.0 y w.1 w.2 m (ap (λ z. r z y) w.3 ∙ t))
              [ inl e ↦ still-done y e | inr v ↦ among-from v.0 y v.1 v.2 v.3 ]
        ];
        done_known = λ x b e. elim (which x) [
          | inl w ↦ s.done_known x b (sym w.0 ∙ e)
          | inr w ↦
              done-is b _ (sym e ∙ w.4)
              ∙ subst (λ z. (ltb (at + 1) (length stack) || r z z) ≡ has (reached r all z) z)
              w.3 (same-tests _ _ (on-cycle w.0 w.1 w.2) (off-cycle w.0 w.1 w.2))
        ];
      }
    where
      low : (p : ℕ) → p < length (take at stack) → p < at
      low p l = omega (arith, take-long)

      old-item : (p : ℕ) → p < length (take at stack)
          → get_or (take at stack) p 0 ≡ get_or stack p 0
      old-item p l = get_or-take at stack p 0 (low p l)

      done-is : (a b : Bool) → Done a ≡ Done b → a ≡ b
      done-is a b e = cc

      kept-low : (p : ℕ) → p < at
          → state_of states' (get_or stack p 0) ≡ state_of states (get_or stack p 0)
      kept-low p l
          = f.rest (get_or stack p 0)
          (λ q h m e. let k
          = place-is q p
          (sym (s.placed q m) ∙ ap (state_of states) e
          ∙ s.placed p (omega (arith, at-open))) in absurd (omega arith))

      still-settled : (p y : ℕ)
          → (is_done (state_of states y) ≡ true)
          ⊎ ((q : ℕ) × (state_of states y ≡ Open q) × IsNoEarlier (starts ++ at ∷ []) p q)
          → (is_done (state_of states' y) ≡ true)
          ⊎ ((q : ℕ) × (state_of states' y ≡ Open q) × IsNoEarlier starts p q)
      still-settled p y (inl d) = inl (still-done y d)
      still-settled p y (inr v) =
          elim (which y) [
            | inl w ↦ inr (v.0, w.0 ∙ v.1, λ b h k. v.2 b (push-has starts at b ∙ or_left _ _ h) k)
            | inr w ↦ inl (finished-done y w)
          ]

-- a search that has come to an end has nothing open
pub none-open : (r looked : Relation) (all : List ℕ) (states : List State) (stack starts : List ℕ)
    → Searching r looked all states stack starts [] → length stack ≤ 0
none-open r looked all states stack starts s =
    elim (cases_lt 0 (length stack)) [
      | inl some ↦ absurd (true≢false (sym (s.starts_on_path 0 (s.first_start some))))
      | inr none ↦ none
    ]

-- then what was met is known
pub met-known : (r looked : Relation) (all : List ℕ) (states : List State) (stack starts : List ℕ)
    → Searching r looked all states stack starts [] → (x : ℕ) → is_new (state_of states x) ≡ false
    → is_on_cycle (state_of states x) ≡ has (reached r all x) x
met-known r looked all states stack starts s x met = go (state_of states x) refl met
  where
    go : (v : State) → state_of states x ≡ v → is_new v ≡ false
        → is_on_cycle v ≡ has (reached r all x) x
    go New e m = absurd (true≢false m)
    go (Open p) e m
        = let l
        = (s.at_place x p e).0 in absurd
        (omega (arith, none-open r looked all states stack starts s))
    go (Done b) e m = s.done_known x b e

-- at the start nothing was met
pub begun : (r : Relation) (looked : Relation) (all : List ℕ) (states : List State)
    → ((x : ℕ) → state_of states x ≡ New) → ((x y : ℕ) → looked x y ≡ false)
    → Searching r looked all states [] [] []
begun r looked all states unmet none =
    record {
      members = λ p l. absurd (omega arith);
      placed = λ p l. absurd (omega arith);
      at_place = λ x p e. absurd (new-open p (sym (unmet x) ∙ e));
      forth = λ p q l m. absurd (omega arith);
      back = λ p q l m level. absurd (omega arith);
      settled = λ p y l t m. absurd (omega arith);
      fresh = λ x y e. none x y;
      whole = λ p y l off m t. absurd (omega arith);
      starts_on_path = λ b h. h;
      first_start = λ l. absurd (omega arith);
      path_open = λ p h. absurd (true≢false (sym h));
      path_rises = tt;
      starts_rise = tt;
      done_closed = λ x y d m t. absurd (new-not-done _ (unmet x) d);
      done_known = λ x b e. absurd (new-not-done _ (unmet x) (ap is_done e));
    }
