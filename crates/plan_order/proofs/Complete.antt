-- What is planned is what the plan has, where nothing planned comes before itself.
use Rattle.std.proofs.Common.{◌≡◌, ℕ, zero, suc, ◌<◌, ◌≤◌, Bool, true, false, eqb, List, [], ◌∷◌}
use Rattle.std.proofs.Common.{◌++◌, length, sym, refl, ap, ◌∙◌, inl, inr, arith}
use Rattle.std.specs.Prelude.{◌||◌, ◌⊎◌}
use Rattle.std.proofs.lemmas.Bool.{true≢false, cases_Bool, cases_lt, or_cases, or_left, or_right}
use Rattle.std.proofs.lemmas.Bool.{eqb-true, eq-eqb}
use Rattle.std.proofs.lemmas.List.{append-nil, append_assoc}
use Rattle.relation_order.specs.Sets.{Relation, has}
use Rattle.relation_order.specs.Reached.{reached}
use Rattle.relation_order.specs.Cycle.{cycle}
use Rattle.relation_order.proofs.Saturation.{Within}
use Rattle.relation_order.proofs.ReachedLaws.{reached-step, reached-further, reached-only}
use Rattle.relation_order.proofs.SpreadLaws.{spread-first, spread-further, spread-only}
use Rattle.relation_order.proofs.LeastLaws.{least-members, least-all}
use Rattle.relation_order.proofs.Complete.{acyclic-from_empty}
use Rattle.plan_order.specs.Plan.{requested, needs, planned, undone, members, group, with_group}
use Rattle.plan_order.specs.Plan.{with_groups, singles, post_at, plan_after, plan}
use Rattle.plan_order.proofs.PlanKeeps.{has-append, undone-is, is-undone}
use Rattle.plan_order.proofs.PlanLaws.{plan-closed, plan-length}
use Rattle.relation_order.proofs.Restricted.{same-tests}

or-false : (a : Bool) → (a || false) ≡ a
or-false true = refl
or-false false = refl

-- modules as requests
pub requested-singles : (xs : List ℕ) (y : ℕ) → requested (singles xs) y ≡ has xs y
requested-singles [] y = refl
requested-singles (x ∷ xs) y =
    ap (λ b. b || requested (singles xs) y) (or-false (eqb y x))
    ∙ ap (λ b. eqb y x || b) (requested-singles xs y)

-- whose post-softdeps stand at a place
pub post_at-whose : (post : ℕ → List ℕ) (xs : List ℕ) (k y : ℕ) → has (post_at post xs k) y ≡ true
    → (x : ℕ) × (has xs x ≡ true) × (has (post x) y ≡ true)
post_at-whose post [] k y h = absurd (true≢false (sym h))
post_at-whose post (x ∷ xs) zero y h = (x, or_left _ _ (eq-eqb x x refl), h)
post_at-whose post (x ∷ xs) (suc k) y h =
    let w = post_at-whose post xs k y h in (w.0, or_right _ _ w.1, w.2)

pub post_at-front : (post : ℕ → List ℕ) (xs ys : List ℕ) (k : ℕ) → k < length xs
    → post_at post (xs ++ ys) k ≡ post_at post xs k
post_at-front post [] ys k l = absurd (omega arith)
post_at-front post (x ∷ xs) ys zero l = refl
post_at-front post (x ∷ xs) ys (suc k) l = post_at-front post xs ys k (omega arith)

pub post_at-past : (post : ℕ → List ℕ) (xs : List ℕ) (k : ℕ) → length xs ≤ k
    → post_at post xs k ≡ []
post_at-past post [] k l = refl
post_at-past post (x ∷ xs) zero l = absurd (omega arith)
post_at-past post (x ∷ xs) (suc k) l = post_at-past post xs k (omega arith)

-- where a module's post-softdeps stand
pub post_at-where : (post : ℕ → List ℕ) (xs : List ℕ) (x : ℕ) → has xs x ≡ true
    → (k : ℕ) × (k < length xs) × (post_at post xs k ≡ post x)
post_at-where post [] x h = absurd (true≢false (sym h))
post_at-where post (z ∷ zs) x h =
    elim (or_cases (eqb x z) (has zs x) h) [
      | inl s ↦ (0, omega arith, ap post (sym (eqb-true x z s)))
      | inr m ↦ let w = post_at-where post zs x m in let l = w.1 in (suc w.0, omega arith, w.2)
    ]

module _ (r : Relation) (set : List ℕ) where
  -- what is done is done after further groups
  pub groups-more : (done : List ℕ) (requests : List (List ℕ))
      → (ys : List ℕ) × (with_groups r set done requests ≡ done ++ ys)
  groups-more done [] = ([], sym (append-nil done))
  groups-more done (request ∷ requests) =
      let w = groups-more (with_group r set done request) requests in
      (group r set done request ++ w.0, w.1 ∙ append_assoc done (group r set done request) w.0)

  pub groups-grow : (done : List ℕ) (requests : List (List ℕ))
      → Within done (with_groups r set done requests)
  groups-grow done requests y h
      = let w
      = groups-more done requests in ap (λ xs. has xs y) w.1 ∙ has-append done w.0 y ∙ or_left _ _ h

  -- a part of the set that has with each member what comes before it, and no cycle
  module _ (part : List ℕ)
      (closed : (x y : ℕ) → has part x ≡ true → has set y ≡ true → r x y ≡ true → has part y ≡ true)
    where
      pub members-within : (done request : List ℕ)
          → ((y : ℕ) → has set y ≡ true → has request y ≡ true → has part y ≡ true)
          → Within (members r set done request) part
      members-within done request all =
          spread-only r (undone set done) (has request) (λ y. has part y ≡ true)
          (λ y m t. all y (undone-is r set done y m).1 t)
          (λ x y h m t. closed x y h (undone-is r set done y m).1 t)

      pub group-within : (done request : List ℕ)
          → ((y : ℕ) → has set y ≡ true → has request y ≡ true → has part y ≡ true)
          → Within done part
          → Within (with_group r set done request) part
      group-within done request all old y h =
          elim (or_cases (has done y) (has (group r set done request) y)
          (sym (has-append done (group r set done request) y) ∙ h)) [
            | inl d ↦ old y d
            | inr g ↦ members-within done request all y
                (least-members r (members r set done request) y g)
          ]

      pub groups-within : (done : List ℕ) (requests : List (List ℕ))
          → ((y : ℕ) → has set y ≡ true → requested requests y ≡ true → has part y ≡ true)
          → Within done part → Within (with_groups r set done requests) part
      groups-within done [] all old = old
      groups-within done (request ∷ requests) all old =
          groups-within (with_group r set done request) requests (λ y m t. all y m (or_right _ _ t))
          (group-within done request (λ y m t. all y m (or_left _ _ t)) old)

      module _ (none : cycle r part ≡ []) where
        -- a group has all its members
        pub group-all : (done request : List ℕ)
            → ((y : ℕ) → has set y ≡ true → has request y ≡ true → has part y ≡ true) → (x : ℕ)
            → has (members r set done request) x ≡ true → has (group r set done request) x ≡ true
        group-all done request all
            = least-all r (members r set done request)
            (λ x m. acyclic x m (has (reached r (members r set done request) x) x) refl)
          where
            more : (x y : ℕ) → has (reached r (members r set done request) x) y ≡ true
                → has (reached r part x) y ≡ true
            more x
                = reached-only r (members r set done request) x
                (λ y. has (reached r part x) y ≡ true)
                (λ y m t. reached-step r part x y t (members-within done request all y m))
                (λ v y h m t. reached-further r part x v y h t
                (members-within done request all y m))

            acyclic : (x : ℕ) → has (members r set done request) x ≡ true → (b : Bool)
                → has (reached r (members r set done request) x) x ≡ b → b ≡ false
            acyclic x m false e = refl
            acyclic x m true e
                = absurd (true≢false
                (sym (more x x e)
                ∙ acyclic-from_empty r part none x (members-within done request all x m)))

        -- what is asked for is done
        pub group-asked : (done request : List ℕ)
            → ((y : ℕ) → has set y ≡ true → has request y ≡ true → has part y ≡ true) → (y : ℕ)
            → has set y ≡ true → has request y ≡ true → has (with_group r set done request) y ≡ true
        group-asked done request all y m t
            = has-append done (group r set done request) y ∙ go (cases_Bool (has done y))
          where
            go : (has done y ≡ true) ⊎ (has done y ≡ false)
                → (has done y || has (group r set done request) y) ≡ true
            go (inl d) = or_left _ _ d
            go (inr f)
                = or_right _ _
                (group-all done request all y
                (spread-first r (undone set done) (has request) y t
                (is-undone r set done y f m)))

        pub groups-asked : (done : List ℕ) (requests : List (List ℕ))
            → ((y : ℕ) → has set y ≡ true → requested requests y ≡ true → has part y ≡ true)
            → (y : ℕ)
            → has set y ≡ true → requested requests y ≡ true
            → has (with_groups r set done requests) y ≡ true
        groups-asked done [] all y m t = absurd (true≢false (sym t))
        groups-asked done (request ∷ requests) all y m t =
            elim (or_cases (has request y) (requested requests y) t) [
              | inl h ↦ groups-grow (with_group r set done request) requests y
                  (group-asked done request (λ z n u. all z n (or_left _ _ u)) y m h)
              | inr h ↦ groups-asked (with_group r set done request) requests
                  (λ z n u. all z n (or_right _ _ u)) y m h
            ]

  module _ (post : ℕ → List ℕ) (requests : List (List ℕ)) where
    abbrev pub all : List ℕ
    all = planned r set post requests

    pub planned-before : (x y : ℕ) → has (planned r set post requests) x ≡ true → has set y ≡ true
        → r x y ≡ true → has (planned r set post requests) y ≡ true
    planned-before x y h m t
        = spread-further (needs r post) set (requested requests) x y h (or_left _ _ t) m

    pub planned-asked : (y : ℕ) → has set y ≡ true → requested requests y ≡ true
        → has (planned r set post requests) y ≡ true
    planned-asked y m t = spread-first (needs r post) set (requested requests) y t m

    pub planned-post : (xs : List ℕ) → Within xs (planned r set post requests) → (k y : ℕ)
        → has set y ≡ true → requested (singles (post_at post xs k)) y ≡ true
        → has (planned r set post requests) y ≡ true
    planned-post xs sub k y m t =
        let w = post_at-whose post xs k y (sym (requested-singles (post_at post xs k) y) ∙ t) in
        spread-further (needs r post) set (requested requests) w.0 y (sub w.0 w.1)
        (or_right _ _ w.2) m

    -- nothing but what is planned stands in the plan
    pub after-within : (k : ℕ)
        → Within (plan_after r set post requests k) (planned r set post requests)
    after-within zero
        = groups-within (planned r set post requests) planned-before [] requests planned-asked
        (λ y h. absurd (true≢false (sym h)))
    after-within (suc k) =
        groups-within (planned r set post requests) planned-before
        (plan_after r set post requests k)
        (singles (post_at post (plan_after r set post requests k) k))
        (planned-post (plan_after r set post requests k) (after-within k) k) (after-within k)

    pub plan-within : Within (plan r set post requests) (planned r set post requests)
    unfolding plan
    plan-within = after-within (length set)

    module _ (none : cycle r (planned r set post requests) ≡ []) where
      posted-more : (k i : ℕ) → i < suc k → i < length (plan_after r set post requests (suc k))
          → (y : ℕ) → has set y ≡ true
          → has (post_at post (plan_after r set post requests (suc k)) i) y ≡ true
          → ((i : ℕ) → i < k → i < length (plan_after r set post requests k) → (y : ℕ)
          → has set y ≡ true
          → has (post_at post (plan_after r set post requests k) i) y ≡ true
          → has (plan_after r set post requests k) y ≡ true)
          → (i < length (plan_after r set post requests k))
          ⊎ (length (plan_after r set post requests k) ≤ i)
          → has (plan_after r set post requests (suc k)) y ≡ true
      posted-more k i l n y m h ih (inl low) =
          let w
          = groups-more (plan_after r set post requests k)
          (singles (post_at post (plan_after r set post requests k) k)) in
          let h' : has (post_at post (plan_after r set post requests k) i) y ≡ true
          = ap (λ xs. has xs y)
          (sym (ap (λ xs. post_at post xs i) w.1
          ∙ post_at-front post (plan_after r set post requests k) w.0 i low))
          ∙ h in
          elim (cases_lt i k) [
            | inl less ↦ groups-grow (plan_after r set post requests k)
                (singles (post_at post (plan_after r set post requests k) k)) y
                (ih i less low y m h')
            | inr more ↦
                let e : i ≡ k = omega arith in
                groups-asked (planned r set post requests) planned-before none
                (plan_after r set post requests k)
                (singles (post_at post (plan_after r set post requests k) k))
                (planned-post (plan_after r set post requests k) (after-within k) k) y m
                (requested-singles (post_at post (plan_after r set post requests k) k) y
                ∙ ap (λ j. has (post_at post (plan_after r set post requests k) j) y)
                (sym e)
                ∙ h')
          ]
      posted-more k i l n y m h ih (inr high) =
          let e : plan_after r set post requests (suc k) ≡ plan_after r set post requests k
          = ap (λ xs. with_groups r set (plan_after r set post requests k) (singles xs))
          (post_at-past post (plan_after r set post requests k) k (omega arith)) in
          absurd (omega (arith, ap length e))

      -- the post-softdeps of the first modules are done
      pub posted : (k i : ℕ) → i < k → i < length (plan_after r set post requests k) → (y : ℕ)
          → has set y ≡ true → has (post_at post (plan_after r set post requests k) i) y ≡ true
          → has (plan_after r set post requests k) y ≡ true
      posted zero i l n y m h = absurd (omega arith)
      posted (suc k) i l n y m h =
          posted-more k i l n y m h (posted k)
          (cases_lt i (length (plan_after r set post requests k)))

      after-asked : (k y : ℕ) → has set y ≡ true → requested requests y ≡ true
          → has (plan_after r set post requests k) y ≡ true
      after-asked zero y m t
          = groups-asked (planned r set post requests) planned-before none [] requests planned-asked
          y m t
      after-asked (suc k) y m t
          = groups-grow (plan_after r set post requests k)
          (singles (post_at post (plan_after r set post requests k) k)) y (after-asked k y m t)

      -- each requested module of the set stands in the plan
      pub plan-asked : (y : ℕ) → has set y ≡ true → requested requests y ≡ true
          → has (plan r set post requests) y ≡ true
      unfolding plan
      plan-asked = after-asked (length set)

      -- and with a module its post-softdeps
      pub plan-posted : (x y : ℕ) → has (plan r set post requests) x ≡ true → has set y ≡ true
          → has (post x) y ≡ true → has (plan r set post requests) y ≡ true
      unfolding plan
      plan-posted x y h m t =
          let w = post_at-where post (plan_after r set post requests (length set)) x h in
          let l = w.1 in
          let n : length (plan_after r set post requests (length set)) ≤ length set
          = plan-length r set post requests in
          posted (length set) w.0 (omega arith) l y m (ap (λ xs. has xs y) w.2 ∙ t)

      pub plan-has : Within (planned r set post requests) (plan r set post requests)
      plan-has
          = spread-only (needs r post) set (requested requests)
          (λ y. has (plan r set post requests) y ≡ true) plan-asked more
        where
          more : (x y : ℕ) → has (plan r set post requests) x ≡ true → has set y ≡ true
              → needs r post x y ≡ true → has (plan r set post requests) y ≡ true
          more x y h m t =
              elim (or_cases (r x y) (has (post x) y) t) [
                | inl b ↦ plan-closed r set post requests x y h m b
                | inr p ↦ plan-posted x y h m p
              ]

      -- the plan has exactly what is planned
      pub plan-is_planned : (y : ℕ)
          → has (plan r set post requests) y ≡ has (planned r set post requests) y
      plan-is_planned y = same-tests _ _ (plan-within y) (plan-has y)
