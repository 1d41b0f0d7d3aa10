-- A plan doesn't change where modules that are wanted more than once are named once.
use Rattle.std.proofs.Common.{◌≡◌, ℕ, zero, suc, Bool, true, false, cond, eqb, List, [], ◌∷◌, ◌++◌}
use Rattle.std.proofs.Common.{length, refl, sym, ap, ◌∙◌, inl, inr}
use Rattle.std.specs.Prelude.{◌||◌, ◌⊎◌}
use Rattle.std.specs.List.{flat_map}
use Rattle.std.proofs.Math.Path.{fun_ext}
use Rattle.std.proofs.lemmas.Bool.{true≢false, or_cases, or_left, or_right, eqb-true, eq-eqb}
use Rattle.std.proofs.lemmas.List.{append-nil, append_assoc, map-append}
use Rattle.std.proofs.lemmas.List.Sums.{fold-append}
use Rattle.relation_order.specs.Sets.{Relation, has}
use Rattle.relation_order.specs.Search.{with_items}
use Rattle.relation_order.specs.Spread.{spread}
use Rattle.relation_order.specs.Least.{least_order}
use Rattle.relation_order.specs.Cycle.{cycle}
use Rattle.relation_order.proofs.Finding.{has-items}
use Rattle.relation_order.proofs.SpreadLaws.{spread-only}
use Rattle.plan_order.specs.Plan.{planned, requested, undone, members, with_group, with_groups}
use Rattle.plan_order.specs.Plan.{singles, post_at, plan_after, plan}
use Rattle.plan_order.specs.Lists.{among}
use Rattle.plan_order.specs.Answer.{IsAnswer}
use Rattle.plan_order.specs.declared.plan.PlanOrCycle.{PlanOrCycle}
use Rattle.plan_order.specs.declared.plan.PlanOrCycle.TheVariants as answers
use Rattle.plan_order.proofs.Complete.{requested-singles, groups-asked, planned-before}
use Rattle.plan_order.proofs.Complete.{planned-post, after-within}
use Rattle.plan_order.proofs.PlanKeeps.{has-append, undone-is}
use Rattle.plan_order.proofs.QueueLaws.{queue-plans}
use Rattle.dependency_lines.specs.Modules.{name_at, line_places}
use Rattle.plan_sources.specs.Sources.{Sources, modules, soft_places}
use Rattle.planned_modules.specs.Needs.{before, names_before}
use Rattle.plan_sources.specs.Softdeps.{once}
use Rattle.planned_modules.specs.Kept.{before_once}

pub has-once : (xs : List ℕ) (y : ℕ) → has (once xs) y ≡ has xs y
has-once xs y = has-items [] xs y

empty : (xs : List ℕ) → ((y : ℕ) → has xs y ≡ true → ⊥) → xs ≡ []
empty [] none = refl
empty (x ∷ xs) none = absurd (none x (or_left _ _ (eq-eqb x x refl)))

least-none : (r : Relation) → least_order r [] ≡ []
unfolding least_order
least-none r = refl

module _ (r : Relation) (set : List ℕ) where
  -- a module that is done already, or that isn't in the set, adds nothing
  adds-none : (done : List ℕ) (x : ℕ) → (has set x ≡ true → has done x ≡ true)
      → with_group r set done (x ∷ []) ≡ done
  adds-none done x settled =
      let none : members r set done (x ∷ []) ≡ []
      = empty (members r set done (x ∷ []))
      (spread-only r (undone set done) (has (x ∷ [])) (λ y. ⊥) start (λ y z h m t. h)) in
      ap (λ ms. done ++ least_order r ms) none ∙ ap (λ ms. done ++ ms) (least-none r)
      ∙ append-nil done
    where
      start : (y : ℕ) → has (undone set done) y ≡ true → has (x ∷ []) y ≡ true → ⊥
      start y m t = one (or_cases _ _ t)
        where
          one : (eqb y x ≡ true) ⊎ (false ≡ true) → ⊥
          one (inl e) =
              let w = undone-is r set done y m in
              let same : y ≡ x = eqb-true y x e in
              true≢false
              (sym (settled (ap (has set) (sym same) ∙ w.1)) ∙ ap (has done) (sym same) ∙ w.0)
          one (inr bad) = true≢false (sym bad)

  -- groups of single modules, after one more of them
  one-more : (done found : List ℕ) (y : ℕ)
      → with_groups r set done (singles (found ++ y ∷ []))
      ≡ with_group r set (with_groups r set done (singles found)) (y ∷ [])
  one-more done found y =
      ap (with_groups r set done) (map-append (λ x. x ∷ []) found (y ∷ []))
      ∙ fold-append (with_group r set) done (singles found) ((y ∷ []) ∷ [])

  module _ (part : List ℕ)
      (closed : (x y : ℕ) → has part x ≡ true → has set y ≡ true → r x y ≡ true → has part y ≡ true)
      (none : cycle r part ≡ []) where
    -- single modules of the part, each once
    groups-once : (done found ys : List ℕ)
        → ((y : ℕ) → has set y ≡ true → has (found ++ ys) y ≡ true → has part y ≡ true)
        → with_groups r set done (singles (with_items found ys))
        ≡ with_groups r set (with_groups r set done (singles found)) (singles ys)
    groups-once done found [] all = refl
    groups-once done found (y ∷ ys) all
        = by (has found y) refl (λ more inside. groups-once done more ys inside)
      where
        others : (z : ℕ) → has set z ≡ true → has (found ++ ys) z ≡ true → has part z ≡ true
        others z m h
            = all z m (has-append found (y ∷ ys) z
            ∙ either (or_cases _ _ (sym (has-append found ys z) ∙ h)))
          where
            either : (has found z ≡ true) ⊎ (has ys z ≡ true)
                → (has found z || has (y ∷ ys) z) ≡ true
            either (inl f) = or_left _ _ f
            either (inr g) = or_right _ _ (or_right _ _ g)

        front : (z : ℕ) → has set z ≡ true → requested (singles found) z ≡ true → has part z ≡ true
        front z m t
            = all z m
            (has-append found (y ∷ ys) z ∙ or_left _ _ (sym (requested-singles found z) ∙ t))

        by : (b : Bool) → has found y ≡ b
            → ((more : List ℕ)
            → ((z : ℕ) → has set z ≡ true → has (more ++ ys) z ≡ true → has part z ≡ true)
            → with_groups r set done (singles (with_items more ys))
            ≡ with_groups r set (with_groups r set done (singles more)) (singles ys))
            → with_groups r set done (singles (with_items (cond b found (found ++ y ∷ [])) ys))
            ≡ with_groups r set (with_group r set (with_groups r set done (singles found)) (y ∷ []))
            (singles ys)
        by true e rest =
            rest found others
            ∙ ap (λ d. with_groups r set d (singles ys))
            (sym (adds-none (with_groups r set done (singles found)) y
            (λ m. groups-asked r set part closed none done (singles found) front y m
            (requested-singles found y ∙ e))))
        by false e rest =
            rest (found ++ y ∷ [])
            (λ z m h. all z m (ap (λ xs. has xs z) (sym (append_assoc found (y ∷ []) ys)) ∙ h))
            ∙ ap (λ d. with_groups r set d (singles ys)) (one-more done found y)

  module _ (post : ℕ → List ℕ) (requests : List (List ℕ)) where
    abbrev post_once : ℕ → List ℕ
    post_once x = once (post x)

    pub planned-once : planned r set post_once requests ≡ planned r set post requests
    planned-once
        = ap (λ n. spread n set (requested requests))
        (fun_ext (λ x. fun_ext (λ y. ap (λ b. r x y || b) (has-once (post x) y))))

    post_at-once : (xs : List ℕ) (k : ℕ) → post_at post_once xs k ≡ once (post_at post xs k)
    post_at-once [] k = refl
    post_at-once (x ∷ xs) zero = refl
    post_at-once (x ∷ xs) (suc k) = post_at-once xs k

    module _ (none : cycle r (planned r set post requests) ≡ []) where
      after-once : (k : ℕ)
          → plan_after r set post_once requests k ≡ plan_after r set post requests k
      after-once zero = refl
      after-once (suc k) =
          let done = plan_after r set post requests k in
          (λ i. with_groups r set (after-once k i) (singles (post_at post_once (after-once k i) k)))
          ∙ ap (λ xs. with_groups r set (plan_after r set post requests k) (singles xs))
          (post_at-once (plan_after r set post requests k) k)
          ∙ groups-once (planned r set post requests) (planned-before r set post requests) none
          (plan_after r set post requests k) []
          (post_at post (plan_after r set post requests k) k)
          (λ y m h. planned-post r set post requests (plan_after r set post requests k)
          (after-within r set post requests k) k y m
          (requested-singles (post_at post (plan_after r set post requests k) k) y ∙ h))

      plan-once : plan r set post_once requests ≡ plan r set post requests
      unfolding plan
      plan-once = after-once (length set)

    pub answer-once : (a : PlanOrCycle) → IsAnswer r set post_once requests a
        → IsAnswer r set post requests a
    answer-once (answers.Plan p) is =
        let none : cycle r (planned r set post requests) ≡ []
        = ap (cycle r) (sym planned-once) ∙ is.0 in
        let order : p.order.items ≡ plan r set post requests = is.1.order ∙ plan-once none in (
          none,
          record {
            order = order;
            queue = let w = queue-plans r set post requests in (w.0, λ n l. w.1 n l ∙ sym order);
            distinct = is.1.distinct;
            members = λ x. is.1.members x ∙ ap (λ xs. has xs x) planned-once;
            after = is.1.after;
            ends_long = is.1.ends_long;
            ends = is.1.ends;
          },
        )
    answer-once (answers.Cycle found) is = (is.0 ∙ ap (cycle r) planned-once, is.1)

-- what comes before a module is the same
pub among-once : (s : Sources) → among (before_once s) ≡ among (before s)
among-once s =
    fun_ext (λ x.
    fun_ext (λ y.
    let line = line_places (modules s) x in
    let soft = soft_places s x (flat_map (names_before (name_at (modules s) x)) s.rules) in
    has-append line (once soft) y
    ∙ ap (λ b. has line y || b) (has-once soft y)
    ∙ sym (has-append line soft y)))
