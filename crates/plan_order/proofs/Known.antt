-- What is planned by lists that have only what is planned is planned by the needs that they were
-- made of.
use Rattle.std.proofs.Common.{◌≡◌, ℕ, zero, suc, true, List, [], ◌∷◌, length, take, sym, ap, ◌∙◌}
use Rattle.std.proofs.Common.{subst, inl, inr}
use Rattle.std.proofs.lemmas.Bool.{true≢false, or_cases, or_left, or_right}
use Rattle.relation_order.specs.Sets.{has, goes, marked, successors}
use Rattle.relation_order.specs.Cycle.{cycle}
use Rattle.relation_order.specs.Answer.{After, Closes}
use Rattle.relation_order.proofs.Placing.{Rising}
use Rattle.relation_order.proofs.Answering.{order-empty, cycle-is}
use Rattle.relation_order.proofs.SpreadLaws.{spread-first}
use Rattle.plan_order.specs.Plan.{plan, planned, needs, requested}
use Rattle.plan_order.specs.Answer.{IsPlan}
use Rattle.plan_order.specs.Lists.{among, IsPlanned}
use Rattle.plan_order.specs.declared.needs.Planned.{Planned}
use Rattle.plan_order.specs.declared.plan.GroupedOrder.{GroupedOrder}
use Rattle.plan_order.proofs.PlanLaws.{plan-after}
use Rattle.plan_order.proofs.QueueLaws.{queue-plans}
use Rattle.plan_order.proofs.Same.{Alike, planned-same, plan-same, groups-same, cycle-same}
use Rattle.plan_order.proofs.Same.{least-same}

requested-front : (requests : List (List ℕ)) (n y : ℕ) → requested (take n requests) y ≡ true
    → requested requests y ≡ true
requested-front [] zero y h = h
requested-front [] (suc n) y h = h
requested-front (r ∷ rs) zero y h = absurd (true≢false (sym h))
requested-front (r ∷ rs) (suc n) y h =
    elim (or_cases (has r y) (requested (take n rs) y) h) [
      | inl m ↦ or_left (has r y) (requested rs y) m
      | inr m ↦ or_right (has r y) (requested rs y) (requested-front rs n y m)
    ]

module _ (count : ℕ) (before : ℕ → List ℕ) (set : List ℕ) (after : ℕ → List ℕ)
    (requests : List (List ℕ)) (p : Planned) (k : IsPlanned count before set after requests p) where
  alike : Alike (planned (among before) set after requests) (among before) (goes p.before)
  alike x h = ap (λ xs. has xs) (sym (k.comes_before x h))

  after-alike : (x : ℕ) → has (planned (among before) set after requests) x ≡ true
      → after x ≡ successors p.after x
  after-alike x h = sym (k.wanted_after x h)

  own : planned (among before) set after requests
      ≡ planned (goes p.before) set (successors p.after) requests
  own
      = planned-same (among before) (goes p.before) set after (successors p.after)
      requests alike after-alike

  pub marks-own : marked p.marks.items
      ≡ planned (goes p.before) set (successors p.after) requests
  marks-own = k.marks ∙ own

  marked-alike : Alike (marked p.marks.items) (among before) (goes p.before)
  marked-alike x h = alike x (ap (λ xs. has xs x) (sym k.marks) ∙ h)

  pub cycle-own : cycle (among before) (planned (among before) set after requests)
      ≡ cycle (goes p.before) (marked p.marks.items)
  cycle-own
      = ap (cycle (among before)) (sym k.marks)
      ∙ cycle-same (among before) (goes p.before) (marked p.marks.items) marked-alike

  pub plan-own : (g : GroupedOrder) → cycle (goes p.before) (marked p.marks.items) ≡ []
      → IsPlan (goes p.before) set (successors p.after) requests g
      → IsPlan (among before) set after requests g
  plan-own g none is =
      let order : g.order.items ≡ plan (among before) set after requests
      = is.order
      ∙ sym (plan-same (among before) (goes p.before) set after
      (successors p.after) requests alike after-alike) in
      record {
        order = order;
        queue
            = let w
            = queue-plans (among before) set after requests in (w.0, λ n l. w.1 n l ∙ sym order);
        distinct = is.distinct;
        members = λ x. is.members x ∙ ap (λ xs. has xs x) (sym own);
        after
            = subst (After (among before) set) (sym order)
            (plan-after (among before) set after requests);
        ends_long = is.ends_long;
        ends = λ i l.
            is.ends i l
            ∙ ap length (sym (groups-same (among before) (goes p.before) set after
            (successors p.after) requests alike after-alike [] (take (suc i) requests)
            (λ y m t. spread-first (needs (among before) after) set (requested requests) y
            (requested-front requests (suc i) y t) m)));
      }

  pub closes-own : (found : List ℕ) → Rising (marked p.marks.items)
      → found ≡ cycle (goes p.before) (marked p.marks.items)
      → Closes (goes p.before) found → Closes (among before) found
  closes-own found up is closes =
      subst (Closes (among before))
      (sym (is
      ∙ sym (cycle-same (among before) (goes p.before) (marked p.marks.items)
      marked-alike)))
      (cycle-is (among before) (marked p.marks.items) up
      (λ long. subst (Closes (goes p.before))
      (is
      ∙ order-empty (goes p.before) (marked p.marks.items) up
      (ap length (sym (least-same (among before) (goes p.before)
      (marked p.marks.items) marked-alike))
      ∙ long)) closes))
