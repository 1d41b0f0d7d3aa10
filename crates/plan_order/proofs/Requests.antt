-- Requests as the code has them.
use Rattle.std.proofs.Common.{◌≡◌, ℕ, zero, suc, ◌<◌, ◌≤◌, Bool, true, false, eqb, List, [], ◌∷◌}
use Rattle.std.proofs.Common.{length, take, get_or, sym, refl, ap, ◌∙◌, inl, inr, arith}
use Rattle.std.specs.Global.{Vec}
use Rattle.std.proofs.lemmas.Bool.{true≢false, cases_eq, or_cases, or_left, or_right, eqb-true}
use Rattle.std.proofs.lemmas.List.{get_or_default}
use Rattle.relation_order.specs.Sets.{Relation, has, marked}
use Rattle.relation_order.proofs.Lists.{has-at}
use Rattle.relation_order.proofs.PlaceSteps.{member-inside}
use Rattle.plan_order.specs.Plan.{requested, members, group, with_group, with_groups, singles}
use Rattle.plan_order.specs.Plan.{post_at, plan_after, plan}
use Rattle.relation_order.specs.Sets.{successors}
use Rattle.plan_order.specs.Lists.{items_of}
use Rattle.plan_order.specs.NoCycle.{NoCycle}
use Rattle.plan_order.proofs.PlanKeeps.{plan_after-keeps}
use Rattle.plan_order.proofs.PlanLaws.{Few, few-more, few-length}
use Rattle.plan_order.proofs.Complete.{requested-singles, group-all, post_at-past}

-- a request that leads to no cycle has all its members in its group
pub group-whole : {r : Relation} {set : List ℕ} {requests : List (List ℕ)} → NoCycle r set requests
    → (done request : List ℕ) → ((y : ℕ) → has request y ≡ true → requested requests y ≡ true)
    → (y : ℕ) → has (members r set done request) y ≡ true → has (group r set done request) y ≡ true
group-whole {r = r} {set = set} w done request sub =
    group-all r set w.part w.closed w.none done request (λ y m t. w.asked y m (sub y t))

pub requested-at : (requests : List (Vec ℕ)) (i : ℕ) (v : Vec ℕ) → i < length requests
    → v ≡ get_or requests i v → (y : ℕ) → has v.items y ≡ true
    → requested (items_of requests) y ≡ true
requested-at [] i v l e y h = absurd (omega arith)
requested-at (w ∷ ws) zero v l e y h = or_left _ _ (ap (λ (u : Vec ℕ). has u.items y) (sym e) ∙ h)
requested-at (w ∷ ws) (suc i) v l e y h = or_right _ _ (requested-at ws i v (omega arith) e y h)

pub requested-one : (xs : List ℕ) (i : ℕ) → i < length xs → (y : ℕ)
    → has (get_or xs i 0 ∷ []) y ≡ true → requested (singles xs) y ≡ true
requested-one xs i l y h =
    requested-singles xs y ∙
    elim (or_cases (eqb y (get_or xs i 0)) false h) [
      | inl e ↦ ap (has xs) (eqb-true y (get_or xs i 0) e)
          ∙ has-at xs i (get_or xs i 0) l (get_or_default xs i 0 (get_or xs i 0) l)
      | inr bad ↦ absurd (true≢false (sym bad))
    ]

module _ (r : Relation) (set : List ℕ) (post : ℕ → List ℕ) (requests : List (List ℕ)) where
  pub after-length : (k : ℕ) → length (plan_after r set post requests k) ≤ length set
  after-length k
      = few-length r set (plan_after r set post requests k)
      (plan_after-keeps r set (Few r set) (few-more r set) post requests k (omega arith))

  -- when all modules of the plan have had their turn, it is the plan
  after-same : (k m : ℕ) → k ≤ m → length (plan_after r set post requests k) ≤ k
      → plan_after r set post requests m ≡ plan_after r set post requests k
  after-same k zero l short = ap (plan_after r set post requests) (let e : 0 ≡ k = omega arith in e)
  after-same k (suc m) l short =
      elim (cases_eq k (suc m)) [
        | inl e ↦ ap (plan_after r set post requests) (sym e)
        | inr ne ↦
            let ih = after-same k m (omega arith) short in
            ap (λ xs. with_groups r set (plan_after r set post requests m) (singles xs))
            (post_at-past post (plan_after r set post requests m) m
            (omega (arith, ap length ih)))
            ∙ ih
      ]

  pub plan-ended : (k : ℕ) → k ≤ length (plan_after r set post requests k)
      → length (plan_after r set post requests k) ≤ k
      → plan_after r set post requests k ≡ plan r set post requests
  unfolding plan
  plan-ended k l short = sym (after-same k (length set) (omega (arith, after-length k)) short)

pub successors-past : (lists : List (Vec ℕ)) (x : ℕ) → length lists ≤ x → successors lists x ≡ []
successors-past [] x l = refl
successors-past (w ∷ ws) zero l = absurd (omega arith)
successors-past (w ∷ ws) (suc x) l = successors-past ws x (omega arith)

pub post_at-here : (post : ℕ → List ℕ) (xs : List ℕ) (k : ℕ) → k < length xs
    → post_at post xs k ≡ post (get_or xs k 0)
post_at-here post [] k l = absurd (omega arith)
post_at-here post (x ∷ xs) zero l = refl
post_at-here post (x ∷ xs) (suc k) l = post_at-here post xs k (omega arith)

-- the post-softdeps of the module at a place of an order, in the code's terms
pub posts-here : (post : List (Vec ℕ)) (order : List ℕ) (next x : ℕ) (items : List ℕ)
    → next < length order → x ≡ get_or order next x → items ≡ successors post x
    → items ≡ post_at (successors post) order next
posts-here post order next x items l x-is same =
    same
    ∙ ap (successors post) (x-is ∙ get_or_default order next x 0 l)
    ∙ sym (post_at-here (successors post) order next l)

pub order-low : (free : List Bool) (order : List ℕ) (next x : ℕ)
    → ((y : ℕ) → has order y ≡ true → has (marked free) y ≡ true) → next < length order
    → x ≡ get_or order next x → x < length free
order-low free order next x within l is = member-inside free x (within x (has-at order next x l is))

-- one request more
pub groups-suc : (r : Relation) (set base : List ℕ) (requests : List (Vec ℕ)) (i : ℕ) (v : Vec ℕ)
    → i < length requests → v ≡ get_or requests i v
    → with_groups r set base (items_of (take (suc i) requests))
    ≡ with_group r set (with_groups r set base (items_of (take i requests))) v.items
groups-suc r set base [] i v l e = absurd (omega arith)
groups-suc r set base (w ∷ ws) zero v l e =
    ap (λ (u : Vec ℕ). with_group r set base u.items) (sym e)
groups-suc r set base (w ∷ ws) (suc i) v l e =
    groups-suc r set (with_group r set base w.items) ws i v (omega arith) e
