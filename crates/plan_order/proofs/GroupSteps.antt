-- A group is listed among all that was found as it would be by itself.
use Rattle.std.proofs.Common.{◌≡◌, ℕ, Bool, true, false, List, ◌++◌, length, take, drop, ◌-◌, sym}
use Rattle.std.proofs.Common.{ap, ◌∙◌, subst, inl, inr, arith}
use Rattle.std.specs.Prelude.{◌||◌, ◌⊎◌, not, slice_index_or}
use Rattle.std.proofs.lemmas.Bool.{true≢false, or_cases, or_right}
use Rattle.std.proofs.lemmas.List.{take_all, length-append}
use Rattle.std.proofs.Math.Seq.{drop-append_seam}
use Rattle.relation_order.specs.Sets.{Relation, has, marked, below}
use Rattle.relation_order.specs.Spread.{spread}
use Rattle.relation_order.proofs.Saturation.{filter-same}
use Rattle.relation_order.proofs.LeastLaws.{least-members}
use Rattle.relation_order.proofs.Placing.{Rising, rising-filter, rising-range}
use Rattle.relation_order.proofs.SpreadLaws.{spread-within, spread-members}
use Rattle.plan_order.specs.Plan.{undone, members, group, with_group}
use Rattle.plan_order.specs.Finding.{FoundMore}
use Rattle.relation_order.proofs.Restricted.{same-tests}
use Rattle.plan_order.specs.Finding.{Rises}
use Rattle.plan_order.proofs.Lists.{rises-from, rises-same}
use Rattle.plan_order.proofs.PlanKeeps.{has-append, undone-is}

-- what counts of what is done is which items it has
pub undone-same : (set a b : List ℕ) → ((y : ℕ) → has a y ≡ has b y) → undone set a ≡ undone set b
undone-same set a b same =
    filter-same (λ x. not (has a x)) (λ x. not (has b x)) set (λ x _. ap not (same x))

pub members-same : (r : Relation) (set a b request : List ℕ) → ((y : ℕ) → has a y ≡ has b y)
    → members r set a request ≡ members r set b request
members-same r set a b request same = ap (λ u. spread r u (has request)) (undone-same set a b same)

-- members of a group are undone
pub member-undone : (r : Relation) (set done request : List ℕ) (y : ℕ)
    → has (members r set done request) y ≡ true → (has done y ≡ false) × (has set y ≡ true)
member-undone r set done request y h =
    undone-is r set done y (spread-within r (undone set done) (has request) y h)

pub members-rising : (r : Relation) (free : List Bool) (done request : List ℕ)
    → Rising (members r (marked free) done request)
members-rising r free done request =
    subst Rising (sym (spread-members r (undone (marked free) done) (has request)))
    (rising-filter (has (members r (marked free) done request)) (undone (marked free) done)
    (rising-filter (λ y. not (has done y)) (marked free)
    (rising-filter (λ y. slice_index_or free y false) (below (length free))
    (rising-range 0 (length free)))))

pub new-slice : (base new found : List ℕ) (start n : ℕ) → found ≡ base ++ new → start ≡ length base
    → n ≡ length found → take (n - start) (drop start found) ≡ new
new-slice base new found start n is s-is n-is =
    let d : drop start found ≡ new
    = ap (λ xs. drop start xs) is ∙ ap (λ k. drop k (base ++ new)) s-is
    ∙ drop-append_seam base new in
    ap (take (n - start)) d
    ∙ take_all (n - start) new (omega (arith, ap length is, length-append base new))

module _ (r : Relation) (free : List Bool) (request base found order : List ℕ)
    (f : FoundMore r (marked free) request base found) (listed : (y : ℕ) → has base y ≡ has order y)
    (within : (y : ℕ) → has order y ≡ true → has (marked free) y ≡ true) where
  pub found-same : (y : ℕ)
      → has found y ≡ (has order y || has (members r (marked free) order request) y)
  found-same y
      = f.same y ∙ ap (λ b. b || has (members r (marked free) base request) y) (listed y)
      ∙ ap (λ xs. has order y || has xs y)
      (members-same r (marked free) base order request listed)

  pub found-within : (y : ℕ) → has found y ≡ true → has (marked free) y ≡ true
  found-within y h =
      elim (or_cases _ _ (sym (found-same y) ∙ h)) [
        | inl d ↦ within y d
        | inr m ↦ (member-undone r (marked free) order request y m).1
      ]

  pub members-new : (y : ℕ) → has (members r (marked free) order request) y ≡ true
      → has f.more.0 y ≡ true
  members-new y m =
      elim (or_cases (has base y) (has f.more.0 y)
      (sym (has-append base f.more.0 y) ∙ ap (λ xs. has xs y) (sym f.more.1) ∙ found-same y
      ∙ or_right _ _ m)) [
        | inl b ↦ absurd
            (true≢false
            (sym (sym (listed y) ∙ b) ∙ (member-undone r (marked free) order request y m).0))
        | inr n ↦ n
      ]

  pub new-is : (y : ℕ) → has f.more.0 y ≡ has (members r (marked free) order request) y
  new-is y
      = same-tests _ _
      (λ h. there h
      (or_cases _ _
      (sym (found-same y) ∙ ap (λ xs. has xs y) f.more.1 ∙ has-append base f.more.0 y
      ∙ or_right _ _ h))) (members-new y)
    where
      there : has f.more.0 y ≡ true
          → (has order y ≡ true) ⊎ (has (members r (marked free) order request) y ≡ true)
          → has (members r (marked free) order request) y ≡ true
      there h (inl d) = absurd (true≢false (sym (listed y ∙ d) ∙ f.more.2 y h))
      there h (inr m) = m

  -- the new ones in rising order are the group's members
  pub sorted-members : (sorted : List ℕ) → Rises sorted → ((y : ℕ) → has sorted y ≡ has f.more.0 y)
      → sorted ≡ members r (marked free) order request
  sorted-members sorted up same =
      rises-same sorted (members r (marked free) order request) up
      (rises-from _ (members-rising r free order request)) (λ y. same y ∙ new-is y)

  -- and all that was found is listed, where the group has all its members
  pub all-listed : ((y : ℕ) → has (members r (marked free) order request) y ≡ true
      → has (group r (marked free) order request) y ≡ true)
      → (y : ℕ) → has found y ≡ has (with_group r (marked free) order request) y
  all-listed all y =
      found-same y
      ∙ ap (λ b. has order y || b)
      (same-tests _ _ (all y) (least-members r (members r (marked free) order request) y))
      ∙ sym (has-append order (group r (marked free) order request) y)

  pub group-in : (y : ℕ) → has (with_group r (marked free) order request) y ≡ true
      → has (marked free) y ≡ true
  group-in y h =
      elim (or_cases _ _ (sym (has-append order (group r (marked free) order request) y) ∙ h)) [
        | inl d ↦ within y d
        | inr g ↦ (member-undone r (marked free) order request y
            (least-members r (members r (marked free) order request) y g)).1
      ]
