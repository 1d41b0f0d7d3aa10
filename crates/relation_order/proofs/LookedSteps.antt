-- How far the list of an item was looked at, before and after its next place is found.
use Rattle.std.proofs.Common.{◌≡◌, ℕ, ◌<◌, ◌≤◌, Bool, List, length, get_or, take, set, sym, ap, ◌∙◌}
use Rattle.std.proofs.Common.{subst}
use Rattle.std.specs.Prelude.{All, slice_index}
use Rattle.std.specs.Global.{Vec}
use Rattle.std.proofs.lemmas.List.{get_or_default}
use Rattle.relation_order.specs.Sets.{successors}
use Rattle.relation_order.specs.Builder.{AllListed}
use Rattle.relation_order.specs.Search.{Inside}
use Rattle.relation_order.proofs.PlaceSteps.{successors-at, looked-set}

module _ (lists : List (Vec ℕ)) (members listed shown : List Bool) (looked : List ℕ) (item : ℕ)
    (v : Vec ℕ) (targets : List ℕ) (low : item < length lists) (place : item < length looked)
    (at-item : v ≡ get_or lists item v) (are : targets ≡ v.items) (same : shown ≡ listed)
    (within : (x : ℕ) → slice_index looked x ≤ length (successors lists x))
    (front : (x : ℕ) → AllListed members listed (take (slice_index looked x) (successors lists x)))
  where
    targets-are : targets ≡ successors lists item
    targets-are = are ∙ sym (successors-at lists item v low at-item)

    pub targets-inside : (n : ℕ) → Inside n lists → All (λ y. y < n) targets
    targets-inside n inside
        = subst (All (λ y. y < n)) (sym (are ∙ ap (λ (u : Vec ℕ). u.items) at-item))
        (inside item v low)

    pub looked-here : (from : ℕ) → from ≡ get_or looked item from → from ≤ length targets
    looked-here from is =
        let here : slice_index looked item ≡ from
        = get_or_default looked item 0 from place ∙ sym is in
        subst (λ ts. from ≤ length ts) (sym targets-are)
        (subst (λ n. n ≤ length (successors lists item)) here (within item))

    pub front-here : (from : ℕ) → from ≡ get_or looked item from
        → AllListed members shown (take from targets)
    front-here from is =
        let here : slice_index looked item ≡ from
        = get_or_default looked item 0 from place ∙ sym is in
        subst (λ bs. AllListed members bs (take from targets)) (sym same)
        (subst (λ ts. AllListed members listed (take from ts)) (sym targets-are)
        (subst (λ n. AllListed members listed (take n (successors lists item))) here (front item)))

    pub looked-next : (at : ℕ) → at ≤ length targets → AllListed members shown (take at targets)
        → (x : ℕ)
        → (slice_index (set looked item at) x ≤ length (successors lists x))
        × AllListed members listed
        (take (slice_index (set looked item at) x) (successors lists x))
    looked-next at few all =
        looked-set lists members listed looked item at place
        (subst (λ ts. at ≤ length ts) targets-are few)
        (subst (λ ts. AllListed members listed (take at ts)) targets-are
        (subst (λ bs. AllListed members bs (take at targets)) same all))
        (λ x. (within x, front x))
