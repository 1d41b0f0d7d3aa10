-- A component that is finished, item by item.
use Rattle.std.proofs.Common.{◌≡◌, ℕ, ◌+◌, ◌-◌, ◌<◌, ◌≤◌, Bool, true, false, List, length, get_or}
use Rattle.std.proofs.Common.{set, take, drop, refl, sym, ap, ◌∙◌, inl, inr, arith}
use Rattle.std.specs.Prelude.{◌||◌}
use Rattle.std.proofs.lemmas.Bool.{cases_eq}
use Rattle.std.proofs.lemmas.List.{get_or-set_same, get_or-set_other, get_or-take, get_or-drop}
use Rattle.relation_order.specs.Sets.{Relation}
use Rattle.relation_order.specs.Components.{state_of}
use Rattle.relation_order.specs.declared.components.State.{State}
use Rattle.relation_order.specs.declared.components.State.TheVariants.{New, Done}

-- an item of the rest of a list
pub rest-at : (xs : List ℕ) (from i : ℕ) → i < length xs - from
    → get_or (take (length xs - from) (drop from xs)) i 0 ≡ get_or xs (from + i) 0
rest-at xs from i low =
    get_or-take (length xs - from) (drop from xs) i 0 low ∙ get_or-drop from xs i 0

pub first-true : (a b : Bool) → a ≡ true → a ≡ (a || b)
first-true true b is = refl
first-true false b is = cc

pub first-false : (a b : Bool) → a ≡ false → b ≡ (a || b)
first-false true b is = cc
first-false false b is = refl

module _ (r : Relation) (many b : Bool) (states : List State) (stack : List ℕ) (from i x : ℕ)
    (at : x ≡ get_or stack (from + i) 0) (inside : x < length states) (is : b ≡ (many || r x x))
  where
    pub finished-more :
        ((p : ℕ) → from ≤ p → p < from + i
        → state_of states (get_or stack p 0)
        ≡ Done (many || r (get_or stack p 0) (get_or stack p 0)))
        → (p : ℕ) → from ≤ p → p < from + (i + 1)
        → state_of (set states x (Done b)) (get_or stack p 0)
        ≡ Done (many || r (get_or stack p 0) (get_or stack p 0))
    finished-more before p above low =
        elim (cases_eq (get_or stack p 0) x) [
          | inl same ↦ ap (state_of (set states x (Done b))) same
              ∙ get_or-set_same states x (Done b) New inside
              ∙ ap Done (is ∙ ap (λ y. many || r y y) (sym same))
          | inr other ↦
              get_or-set_other states x (get_or stack p 0) (Done b) New other
              ∙ elim (cases_eq p (from + i)) [
                | inl here ↦ absurd (other (ap (λ q. get_or stack q 0) here ∙ sym at))
                | inr apart ↦ before p above (omega arith)
              ]
        ]

    pub rest-same : (old : List State) → from + i < length stack
        → ((y : ℕ) → ((p : ℕ) → from ≤ p → p < length stack → get_or stack p 0 ≡ y → ⊥)
        → state_of states y ≡ state_of old y)
        → (y : ℕ) → ((p : ℕ) → from ≤ p → p < length stack → get_or stack p 0 ≡ y → ⊥)
        → state_of (set states x (Done b)) y ≡ state_of old y
    rest-same old within before y none =
        get_or-set_other states x y (Done b) New
        (λ same. none (from + i) (omega arith) within (sym at ∙ sym same))
        ∙ before y none
