-- A plan's modules are distinct members of the set, each after all that come before it; this asks
-- for no absence of cycles.
use Rattle.std.proofs.Common.{◌≡◌, ℕ, ◌≤◌, true, eqb, List, [], ◌∷◌, ◌++◌, length, sym, refl, ap}
use Rattle.std.proofs.Common.{◌∙◌, inl, inr, arith}
use Rattle.std.specs.Prelude.{filter}
use Rattle.std.specs.List.{IsDistinct}
use Rattle.std.specs.Cmp.{nat_eq_equiv}
use Rattle.std.proofs.lemmas.Bool.{true≢false, cases_lt, or_cases, or_left, or_right, eqb-true}
use Rattle.std.proofs.lemmas.Bool.{eq-eqb}
use Rattle.std.proofs.lemmas.List.{length-append, take-append-le}
use Rattle.std.proofs.lemmas.List.Sums.{length-filter, count_by-le-length}
use Rattle.std.proofs.lemmas.Map.Keys.{IsDistinct-push}
use Rattle.std.proofs.Math.Seq.{take-append_seam, get_or-append_seam}
use Rattle.std.proofs.Math.ListN.{get_or-append}
use Rattle.relation_order.specs.Sets.{Relation, has}
use Rattle.relation_order.specs.Placing.{Ready, Closed}
use Rattle.relation_order.proofs.Saturation.{filter-weaker, keeps, kept}
use Rattle.relation_order.proofs.LeastLaws.{push-has, After, closed-more}
use Rattle.plan_order.specs.Plan.{plan}
use Rattle.plan_order.proofs.PlanKeeps.{plan-keeps}

module _ (r : Relation) (set : List ℕ) where
  pub member-more : (listed : List ℕ) (x : ℕ) → ((y : ℕ) → has listed y ≡ true → has set y ≡ true)
      → Ready r set listed x → (y : ℕ) → has (listed ++ x ∷ []) y ≡ true → has set y ≡ true
  member-more listed x all w y h =
      elim (or_cases (has listed y) (eqb y x) (sym (push-has listed x y) ∙ h)) [
        | inl m ↦ all y m
        | inr s ↦ ap (has set) (eqb-true y x s) ∙ w.member
      ]

  pub after-more : (listed : List ℕ) (x : ℕ) → After r set listed → Ready r set listed x
      → After r set (listed ++ x ∷ [])
  after-more listed x all w i l y m t =
      elim (cases_lt i (length listed)) [
        | inl low ↦ rw (take-append-le i listed (x ∷ []) (omega arith))
            (all i low y m (ap (λ v. r v y) (sym (get_or-append listed (x ∷ []) 0 i low)) ∙ t))
        | inr high ↦
            let e : i ≡ length listed = omega (arith, length-append {A = ℕ}) in
            rw e (rw (take-append_seam listed (x ∷ []))
            (w.goals y m
            (ap (λ v. r v y) (sym (get_or-append_seam listed x [] 0)) ∙ rw e at t)))
      ]

  -- no more are listed than the set has members
  abbrev pub Few : List ℕ → Type 0
  Few listed = length listed ≤ length (filter (has listed) set)

  pub few-more : (listed : List ℕ) (x : ℕ) → Few listed → Ready r set listed x
      → Few (listed ++ x ∷ [])
  few-more listed x few w =
      elim (filter-weaker (has listed) (has (listed ++ x ∷ []))
      (λ z h. push-has listed x z ∙ or_left _ _ h) set) [
        | inr l ↦ omega (arith, length-append {A = ℕ})
        | inl e ↦ absurd
            (true≢false (sym (kept (has listed) set x
            (ap (λ xs. has xs x) e
            ∙ keeps (has (listed ++ x ∷ [])) set x
            (push-has listed x x ∙ or_right _ _ (eq-eqb x x refl)) w.member)).0
            ∙ w.fresh))
      ]

  pub few-length : (listed : List ℕ) → Few listed → length listed ≤ length set
  few-length listed few
      = omega (arith, length-filter (has listed) set, count_by-le-length (has listed) set)

  module _ (post : ℕ → List ℕ) (requests : List (List ℕ)) where
    pub plan-members : (x : ℕ) → has (plan r set post requests) x ≡ true → has set x ≡ true
    plan-members
        = plan-keeps r set (λ listed. (x : ℕ) → has listed x ≡ true → has set x ≡ true) member-more
        post requests (λ x h. absurd (true≢false (sym h)))

    pub plan-distinct : IsDistinct eqb (plan r set post requests)
    unfolding IsDistinct
    plan-distinct
        = plan-keeps r set (IsDistinct eqb)
        (λ listed x d w. IsDistinct-push nat_eq_equiv listed x d w.fresh) post requests tt

    pub plan-after : After r set (plan r set post requests)
    plan-after
        = plan-keeps r set (After r set) after-more post requests (λ i l. absurd (omega arith))

    pub plan-closed : Closed r set (plan r set post requests)
    plan-closed
        = plan-keeps r set (Closed r set) (closed-more r set) post requests
        (λ x y h m t. absurd (true≢false (sym h)))

    pub plan-length : length (plan r set post requests) ≤ length set
    plan-length
        = few-length (plan r set post requests)
        (plan-keeps r set Few few-more post requests (omega arith))
