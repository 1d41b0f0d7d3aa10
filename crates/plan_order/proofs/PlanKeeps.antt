-- A plan is made by adding ready modules, one after another.
use Rattle.std.proofs.Common.{◌≡◌, ℕ, zero, suc, true, false, List, [], ◌∷◌, ◌++◌, length, sym, ap}
use Rattle.std.proofs.Common.{◌∙◌, subst, inl, inr}
use Rattle.std.specs.Prelude.{◌||◌, ◌⊎◌, not}
use Rattle.std.proofs.lemmas.Bool.{cases_Bool, or_left, or_right, not-true, not_from_false}
use Rattle.std.proofs.lemmas.List.{append-nil, append_assoc}
use Rattle.std.proofs.lemmas.List.Folds.{list_any-append}
use Rattle.relation_order.specs.Sets.{Relation, has}
use Rattle.relation_order.specs.Placing.{Ready}
use Rattle.relation_order.proofs.Saturation.{kept, keeps}
use Rattle.relation_order.proofs.SpreadLaws.{spread-within, spread-further}
use Rattle.relation_order.proofs.LeastLaws.{least-keeps}
use Rattle.plan_order.specs.Plan.{undone, members, with_group, with_groups, singles, post_at}
use Rattle.plan_order.specs.Plan.{plan_after, plan}

pub has-append : (xs ys : List ℕ) (y : ℕ) → has (xs ++ ys) y ≡ (has xs y || has ys y)
has-append xs ys y = list_any-append _ xs ys

module _ (r : Relation) (set : List ℕ) where
  pub undone-is : (done : List ℕ) (x : ℕ) → has (undone set done) x ≡ true
      → (has done x ≡ false) × (has set x ≡ true)
  undone-is done x h = let w = kept (λ y. not (has done y)) set x h in (not-true _ w.0, w.1)

  pub is-undone : (done : List ℕ) (x : ℕ) → has done x ≡ false → has set x ≡ true
      → has (undone set done) x ≡ true
  is-undone done x f m = keeps (λ y. not (has done y)) set x (not_from_false _ f) m

  -- what is ready in a group is ready in the set
  pub ready-more : (done request listed : List ℕ) (x : ℕ)
      → Ready r (members r set done request) listed x → Ready r set (done ++ listed) x
  ready-more done request listed x w =
      let u = undone-is done x (spread-within r (undone set done) (has request) x w.member) in
      record {
        member = u.1;
        fresh = has-append done listed x ∙ ap (λ b. b || has listed x) u.0 ∙ w.fresh;
        goals = λ y m t. has-append done listed y ∙ there y m t (cases_Bool (has done y));
      }
    where
      there : (y : ℕ) → has set y ≡ true → r x y ≡ true → (has done y ≡ true) ⊎ (has done y ≡ false)
          → (has done y || has listed y) ≡ true
      there y m t (inl d) = or_left _ _ d
      there y m t (inr f)
          = or_right _ _
          (w.goals y (spread-further r (undone set done) (has request) x y w.member t
          (is-undone done y f m)) t)

  module _ (P : List ℕ → Type 0)
      (more : (listed : List ℕ) (x : ℕ) → P listed → Ready r set listed x → P (listed ++ x ∷ []))
    where
      -- what each ready module that is added keeps, a group keeps
      pub group-keeps : (done request : List ℕ) → P done → P (with_group r set done request)
      group-keeps done request p =
          least-keeps r (members r set done request) (λ listed. P (done ++ listed))
          (subst P (sym (append-nil done)) p)
          (λ listed x q w. subst P (append_assoc done listed (x ∷ []))
          (more (done ++ listed) x q (ready-more done request listed x w)))

      pub groups-keep : (done : List ℕ) (requests : List (List ℕ)) → P done
          → P (with_groups r set done requests)
      groups-keep done [] p = p
      groups-keep done (request ∷ requests) p
          = groups-keep (with_group r set done request) requests (group-keeps done request p)

      pub plan_after-keeps : (post : ℕ → List ℕ) (requests : List (List ℕ)) (k : ℕ) → P []
          → P (plan_after r set post requests k)
      plan_after-keeps post requests zero p = groups-keep [] requests p
      plan_after-keeps post requests (suc k) p =
          groups-keep (plan_after r set post requests k)
          (singles (post_at post (plan_after r set post requests k) k))
          (plan_after-keeps post requests k p)

      pub plan-keeps : (post : ℕ → List ℕ) (requests : List (List ℕ)) → P []
          → P (plan r set post requests)
      unfolding plan
      plan-keeps post requests p = plan_after-keeps post requests (length set) p
