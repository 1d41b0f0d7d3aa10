-- What the tests of a plan say together, and where cycles lie.
use Rattle.std.proofs.Common.{◌≡◌, ℕ, zero, suc, ◌<◌, Bool, true, false, cond, eqb, List, [], ◌∷◌}
use Rattle.std.proofs.Common.{◌++◌, length, map, Option, Some, None, refl, sym, ap, ◌∙◌, subst, inl}
use Rattle.std.proofs.Common.{inr, arith}
use Rattle.std.specs.Prelude.{All, ◌⊎◌, nat_eq, not}
use Rattle.std.specs.List.{find}
use Rattle.std.specs.Option.{option_map}
use Rattle.std.proofs.lemmas.Bool.{true≢false, or_cases, eqb-true}
use Rattle.km_names.specs.First.{first}
use Rattle.relation_order.specs.Sets.{Relation, has, below, marked}
use Rattle.relation_order.specs.Reached.{reached}
use Rattle.relation_order.specs.Cycle.{cycle, cycle_at, way_to, next, is_nearest}
use Rattle.relation_order.proofs.LeastLaws.{find-some}
use Rattle.relation_order.proofs.Lists.{has-marked, seen-inside, range-has}
use Rattle.relation_order.proofs.PlaceSteps.{all-within}
use Rattle.relation_order.proofs.Saturation.{kept}
use Rattle.relation_order.proofs.SpreadLaws.{spread-within}
use Rattle.relation_order.specs.Answer.{Closes}
use Rattle.index_format.specs.Listing.{KeyValue}
use Rattle.name_table.specs.FirstSeen.{is_among}
use Rattle.plan_order.specs.Plan.{planned, needs, requested}
use Rattle.plan_order.specs.Answer.{IsAnswer}
use Rattle.plan_order.specs.declared.plan.GroupedOrder.{GroupedOrder}
use Rattle.plan_order.specs.declared.plan.PlanOrCycle.{PlanOrCycle}
use Rattle.plan_order.specs.declared.plan.PlanOrCycle.TheVariants as answers
use Rattle.plan_builder.specs.declared.obstacle.Obstacle.{Obstacle}
use Rattle.plan_builder.specs.declared.obstacle.Obstacle.TheVariants.{Cycle}
use Rattle.dependency_lines.specs.Modules.{name_at}
use Rattle.plan_sources.specs.Sources.{Sources, modules}
use Rattle.planned_modules.specs.Needs.{unloaded}
use Rattle.plan_builder.specs.Obstacles.{as_obstacle, cycle_obstacle}
use Rattle.plan_builder.specs.Answers.{ShortCycle, IsCycleOf}

pub first-none : {F : Type 0} (xs ys : List (Option F)) → first xs ≡ None
    → first (xs ++ ys) ≡ first ys
first-none [] ys e = refl
first-none (None ∷ xs) ys e = first-none xs ys e
first-none (Some x ∷ xs) ys e = absurd (let bad = e in cc)

pub first-some : {F G : Type 0} (f : F → G) (xs ys : List (Option F)) (x : G)
    → option_map f (first xs) ≡ Some x → option_map f (first (xs ++ ys)) ≡ Some x
first-some f [] ys x e = absurd (let bad = e in cc)
first-some f (None ∷ xs) ys x e = first-some f xs ys x e
first-some f (Some y ∷ xs) ys x e = e

pub first-here : {F G : Type 0} (f : F → G) (t : Option F) (ts : List (Option F)) (x : G)
    → option_map f t ≡ Some x → option_map f (first (t ∷ ts)) ≡ Some x
first-here f None ts x e = absurd (let bad = e in cc)
first-here f (Some y) ts x e = e

module _ (r : Relation) (set : List ℕ) where
  way-inside : (goal k : ℕ) (from : Option ℕ) → ((x : ℕ) → from ≡ Some x → has set x ≡ true)
      → (y : ℕ) → has (way_to r set goal k from) y ≡ true → has set y ≡ true
  way-inside goal zero from inside y h = absurd (true≢false (sym h))
  way-inside goal (suc k) None inside y h = absurd (true≢false (sym h))
  way-inside goal (suc k) (Some x) inside y h =
      go (nat_eq x goal)
      (way-inside goal k (next r set goal x)
      (λ z e. (find-some (is_nearest r set goal x) set z e).0) y) h
    where
      go : (b : Bool) → (has (way_to r set goal k (next r set goal x)) y ≡ true → has set y ≡ true)
          → has (cond b [] (x ∷ way_to r set goal k (next r set goal x))) y ≡ true
          → has set y ≡ true
      go true rest h = absurd (true≢false (sym h))
      go false rest h =
          elim (or_cases (eqb y x) (has (way_to r set goal k (next r set goal x)) y) h) [
            | inl s ↦ ap (has set) (eqb-true y x s) ∙ inside x refl
            | inr m ↦ rest m
          ]

  at-inside : (from : Option ℕ) → ((x : ℕ) → from ≡ Some x → has set x ≡ true) → (y : ℕ)
      → has (cycle_at r set from) y ≡ true → has set y ≡ true
  at-inside None inside y h = absurd (true≢false (sym h))
  at-inside (Some x) inside y h = either (or_cases _ _ h)
    where
      either : (eqb y x ≡ true) ⊎ (has (way_to r set x (length set) (next r set x x)) y ≡ true)
          → has set y ≡ true
      either (inl s) = ap (has set) (eqb-true y x s) ∙ inside x refl
      either (inr m)
          = way-inside x (length set) (next r set x x)
          (λ z e. (find-some (is_nearest r set x x) set z e).0) y m

  -- a cycle lies in the set
  pub cycle-inside : (y : ℕ) → has (cycle r set) y ≡ true → has set y ≡ true
  unfolding cycle
  cycle-inside
      = at-inside (find (λ x. has (reached r set x) x) set)
      (λ x e. (find-some (λ x. has (reached r set x) x) set x e).0)

pub marked-inside : (marks : List Bool) (n : ℕ) → length marks ≡ n → All (λ y. y < n) (marked marks)
marked-inside marks n long =
    all-within n (marked marks)
    (λ y h. let l
    = seen-inside marks y (sym (has-marked marks y) ∙ h) in omega (arith, l, long))

module _ (ms : List KeyValue) (r : Relation) (set : List ℕ) (post : ℕ → List ℕ)
    (requests : List (List ℕ)) where
  -- the cycle that is answered is the obstacle
  pub cycle-answer : (a : PlanOrCycle) (o : Obstacle) → IsAnswer r set post requests a
      → IsCycleOf ms a o
      → option_map as_obstacle
      (cycle_obstacle (map (name_at ms) (cycle r (planned r set post requests))))
      ≡ Some o
  cycle-answer (answers.Plan order) o is c = absurd c
  cycle-answer (answers.Cycle found) o is c
      = ap (λ xs. option_map as_obstacle (cycle_obstacle (map (name_at ms) xs))) (sym is.0)
      ∙ go found.items is.1 ∙ ap (λ x. Some x) (sym c)
    where
      go : (xs : List ℕ) → Closes r xs
          → option_map as_obstacle (cycle_obstacle (map (name_at ms) xs))
          ≡ Some (Cycle (map (name_at ms) xs))
      go [] closes = absurd closes
      go (x ∷ xs) closes = refl

  pub plan-answer : (a : PlanOrCycle) (order : GroupedOrder) → IsAnswer r set post requests a
      → a ≡ answers.Plan order
      → cycle_obstacle (map (name_at ms) (cycle r (planned r set post requests))) ≡ None
  plan-answer a order is e
      = ap (λ xs. cycle_obstacle (map (name_at ms) xs))
      (subst (IsAnswer r set post requests) e is).0

  pub short-answer : (n : ℕ) (a : PlanOrCycle) → ((y : ℕ) → has set y ≡ true → y < n)
      → IsAnswer r set post requests a → ShortCycle n a
  short-answer n (answers.Plan order) low is = tt
  short-answer n (answers.Cycle found) low is =
      all-within n found.items
      (λ y h. low y
      (spread-within (needs r post) set (requested requests) y
      (cycle-inside r (planned r set post requests) y
      (ap (λ xs. has xs y) (sym is.0) ∙ h))))

pub unloaded-low : (s : Sources) (y : ℕ) → has (unloaded s) y ≡ true → y < length (modules s)
unloaded-low s y h =
    let w
    = kept (λ x. not (is_among s.loaded (name_at (modules s) x))) (below (length (modules s))) y
    h in
    let l = range-has 0 (length (modules s)) y w.1 in
    omega arith
