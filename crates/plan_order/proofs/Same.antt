-- Relations that are the same on what is planned give the same plan and the same cycle.
use Rattle.std.proofs.Common.{◌≡◌, ℕ, zero, suc, Bool, true, cond, List, [], ◌∷◌, ◌++◌, length}
use Rattle.std.proofs.Common.{Option, Some, None, sym, refl, ap, ◌∙◌}
use Rattle.std.specs.Prelude.{◌||◌, ◌&&◌, not, nat_le, nat_eq, filter}
use Rattle.std.specs.List.{list_any, list_all, find, position_or_len}
use Rattle.std.specs.Option.{option_to_list}
use Rattle.std.proofs.Math.Path.{fun_ext}
use Rattle.std.proofs.lemmas.Bool.{or_left, or_right}
use Rattle.relation_order.specs.Sets.{Relation, has, below, times}
use Rattle.relation_order.specs.Reached.{reached}
use Rattle.relation_order.specs.Spread.{spread}
use Rattle.relation_order.specs.Least.{is_ready, with_next, least_order}
use Rattle.relation_order.specs.Cycle.{cycle, cycle_at, way_to, next, near, is_near, is_nearest}
use Rattle.relation_order.specs.Cycle.{distance}
use Rattle.relation_order.proofs.Saturation.{filter-same}
use Rattle.relation_order.proofs.SpreadLaws.{spread-first, spread-further, spread-only}
use Rattle.relation_order.proofs.SpreadLaws.{spread-members, reached-spread}
use Rattle.relation_order.proofs.LeastLaws.{find-some}
use Rattle.relation_order.proofs.Restricted.{same-tests}
use Rattle.plan_order.specs.Plan.{requested, needs, planned, undone, members, with_group}
use Rattle.plan_order.specs.Plan.{with_groups, singles, post_at, plan_after, plan}
use Rattle.plan_order.proofs.Lists.{find-same}
use Rattle.plan_order.proofs.PlanKeeps.{undone-is}
use Rattle.plan_order.proofs.Complete.{planned-before, planned-asked, planned-post, after-within}

-- The relations are the same from the members of a set.
abbrev pub Alike : List ℕ → Relation → Relation → Type 0
Alike part r q = (x : ℕ) → has part x ≡ true → r x ≡ q x

pub alike-back : (part : List ℕ) (r q : Relation) → Alike part r q → Alike part q r
alike-back part r q same x h = sym (same x h)

-- ---- what is spread to

module _ (r q : Relation) (set part : List ℕ) (start : ℕ → Bool) (same : Alike part r q)
    (first : (y : ℕ) → has set y ≡ true → start y ≡ true → has part y ≡ true)
    (closed : (x y : ℕ) → has part x ≡ true → has set y ≡ true → r x y ≡ true → has part y ≡ true)
  where
    spread-there : (y : ℕ) → has (spread r set start) y ≡ true
        → (has part y ≡ true) × (has (spread q set start) y ≡ true)
    spread-there =
        spread-only r set start (λ y. (has part y ≡ true) × (has (spread q set start) y ≡ true))
        (λ y m t. (first y m t, spread-first q set start y t m))
        (λ x y w m t. (
          closed x y w.0 m t,
          spread-further q set start x y w.1 (ap (λ f. f y) (sym (same x w.0)) ∙ t) m,
        ))

    spread-back : (y : ℕ) → has (spread q set start) y ≡ true
        → (has part y ≡ true) × (has (spread r set start) y ≡ true)
    spread-back =
        spread-only q set start (λ y. (has part y ≡ true) × (has (spread r set start) y ≡ true))
        (λ y m t. (first y m t, spread-first r set start y t m))
        (λ x y w m t.
        let t' : r x y ≡ true = ap (λ f. f y) (same x w.0) ∙ t in
        (closed x y w.0 m t', spread-further r set start x y w.1 t' m))

    pub spread-same : spread r set start ≡ spread q set start
    spread-same =
        spread-members r set start
        ∙ filter-same (has (spread r set start)) (has (spread q set start)) set
        (λ y m. same-tests _ _ (λ h. (spread-there y h).1) (λ h. (spread-back y h).1))
        ∙ sym (spread-members q set start)

-- ---- the least order and the cycle of a set

module _ (r q : Relation) (set : List ℕ) (same : Alike set r q) where
  next-same : (listed : List ℕ) → with_next r set listed ≡ with_next q set listed
  next-same listed =
      ap (λ o. listed ++ option_to_list o)
      (find-same (is_ready r set listed) (is_ready q set listed) set
      (λ x h. ap (λ f. not (has listed x) && list_all (λ y. not (f y) || has listed y) set)
      (same x h)))

  times-same : (k : ℕ) → times k (with_next r set) [] ≡ times k (with_next q set) []
  times-same zero = refl
  times-same (suc k)
      = ap (with_next r set) (times-same k) ∙ next-same (times k (with_next q set) [])

  pub least-same : least_order r set ≡ least_order q set
  unfolding least_order
  least-same = times-same (length set)

  pub reached-same : (x : ℕ) → has set x ≡ true → reached r set x ≡ reached q set x
  reached-same x h =
      reached-spread r set x ∙ ap (spread r set) (same x h)
      ∙ spread-same r q set set (q x) same (λ y m t. m) (λ x y w m t. m)
      ∙ sym (reached-spread q set x)

  near-same : (goal k : ℕ) → near r set goal k ≡ near q set goal k
  near-same goal zero = refl
  near-same goal (suc k) =
      ap (λ found. filter (is_near r goal found) set) (near-same goal k)
      ∙ filter-same (is_near r goal (near q set goal k)) (is_near q goal (near q set goal k)) set
      (λ x h. ap (λ f. nat_eq x goal || list_any f (near q set goal k)) (same x h))

  distance-same : (goal : ℕ) → distance r set goal ≡ distance q set goal
  distance-same goal
      = fun_ext (λ x. ap (λ f. position_or_len f (below (length set)))
      (fun_ext (λ k. ap (λ xs. has xs x) (near-same goal (suc k)))))

  nearest-same : (goal x : ℕ) → has set x ≡ true → next r set goal x ≡ next q set goal x
  nearest-same goal x h =
      ap (λ f. find (λ y. f y
      && list_all (λ z. not (f z) || nat_le (distance r set goal y) (distance r set goal z))
      set) set) (same x h)
      ∙ ap (λ d. find (λ y. q x y && list_all (λ z. not (q x z) || nat_le (d y) (d z)) set) set)
      (distance-same goal)

  way-same : (goal k : ℕ) (from : Option ℕ) → ((x : ℕ) → from ≡ Some x → has set x ≡ true)
      → way_to r set goal k from ≡ way_to q set goal k from
  way-same goal zero from inside = refl
  way-same goal (suc k) None inside = refl
  way-same goal (suc k) (Some x) inside =
      ap (λ xs. cond (nat_eq x goal) [] (x ∷ xs))
      (way-same goal k (next r set goal x) (λ y e. (find-some (is_nearest r set goal x) set y e).0)
      ∙ ap (way_to q set goal k) (nearest-same goal x (inside x refl)))

  at-same : (first : Option ℕ) → ((x : ℕ) → first ≡ Some x → has set x ≡ true)
      → cycle_at r set first ≡ cycle_at q set first
  at-same None inside = refl
  at-same (Some x) inside =
      ap (λ xs. x ∷ xs)
      (way-same x (length set) (next r set x x)
      (λ y e. (find-some (is_nearest r set x x) set y e).0)
      ∙ ap (way_to q set x (length set)) (nearest-same x x (inside x refl)))

  pub cycle-same : cycle r set ≡ cycle q set
  unfolding cycle
  cycle-same =
      at-same (find (λ x. has (reached r set x) x) set)
      (λ x e. (find-some (λ x. has (reached r set x) x) set x e).0)
      ∙ ap (cycle_at q set)
      (find-same (λ x. has (reached r set x) x) (λ x. has (reached q set x) x) set
      (λ x h. ap (λ xs. has xs x) (reached-same x h)))

-- ---- plans

module _ (r q : Relation) (set : List ℕ) (post other : ℕ → List ℕ) (requests : List (List ℕ))
    (same : Alike (planned r set post requests) r q)
    (after : (x : ℕ) → has (planned r set post requests) x ≡ true → post x ≡ other x) where
  needs-same : Alike (planned r set post requests) (needs r post) (needs q other)
  needs-same x h
      = fun_ext (λ y. ap (λ f. f y || has (post x) y) (same x h)
      ∙ ap (λ ys. q x y || has ys y) (after x h))

  pub planned-same : planned r set post requests ≡ planned q set other requests
  planned-same =
      spread-same (needs r post) (needs q other) set (planned r set post requests)
      (requested requests) needs-same
      (λ y m t. spread-first (needs r post) set (requested requests) y t m)
      (λ x y h m t. spread-further (needs r post) set (requested requests) x y h t m)

  group-same : (done request : List ℕ)
      → ((y : ℕ) → has set y ≡ true → has request y ≡ true
      → has (planned r set post requests) y ≡ true)
      → with_group r set done request ≡ with_group q set done request
  group-same done request asked =
      let part = planned r set post requests in
      let mine : members r set done request ≡ members q set done request =
      spread-same r q (undone set done) (planned r set post requests) (has request) same
      (λ y m t. asked y (undone-is r set done y m).1 t)
      (λ x y h m t. planned-before r set post requests x y h (undone-is r set done y m).1 t) in
      ap (λ xs. done ++ xs)
      (least-same r q (members r set done request) (λ x h. same x (member x h))
      ∙ ap (least_order q) mine)
    where
      member : (x : ℕ) → has (members r set done request) x ≡ true
          → has (planned r set post requests) x ≡ true
      member =
          spread-only r (undone set done) (has request)
          (λ y. has (planned r set post requests) y ≡ true)
          (λ y m t. asked y (undone-is r set done y m).1 t)
          (λ x y h m t. planned-before r set post requests x y h (undone-is r set done y m).1 t)

  pub groups-same : (done : List ℕ) (more : List (List ℕ))
      → ((y : ℕ) → has set y ≡ true → requested more y ≡ true
      → has (planned r set post requests) y ≡ true)
      → with_groups r set done more ≡ with_groups q set done more
  groups-same done [] asked = refl
  groups-same done (request ∷ more) asked =
      groups-same (with_group r set done request) more (λ y m t. asked y m (or_right _ _ t))
      ∙ ap (λ xs. with_groups q set xs more)
      (group-same done request (λ y m t. asked y m (or_left _ _ t)))

  posts-same : (xs : List ℕ)
      → ((x : ℕ) → has xs x ≡ true → has (planned r set post requests) x ≡ true) → (k : ℕ)
      → post_at post xs k ≡ post_at other xs k
  posts-same [] inside k = refl
  posts-same (x ∷ xs) inside zero
      = after x (inside x (or_left _ _ (Rattle.std.proofs.lemmas.Bool.eq-eqb x x refl)))
  posts-same (x ∷ xs) inside (suc k) = posts-same xs (λ y h. inside y (or_right _ _ h)) k

  after-same : (k : ℕ) → plan_after r set post requests k ≡ plan_after q set other requests k
  after-same zero = groups-same [] requests (planned-asked r set post requests)
  after-same (suc k) =
      let done = plan_after r set post requests k in
      groups-same (plan_after r set post requests k)
      (singles (post_at post (plan_after r set post requests k) k))
      (planned-post r set post requests (plan_after r set post requests k)
      (after-within r set post requests k) k)
      ∙ ap (λ ys. with_groups q set (plan_after r set post requests k) (singles ys))
      (posts-same (plan_after r set post requests k) (after-within r set post requests k) k)
      ∙ ap (λ xs. with_groups q set xs (singles (post_at other xs k))) (after-same k)

  pub plan-same : plan r set post requests ≡ plan q set other requests
  unfolding plan
  plan-same = after-same (length set)
