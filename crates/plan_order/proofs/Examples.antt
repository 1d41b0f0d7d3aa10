-- The definitions at small relations, computed.
use Rattle.std.proofs.Common.{◌≡◌, ◌||◌, ℕ, List, [], ◌∷◌, refl, cond}
use Rattle.std.specs.Prelude.{◌&&◌, nat_eq}
use Rattle.relation_order.specs.Sets.{Relation, below}
use Rattle.relation_order.specs.Reached.{reached}
use Rattle.relation_order.specs.Spread.{spread}
use Rattle.relation_order.specs.Least.{least_order}
use Rattle.relation_order.specs.Cycle.{cycle}
use Rattle.plan_order.specs.Plan.{plan, planned}
use Rattle.plan_order.specs.Queue.{queued}

-- avail is 0, late 1, m 2, zed 3
abbrev twelve : Relation
twelve x y = nat_eq x 2 && (nat_eq y 0 || nat_eq y 1)

abbrev twelve_post : ℕ → List ℕ
twelve_post x = cond (nat_eq x 2) (1 ∷ 3 ∷ []) []

plan-twelve : plan twelve (below 4) twelve_post ((2 ∷ []) ∷ []) ≡ 0 ∷ 1 ∷ 2 ∷ 3 ∷ []
unfolding plan spread least_order
plan-twelve = refl

planned-twelve : planned twelve (below 4) twelve_post ((2 ∷ []) ∷ []) ≡ 0 ∷ 1 ∷ 2 ∷ 3 ∷ []
unfolding spread
planned-twelve = refl

no-cycle-twelve : cycle twelve (planned twelve (below 4) twelve_post ((2 ∷ []) ∷ [])) ≡ []
unfolding spread cycle reached
no-cycle-twelve = refl

queued-twelve : queued twelve (below 4) twelve_post 10 [] ((2 ∷ []) ∷ []) ≡ 0 ∷ 1 ∷ 2 ∷ 3 ∷ []
unfolding spread least_order
queued-twelve = refl

-- a pre-softdep each way: a is 0, b 1
abbrev thirteen : Relation
thirteen x y = (nat_eq x 0 && nat_eq y 1) || (nat_eq x 1 && nat_eq y 0)

cycle-thirteen : cycle thirteen (planned thirteen (below 2) (λ _. []) ((0 ∷ []) ∷ [])) ≡ 0 ∷ 1 ∷ []
unfolding spread cycle reached
cycle-thirteen = refl

-- with late loaded it isn't planned
plan-loaded : plan twelve (0 ∷ 2 ∷ 3 ∷ []) twelve_post ((2 ∷ []) ∷ []) ≡ 0 ∷ 2 ∷ 3 ∷ []
unfolding plan spread least_order
plan-loaded = refl

-- a post-softdep of a greater number, whose own need is asked for later: 3 has post 0, 0 needs 2
-- and has post 1
abbrev later : Relation
later x y = nat_eq x 0 && nat_eq y 2

abbrev later_post : ℕ → List ℕ
later_post x = cond (nat_eq x 3) (0 ∷ []) (cond (nat_eq x 0) (1 ∷ 3 ∷ []) [])

plan-later : plan later (below 5) later_post ((3 ∷ []) ∷ (4 ∷ []) ∷ []) ≡ 3 ∷ 4 ∷ 2 ∷ 0 ∷ 1 ∷ []
unfolding plan spread least_order
plan-later = refl
