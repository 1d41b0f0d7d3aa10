-- The walk of a key, by what a node says of it.
use Rattle.std.proofs.Common.{◌≡◌, ap, ◌∙◌, ℕ, zero, suc, ◌+◌, ◌≤◌, true, false, cond, nat_eq, List}
use Rattle.std.proofs.Common.{[], ◌∷◌, length, drop, Some, None, arith}
use Rattle.std.specs.List.{starts_with}
use Rattle.index_format.specs.Node.{root, prefix, child}
use Rattle.index_format.specs.Walk.{Step, Ends, Enters, Lost, enters, onward, step, by_step}
use Rattle.index_format.specs.Walk.{through, walk_within, walk, visits}
use Rattle.index_format.proofs.WalkLemmas.{walk-step}

walk_by : (b : List ℕ) (link : ℕ) (key : List ℕ) (s : Step) → step b link key ≡ s
    → walk b link key
    ≡ by_step s (record { nodes = link ∷ []; reached = Some link })
    (λ next rest. through link (walk b next rest))
    (record { nodes = link ∷ []; reached = None })
walk_by b link key s e =
    walk-step b link key
    ∙ ap (λ t. by_step t (record { nodes = link ∷ []; reached = Some link })
    (λ next rest. through link (walk b next rest))
    (record { nodes = link ∷ []; reached = None })) e

pub walk_other : (b : List ℕ) (link : ℕ) (key : List ℕ)
    → starts_with nat_eq key (prefix b link) ≡ false
    → walk b link key ≡ record { nodes = link ∷ []; reached = None }
unfolding step
walk_other b link key h =
    walk_by b link key Lost
    (ap (λ t. cond t (onward b link (drop (length (prefix b link)) key)) Lost) h)

step_on : (b : List ℕ) (link : ℕ) (key after : List ℕ)
    → starts_with nat_eq key (prefix b link) ≡ true → drop (length (prefix b link)) key ≡ after
    → step b link key ≡ onward b link after
unfolding step
step_on b link key after h is =
    ap (λ t. cond t (onward b link (drop (length (prefix b link)) key)) Lost) h
    ∙ ap (onward b link) is

pub walk_end : (b : List ℕ) (link : ℕ) (key : List ℕ)
    → starts_with nat_eq key (prefix b link) ≡ true → drop (length (prefix b link)) key ≡ []
    → walk b link key ≡ record { nodes = link ∷ []; reached = Some link }
walk_end b link key h is = walk_by b link key Ends (step_on b link key [] h is)

pub walk_lost : (b : List ℕ) (link : ℕ) (key : List ℕ) (byte : ℕ) (after : List ℕ)
    → starts_with nat_eq key (prefix b link) ≡ true
    → drop (length (prefix b link)) key ≡ byte ∷ after → child b link byte ≡ None
    → walk b link key ≡ record { nodes = link ∷ []; reached = None }
walk_lost b link key byte after h is none =
    walk_by b link key Lost (step_on b link key (byte ∷ after) h is ∙ ap (λ o. enters o after) none)

pub walk_child : (b : List ℕ) (link : ℕ) (key : List ℕ) (byte : ℕ) (after : List ℕ) (next : ℕ)
    → starts_with nat_eq key (prefix b link) ≡ true
    → drop (length (prefix b link)) key ≡ byte ∷ after → child b link byte ≡ Some next
    → walk b link key ≡ through link (walk b next after)
walk_child b link key byte after next h is some =
    walk_by b link key (Enters next after)
    (step_on b link key (byte ∷ after) h is ∙ ap (λ o. enters o after) some)

-- a walk of at most so many nodes has at most so many
by_step-few : (b : List ℕ) (n link : ℕ) (s : Step)
    → ((next : ℕ) (rest : List ℕ) → length (walk_within b n next rest).nodes ≤ n)
    → length (by_step s (record { nodes = link ∷ []; reached = Some link })
    (λ next rest. through link (walk_within b n next rest))
    (record { nodes = link ∷ []; reached = None })).nodes
    ≤ suc n
by_step-few b n link Ends h = omega arith
by_step-few b n link (Enters next rest) h = omega (arith, h next rest)
by_step-few b n link Lost h = omega arith

walk_within-few : (b : List ℕ) (n link : ℕ) (key : List ℕ)
    → length (walk_within b n link key).nodes ≤ n
unfolding walk_within
walk_within-few b zero link key = omega arith
walk_within-few b (suc n) link key = by_step-few b n link (step b link key) (walk_within-few b n)

pub visits-few : (b key : List ℕ) → visits b key ≤ length key + 1
unfolding visits walk
visits-few b key = walk_within-few b (length key + 1) (root b) key
