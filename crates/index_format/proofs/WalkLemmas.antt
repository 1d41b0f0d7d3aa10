-- The walk of a key, one node on.
use Rattle.std.proofs.Common.{◌≡◌, refl, ap, ◌∙◌, ℕ, zero, suc, ◌+◌, ◌<◌, ◌≤◌, nat_eq, true, false}
use Rattle.std.proofs.Common.{cond, List, [], ◌∷◌, length, drop, Some, None, arith, length-drop}
use Rattle.std.specs.List.{starts_with}
use Rattle.index_format.specs.Map.{Value}
use Rattle.index_format.specs.Node.{prefix, child, values}
use Rattle.index_format.specs.Walk.{Step, Ends, Enters, Lost, enters, onward, step, by_step}
use Rattle.index_format.specs.Walk.{through, walk_within, walk, values_at}

-- the values that a key reaches, and how many nodes its walk has, by at most so many nodes
unfoldable pub at_within : List ℕ → ℕ → ℕ → List ℕ → List Value
at_within b n link key = values_at b (walk_within b n link key).reached

unfoldable pub visits_within : List ℕ → ℕ → ℕ → List ℕ → ℕ
visits_within b n link key = length (walk_within b n link key).nodes

pub at_within-zero : (b : List ℕ) (link : ℕ) (key : List ℕ) → at_within b zero link key ≡ []
unfolding at_within walk_within
at_within-zero b link key = refl

pub at_within-suc : (b : List ℕ) (n link : ℕ) (key : List ℕ)
    → at_within b (suc n) link key ≡ by_step (step b link key) (values b link) (at_within b n) []
unfolding at_within walk_within
at_within-suc b n link key =
    elim (step b link key) as
    (λ s. values_at b
    (by_step s (record { nodes = link ∷ []; reached = Some link })
    (λ next rest. through link (walk_within b n next rest))
    (record { nodes = link ∷ []; reached = None })).reached
    ≡ by_step s (values b link) (at_within b n) []) [
      | Ends ↦ refl
      | Enters next rest ↦ refl
      | Lost ↦ refl
    ]

pub visits_within-suc : (b : List ℕ) (n link : ℕ) (key : List ℕ)
    → visits_within b (suc n) link key
    ≡ by_step (step b link key) 1 (λ next rest. suc (visits_within b n next rest)) 1
unfolding visits_within walk_within
visits_within-suc b n link key =
    elim (step b link key) as
    (λ s. length (by_step s (record { nodes = link ∷ []; reached = Some link })
    (λ next rest. through link (walk_within b n next rest))
    (record { nodes = link ∷ []; reached = None })).nodes
    ≡ by_step s 1 (λ next rest. suc (visits_within b n next rest)) 1) [
      | Ends ↦ refl
      | Enters next rest ↦ refl
      | Lost ↦ refl
    ]

-- the step goes on with fewer bytes
abbrev Shorter : ℕ → Step → Type 0
Shorter n Ends = Unit {0}
Shorter n (Enters next rest) = length rest < n
Shorter n Lost = Unit {0}

onward-shorter : (b : List ℕ) (link n : ℕ) (key : List ℕ) → length key ≤ n
    → Shorter n (onward b link key)
onward-shorter b link n [] h = tt
onward-shorter b link n (c ∷ key) h =
    elim (child b link c) as (λ o. Shorter n (enters o key))
    [ Some next ↦ omega (arith, h) | None ↦ tt ]

step-shorter : (b : List ℕ) (link : ℕ) (key : List ℕ) → Shorter (length key) (step b link key)
unfolding step
step-shorter b link key =
    elim (starts_with nat_eq key (prefix b link)) as
    (λ t. Shorter (length key)
    (cond t (onward b link (drop (length (prefix b link)) key)) Lost)) [
      | true ↦ onward-shorter b link (length key) (drop (length (prefix b link)) key)
          (omega (arith, length-drop (length (prefix b link)) key))
      | false ↦ tt
    ]

-- more nodes than the key has bytes change nothing
pub walk_within-enough : (b : List ℕ) (n m link : ℕ) (key : List ℕ) → length key < n
    → length key < m → walk_within b n link key ≡ walk_within b m link key
unfolding walk_within
walk_within-enough b zero m link key h k = absurd (omega (arith, h))
walk_within-enough b (suc n) zero link key h k = absurd (omega (arith, k))
walk_within-enough b (suc n) (suc m) link key h k =
    elim (step b link key) as
    (λ s. Shorter (length key) s
    → by_step s (record { nodes = link ∷ []; reached = Some link })
    (λ next rest. through link (walk_within b n next rest))
    (record { nodes = link ∷ []; reached = None })
    ≡ by_step s (record { nodes = link ∷ []; reached = Some link })
    (λ next rest. through link (walk_within b m next rest))
    (record { nodes = link ∷ []; reached = None })) [
      | Ends ↦ λ _. refl
      | Enters next rest ↦ λ short. ap (through link)
          (walk_within-enough b n m next rest (omega (arith, short, h)) (omega (arith, short, k)))
      | Lost ↦ λ _. refl
    ] (step-shorter b link key)

-- the walk, by its first step
pub walk-step : (b : List ℕ) (link : ℕ) (key : List ℕ)
    → walk b link key
    ≡ by_step (step b link key) (record { nodes = link ∷ []; reached = Some link })
    (λ next rest. through link (walk b next rest))
    (record { nodes = link ∷ []; reached = None })
unfolding walk walk_within
walk-step b link key =
    let one : length key + 1 ≡ suc (length key) = omega arith in
    ap (λ n. walk_within b n link key) one
    ∙ elim (step b link key) as
    (λ s. Shorter (length key) s
    → by_step s (record { nodes = link ∷ []; reached = Some link })
    (λ next rest. through link (walk_within b (length key) next rest))
    (record { nodes = link ∷ []; reached = None })
    ≡ by_step s (record { nodes = link ∷ []; reached = Some link })
    (λ next rest. through link (walk_within b (length rest + 1) next rest))
    (record { nodes = link ∷ []; reached = None })) [
      | Ends ↦ λ _. refl
      | Enters next rest ↦ λ short. ap (through link)
          (walk_within-enough b (length key) (length rest + 1) next rest short (omega arith))
      | Lost ↦ λ _. refl
    ] (step-shorter b link key)
