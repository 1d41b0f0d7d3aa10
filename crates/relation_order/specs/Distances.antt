-- How far an item is from a goal.
use Rattle.std.specs.Prelude.{ℕ, List, ◌≡◌, ◌≢◌, ◌<◌, ◌≤◌, length}
use Rattle.relation_order.specs.Sets.{Relation}
use Rattle.relation_order.specs.Walks.{Walk, steps_of}

-- The goal has the distance 0. The distance of another item is the number of steps of the shortest
-- walk within the set from it to the goal, which is less than the number of members. If no walk
-- leads to the goal, the distance is the number of members, and so greater than any other.
pub data IsDistance (r : Relation) (set : List ℕ) (goal x : ℕ) : ℕ → Type 0 where
  none : x ≡ goal → IsDistance r set goal x 0
  shortest : x ≢ goal → (w : Walk r set x goal)
      → ((v : Walk r set x goal) → steps_of w ≤ steps_of v) → steps_of w < length set
      → IsDistance r set goal x (steps_of w)
  endless : x ≢ goal → (Walk r set x goal → ⊥) → IsDistance r set goal x (length set)
