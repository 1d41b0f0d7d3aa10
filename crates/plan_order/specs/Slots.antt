-- How the code keeps the lists of many modules.
-- It belongs to the code: no public meaning rests on it.
use Rattle.std.specs.Prelude.{ℕ, List, [], ◌∷◌, map, slice_index_or}
use Rattle.std.specs.Global.{Vec}

-- The kept list at each slot. The first kept list stands for one that isn't there.
abbrev pub at_slots : List (Vec ℕ) → List ℕ → List (Vec ℕ)
at_slots [] slots = []
at_slots (first ∷ rest) slots = map (λ slot. slice_index_or (first ∷ rest) slot first) slots
