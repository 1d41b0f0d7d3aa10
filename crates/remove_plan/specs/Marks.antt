-- Marks at the places of a machine's entries, as the code keeps them.
-- It belongs to the code: no public meaning rests on it.
use Rattle.std.specs.Prelude.{◌≡◌, ℕ, ◌<◌, ◌&&◌, ◌||◌, ◌-◌, not, Bool, false, true, List, length}
use Rattle.std.specs.Prelude.{find, Option, None, slice_index_or}
use Rattle.std.specs.List.{list_any, range_with_len}
use Rattle.model_loader.specs.Machine.{Machine}
use Rattle.model_loader.specs.Use.{binds}
use Rattle.remove_plan.specs.Removal.{Places, among, is_asked}

-- Whether a place is marked.
abbrev pub is_marked : List Bool → Places
is_marked marks k = slice_index_or marks k false

-- The marked entries are the ones that are asked for.
pub record AreAsked (machine : Machine) (names : List (List ℕ)) (marks : List Bool) : Type 0 where
  pub counted : length marks ≡ length machine.entries
  pub at : (k : ℕ) → is_marked marks k ≡ is_asked machine names k

-- This many entries at the end of a machine, from the one at a place on.
abbrev pub from_place : Machine → ℕ → List ℕ
from_place machine k = range_with_len k (length machine.entries - k)

-- The marked entries are the ones that a member of a set, at a place or above, binds to.
pub record AreUsed (machine : Machine) (set : Places) (k : ℕ) (marks : List Bool) : Type 0 where
  pub counted : length marks ≡ length machine.entries
  pub at : (j : ℕ) → j < length machine.entries
      → is_marked marks j ≡ list_any (λ u. set u && binds machine u j) (from_place machine k)

-- The oldest users below a place that are outside a set, one at most for each entry.
pub record AreUsers (machine : Machine) (set : Places) (k : ℕ) (users : List (Option ℕ)) : Type 0
  where
    pub counted : length users ≡ length machine.entries
    pub at : (j : ℕ) → j < length machine.entries
        → slice_index_or users j None
        ≡ find (λ u. binds machine u j && not (set u)) (range_with_len 0 k)
