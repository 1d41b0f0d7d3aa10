-- The values at the places of a file.
use Rattle.std.specs.Prelude.{◌≡◌, ℕ, ◌+◌, List, drop}
use Rattle.km_names.specs.Number.{be}
use Rattle.index_format.specs.Map.{Value}
use Rattle.index_format.specs.Node.{text}
use Rattle.index_format.specs.Nodes.{IsValuePlace, values_from}
use Rattle.index_nodes.specs.declared.place.Place.{Place}

-- The priority of the value at a place.
abbrev pub priority_of : Place → ℕ
priority_of p = p.priority

-- The value at a place.
abbrev pub value_at : List ℕ → Place → Value
value_at b p = (priority_of p, text (drop (p.start + 4) b))

-- The values of its node from a place on.
abbrev pub values_left : List ℕ → Place → List Value
values_left b p = values_from b p.start p.left

-- The place is one of the file.
pub record IsPlaceOf (b : List ℕ) (p : Place) : Type 0 where
  pub place : IsValuePlace b p.start p.left
  pub priority : p.priority ≡ be (drop p.start b) 0 4
