-- The values that a loop over places has left.
use Rattle.std.proofs.Common.{ℕ, List, [], Option, Some, None}
use Rattle.index_format.specs.Map.{Value}
use Rattle.index_nodes.specs.declared.place.Place.{Place}
use Rattle.index_nodes.specs.Places.{values_left}

-- The values that are left from a place on, none if there is no place.
abbrev pub values_at_place : List ℕ → Option Place → List Value
values_at_place b None = []
values_at_place b (Some p) = values_left b p
