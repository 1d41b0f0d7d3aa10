use Rattle.std.proofs.Common.{◌≡◌, ◌++◌, ℕ, List, length, Option}
use Rattle.std.specs.Prelude.{IfSome}
use Rattle.index_format.specs.Map.{Value}
use Rattle.index_format.specs.Node.{values}
use Rattle.index_nodes.specs.declared.place.Place.{Place}
use Rattle.index_nodes.specs.Fields.{link_of}
use Rattle.index_nodes.specs.Places.{IsPlaceOf}
use Rattle.index_read.specs.Values.{found_values}
use Rattle.index_read.proofs.PlaceValues.{values_at_place}
use Rattle.index_read.proofs.value.push_values.Given as goal

-- the values so far and those that are left are the ones that are wanted
pub record Pushing (b : List ℕ) (found want : List Value) (next : Option Place) : Type 0 where
  pub values : found ++ values_at_place b next ≡ want
  pub place : IfSome next (IsPlaceOf b)

abbrev pub invariant-loop-next : goal.invariant-loop-next
invariant-loop-next l =
    Pushing l.nodes (found_values l.found.items)
    (found_values l.fn.found.items ++ values l.nodes (link_of l.node)) l.next

abbrev pub decreases-loop-next : goal.decreases-loop-next
decreases-loop-next l = length (values_at_place l.nodes l.next)
