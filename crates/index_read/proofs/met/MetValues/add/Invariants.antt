use Rattle.std.proofs.Common.{ℕ, List, ◌++◌, length, Option}
use Rattle.std.specs.Prelude.{IfSome}
use Rattle.index_format.specs.Map.{Value}
use Rattle.index_format.specs.Node.{values}
use Rattle.index_nodes.specs.declared.place.Place.{Place}
use Rattle.index_nodes.specs.Fields.{link_of}
use Rattle.index_nodes.specs.Places.{IsPlaceOf}
use Rattle.index_read.specs.declared.met.MetValues.{MetValues}
use Rattle.index_read.specs.Met.{HasRuns, StandFor, kept}
use Rattle.index_read.proofs.PlaceValues.{values_at_place}
use Rattle.index_read.proofs.met.MetValues.add.Given as goal

-- the values so far with those that are left stand for the ones that are wanted
pub record Adding (b : List ℕ) (m : MetValues) (want : List Value) (next : Option Place) : Type 0
  where
    pub runs : HasRuns b m
    pub stand : StandFor (kept m ++ values_at_place b next) want
    pub place : IfSome next (IsPlaceOf b)

abbrev pub invariant-loop-next : goal.invariant-loop-next
invariant-loop-next l =
    Adding l.nodes l.self (kept l.fn.self ++ values l.nodes (link_of l.node)) l.next

abbrev pub decreases-loop-next : goal.decreases-loop-next
decreases-loop-next l = length (values_at_place l.nodes l.next)
