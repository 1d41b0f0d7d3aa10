use Rattle.std.proofs.Common.{◌<◌, length, take}
use Rattle.std.specs.Prelude.{All}
use Rattle.plan_order.proofs.Places.{PlacesOf}
use Rattle.plan_order.proofs.group.places_of.Given as goal

abbrev pub invariant-loop-item : goal.invariant-loop-item
invariant-loop-item l =
    record {
      inside : All (λ i. i < length l.members) l.places.items;
      places : PlacesOf l.members (take l.item-index l.items) l.places.items;
    }
