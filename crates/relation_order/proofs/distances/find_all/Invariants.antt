use Rattle.std.proofs.Common.{◌≡◌, length, take}
use Rattle.relation_order.specs.Sets.{has}
use Rattle.relation_order.specs.Rounds.{Finds}
use Rattle.relation_order.proofs.distances.find_all.Given as goal

abbrev pub invariant-loop-x : goal.invariant-loop-x
invariant-loop-x l =
    record {
      long : length l.far.items ≡ length l.initial.far.items;
      finds : Finds (has (take l.x-index l.items)) l.round l.none l.initial.far.items l.far.items
          l.initial.found.items l.found.items;
    }
