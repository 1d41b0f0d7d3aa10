use Rattle.std.proofs.Common.{◌≡◌, [], length, take}
use Rattle.std.specs.List.{list_any}
use Rattle.relation_order.specs.Sets.{goes}
use Rattle.relation_order.specs.Rounds.{Finds}
use Rattle.relation_order.proofs.distances.find_round.Given as goal

abbrev pub invariant-loop-y : goal.invariant-loop-y
invariant-loop-y l =
    record {
      long : length l.far.items ≡ length l.initial.far.items;
      finds : Finds (λ x. list_any (λ y. goes l.sources y x) (take l.y-index l.last)) l.round l.none
          l.initial.far.items l.far.items [] l.found.items;
    }
