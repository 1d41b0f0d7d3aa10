use Rattle.std.proofs.Common.{◌≡◌, length}
use Rattle.relation_order.specs.Sets.{goes, marked}
use Rattle.relation_order.proofs.Nearness.{Table, Layer}
use Rattle.relation_order.proofs.distances.distances_to.Given as goal

abbrev pub invariant-loop-round : goal.invariant-loop-round
invariant-loop-round l =
    record {
      long : length l.far.items ≡ length l.graph.members.now;
      table : Table (goes l.graph.lists.now) (marked l.graph.members.now) l.goal l.round
          l.far.items;
      layer : Layer (marked l.graph.members.now) l.round l.far.items l.last.items;
    }
