use Rattle.std.proofs.Common.{◌≡◌, ℕ, length, take}
use Rattle.std.specs.Prelude.{◌&&◌}
use Rattle.relation_order.specs.Sets.{has, goes}
use Rattle.relation_order.proofs.distances.reversed.Given as goal

abbrev pub invariant-loop-x : goal.invariant-loop-x
invariant-loop-x l =
    record {
      long : length l.sources.items ≡ length l.graph.lists.now;
      goes : (y x : ℕ)
          → goes l.sources.items y x
          ≡ (has (take l.x-index l.items) x && goes l.graph.lists.now x y);
    }
