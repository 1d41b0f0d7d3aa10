use Rattle.std.proofs.Common.{◌≡◌, ℕ, eqb, length, take}
use Rattle.std.specs.Prelude.{◌&&◌, ◌||◌}
use Rattle.relation_order.specs.Sets.{has, goes}
use Rattle.relation_order.proofs.distances.add_source.Given as goal

abbrev pub invariant-loop-y : goal.invariant-loop-y
invariant-loop-y l =
    record {
      long : length l.sources.items ≡ length l.initial.sources.items;
      goes : (y x : ℕ)
          → goes l.sources.items y x
          ≡ (goes l.initial.sources.items y x
          || (has (take l.y-index l.targets) y && eqb x l.item));
    }
