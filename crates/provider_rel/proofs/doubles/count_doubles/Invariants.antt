use Rattle.std.proofs.Common.{◌≡◌, ◌≤◌, ◌*◌, [], length, take}
use Rattle.provider_rel.specs.Items.{item_doubles}
use Rattle.provider_rel.specs.Sharing.{AreCounts}
use Rattle.provider_rel.proofs.doubles.count_doubles.Given as goal

abbrev pub invariant-loop-k : goal.invariant-loop-k
invariant-loop-k l = record {
  counts : AreCounts l.items l.names l.k l.counts.items;
  count : l.count ≡ length (item_doubles [] (take l.k l.items));
  bound : l.count ≤ l.k * 4294967296;
}
