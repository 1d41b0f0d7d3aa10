use Rattle.std.proofs.Common.{◌≡◌, ◌++◌, [], take}
use Rattle.provider_rel.specs.Items.{item_doubles}
use Rattle.provider_rel.specs.Sharing.{AreLinked}
use Rattle.provider_rel.proofs.doubles.push_doubles.Given as goal

abbrev pub invariant-loop-k : goal.invariant-loop-k
invariant-loop-k l = record {
  linked : AreLinked l.items l.names l.k l.next.items;
  lines : l.lines ≡ l.initial.lines ++ item_doubles [] (take l.k l.items);
}
