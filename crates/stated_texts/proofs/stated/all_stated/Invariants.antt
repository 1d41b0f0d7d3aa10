use Rattle.std.proofs.Common.{take}
use Rattle.stated_texts.specs.AllStated.{AreStated}
use Rattle.stated_texts.proofs.stated.all_stated.Given as goal

abbrev pub invariant-loop-facts : goal.invariant-loop-facts
invariant-loop-facts l = AreStated l.kind (take l.facts-index l.tree) l.all.items
