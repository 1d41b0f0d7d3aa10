use Rattle.std.proofs.Common.{◌≡◌}
use Rattle.provider_rel.proofs.ItemSteps.{items_of_front}
use Rattle.provider_rel.proofs.items.all_items.Given as goal

abbrev pub invariant-loop-i : goal.invariant-loop-i
invariant-loop-i l = l.items.items ≡ items_of_front l.tree l.kernel l.i
