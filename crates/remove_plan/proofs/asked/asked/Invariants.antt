use Rattle.std.proofs.Common.{◌≡◌, ◌<◌, ℕ, length}
use Rattle.remove_plan.specs.Marks.{is_marked}
use Rattle.remove_plan.specs.Removal.{is_asked}
use Rattle.remove_plan.proofs.asked.asked.Given as goal

abbrev pub invariant-loop-k : goal.invariant-loop-k
invariant-loop-k l = record {
  counted : length l.marks.items ≡ l.k;
  at : (i : ℕ) → i < l.k → is_marked l.marks.items i ≡ is_asked l.machine l.names i;
}
