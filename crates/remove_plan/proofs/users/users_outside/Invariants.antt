use Rattle.std.proofs.Common.{◌≡◌, length}
use Rattle.remove_plan.specs.Marks.{AreUsers, is_marked}
use Rattle.remove_plan.proofs.users.users_outside.Given as goal

abbrev pub invariant-loop-k : goal.invariant-loop-k
invariant-loop-k l = record {
  counted : l.count ≡ length l.machine.entries;
  users : AreUsers l.machine (is_marked l.asked) l.k l.users.items;
}
