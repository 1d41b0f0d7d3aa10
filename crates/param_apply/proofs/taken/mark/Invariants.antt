use Rattle.std.proofs.Common.{◌≡◌, ℕ, ◌<◌, false, length, get_or, nat_le}
use Rattle.std.specs.Prelude.{◌||◌, ◌&&◌, nat_lt}
use Rattle.param_apply.proofs.taken.mark.Given as goal

abbrev pub invariant-loop-x : goal.invariant-loop-x
invariant-loop-x l = record {
  same : length l.taken.items ≡ length l.initial.taken.items;
  marked : (y : ℕ) → y < length l.initial.taken.items
      → get_or l.taken.items y false
      ≡ (get_or l.initial.taken.items y false || (nat_le l.start y && nat_lt y l.x));
}
