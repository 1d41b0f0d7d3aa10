use Rattle.std.proofs.Common.{◌≡◌, ℕ, ◌<◌, ◌≤◌, false, get_or}
use Rattle.param_apply.proofs.taken.are_free.Given as goal

abbrev pub invariant-loop-x : goal.invariant-loop-x
invariant-loop-x l = (y : ℕ) → l.at ≤ y → y < l.x → get_or l.taken y false ≡ false
