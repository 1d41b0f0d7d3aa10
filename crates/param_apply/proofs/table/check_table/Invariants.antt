use Rattle.std.proofs.Common.{◌≡◌, ◌<◌, ℕ, None}
use Rattle.param_apply.specs.Table.{entry_fault}
use Rattle.param_apply.proofs.table.check_table.Given as goal

abbrev pub invariant-loop-k : goal.invariant-loop-k
invariant-loop-k l = (j : ℕ) → j < l.k → entry_fault l.image l.base l.table j ≡ None
