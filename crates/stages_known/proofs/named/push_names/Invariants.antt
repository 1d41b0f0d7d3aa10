use Rattle.std.proofs.Common.{◌≡◌, ◌++◌, drop}
use Rattle.stages_known.proofs.named.push_names.Given as goal

abbrev pub invariant-loop-name : goal.invariant-loop-name
invariant-loop-name l = l.all ++ drop l.name-index l.names ≡ l.fn.all ++ l.names
