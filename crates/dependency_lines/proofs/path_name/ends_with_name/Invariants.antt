use Rattle.std.proofs.Common.{ℕ, ◌<◌}
use Rattle.dependency_lines.proofs.NamedFiles.{IsNamed}
use Rattle.dependency_lines.proofs.path_name.ends_with_name.Given as goal

abbrev pub invariant-loop-i : goal.invariant-loop-i
invariant-loop-i l = (k : ℕ) → k < l.i → IsNamed l.path l.name l.start k
