use Rattle.std.proofs.Common.{◌≡◌, ℕ, ◌<◌, get_or}
use Rattle.km_names.specs.Path.{underscored}
use Rattle.dependency_lines.proofs.path_name.has_name.Given as goal

abbrev pub invariant-loop-i : goal.invariant-loop-i
invariant-loop-i l = (k : ℕ) → k < l.i → get_or (underscored l.text) k 0 ≡ get_or l.name k 0
