use Rattle.std.proofs.Common.{◌≡◌, ◌++◌, take, drop}
use Rattle.km_names.specs.Path.{underscored}
use Rattle.dependency_lines.proofs.path_name.underscore.Given as goal

abbrev pub invariant-loop-i : goal.invariant-loop-i
invariant-loop-i l = l.text ≡ underscored (take l.i l.fn.text) ++ drop l.i l.fn.text
