use Rattle.std.specs.Prelude.{⊤}
use Rattle.dependency_lines.proofs.own_paths.OwnPaths.new.Given as goal

abbrev pub invariant-loop-place : goal.invariant-loop-place
invariant-loop-place l = ⊤
