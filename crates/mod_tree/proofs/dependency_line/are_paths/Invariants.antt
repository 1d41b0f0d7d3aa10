use Rattle.std.proofs.Common.{◌≡◌, ◌==◌, length}
use Rattle.std.specs.List.{slice_split}
use Rattle.mod_tree.specs.DependencyLine.{are_needed}
use Rattle.mod_tree.proofs.dependency_line.are_paths.Given as goal

abbrev pub invariant-loop-rest : goal.invariant-loop-rest
invariant-loop-rest l =
    are_needed (slice_split (λ b. b == 32) l.rest)
    ≡ are_needed (slice_split (λ b. b == 32) l.fn.text)

abbrev pub decreases-loop-rest : goal.decreases-loop-rest
decreases-loop-rest l = length l.rest
