use Rattle.std.proofs.Common.{◌≡◌, ◌+◌, length}
use Rattle.std.specs.List.{flat_map}
use Rattle.km_names.specs.Lines.{lines_of}
use Rattle.command_trial.specs.Summary.{dependencies_in, paths_after_colon}
use Rattle.command_trial.proofs.lines.count_paths.Given as goal

abbrev pub invariant-loop-left : goal.invariant-loop-left
invariant-loop-left l =
    l.count + length (flat_map paths_after_colon (lines_of l.left))
    ≡ length (dependencies_in l.text)

abbrev pub decreases-loop-left : goal.decreases-loop-left
decreases-loop-left l = length l.left
