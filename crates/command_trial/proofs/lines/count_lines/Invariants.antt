use Rattle.std.proofs.Common.{◌≡◌, ◌+◌, ◌≤◌, length}
use Rattle.std.specs.List.{flat_map}
use Rattle.std.specs.Option.{option_to_list}
use Rattle.km_names.specs.Lines.{lines_of}
use Rattle.outside_calls.specs.Contents.{rest_after}
use Rattle.command_trial.specs.Summary.{rests_of_lines}
use Rattle.command_trial.proofs.lines.count_lines.Given as goal

abbrev pub invariant-loop-left : goal.invariant-loop-left
invariant-loop-left l =
    (l.count + length
    (flat_map (λ line. option_to_list (rest_after l.start line)) (lines_of l.left))
    ≡ length (rests_of_lines l.start l.text))
    × (l.count + length l.left ≤ length l.text)

abbrev pub decreases-loop-left : goal.decreases-loop-left
decreases-loop-left l = length l.left
