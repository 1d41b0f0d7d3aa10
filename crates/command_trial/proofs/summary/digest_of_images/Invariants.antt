use Rattle.std.proofs.Common.{◌≡◌, ℕ, List, ◌++◌, codes, length}
use Rattle.std.specs.List.{flat_map}
use Rattle.std.specs.Option.{option_to_list}
use Rattle.sha2.specs.Hashers.{Holds256}
use Rattle.km_names.specs.Lines.{lines_of}
use Rattle.outside_calls.specs.Contents.{rest_after}
use Rattle.command_trial.specs.Summary.{images_of, loaded}
use Rattle.command_trial.proofs.summary.digest_of_images.Given as goal

-- The images of the lines so far were put into the digest.
abbrev pub invariant-loop-left : goal.invariant-loop-left
invariant-loop-left l =
    (before : List ℕ) × Holds256 l.hasher before
    × (before
    ++ images_of l.files.contents
    (flat_map (λ line. option_to_list (rest_after (codes "loaded ") line))
    (lines_of l.left))
    ≡ images_of l.files.contents (loaded l.output))

abbrev pub decreases-loop-left : goal.decreases-loop-left
decreases-loop-left l = length l.left
