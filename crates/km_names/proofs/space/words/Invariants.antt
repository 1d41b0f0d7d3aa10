use Rattle.std.proofs.Common.{◌≡◌, ◌++◌, length}
use Rattle.std.specs.List.{slice_split}
use Rattle.km_names.specs.Space.{is_space, nonempty, words}
use Rattle.km_names.proofs.space.words.Given as goal

abbrev pub invariant-loop-words : goal.invariant-loop-words
invariant-loop-words l = l.words ++ nonempty (slice_split is_space l.rest) ≡ words l.text

abbrev pub decreases-loop-words : goal.decreases-loop-words
decreases-loop-words l = length l.rest
