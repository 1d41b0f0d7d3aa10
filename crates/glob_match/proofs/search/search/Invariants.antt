use Rattle.std.proofs.Common.{◌+◌, ◌*◌, length}
use Rattle.glob_match.proofs.Tries.{Tries, ends_left}
use Rattle.glob_match.proofs.search.search.Given as goal

abbrev pub invariant-loop-after : goal.invariant-loop-after
invariant-loop-after l = Tries l.pattern l.text l.rest l.left l.retry

abbrev pub decreases-loop-after : goal.decreases-loop-after
decreases-loop-after l = ends_left l.text l.retry * (length l.pattern + 1) + length l.rest
