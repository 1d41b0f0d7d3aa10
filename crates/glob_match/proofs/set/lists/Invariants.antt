use Rattle.std.proofs.Common.{◌↔◌, length}
use Rattle.glob_pattern.specs.Pattern.{Lists}
use Rattle.glob_match.proofs.set.lists.Given as goal

abbrev pub invariant-loop-low : goal.invariant-loop-low
invariant-loop-low l = Lists l.items l.byte ↔ Lists l.rest l.byte

abbrev pub decreases-loop-low : goal.decreases-loop-low
decreases-loop-low l = length l.rest
