use Rattle.std.proofs.Common.{◌-◌}
use Rattle.dependency_lines.proofs.Kept.{IsParted}
use Rattle.dependency_lines.proofs.order.number_of.Given as goal

abbrev pub invariant-loop-low : goal.invariant-loop-low
invariant-loop-low l = IsParted l.lines l.name l.low l.high

abbrev pub decreases-loop-low : goal.decreases-loop-low
decreases-loop-low l = l.high - l.low
