use Rattle.std.proofs.Common.{arith, slice_index_or, length, ◌≢◌, ◌≤◌}
use Rattle.std.proofs.lemmas.Bool.Decides.{nat_tests}
use Rattle.glob_match.proofs.Items.{begins_with_range, begins_with_byte, rest_of}
use Rattle.glob_match.proofs.set.first_range.Goals as goal
use Rattle.glob_match.proofs.set.first_range.Goals.{else-items-ge3-via-then-items-ge3+else-items-eq45}
use Rattle.glob_match.proofs.set.first_range.Goals.{else-items-ge3-via-else-items-ge3}

pub returns-then-items-eq45 : goal.returns-then-items-eq45
returns-then-items-eq45 c =
    rw rest_of (begins_with_range c.args.items.now c.if-items-ge3.true c.if-items-eq45.true)

pub returns-else-is_empty : goal.returns-else-is_empty
returns-else-is_empty c =
    let xs = c.args.items.now in
    let no_range : 3 ≤ length xs → slice_index_or xs 1 0 ≢ 45 = elim c.else-items-ge3.branch [
      | else-items-ge3-via-then-items-ge3+else-items-eq45 w ↦ λ h. w.if-items-eq45.false
      | else-items-ge3-via-else-items-ge3 w ↦ λ h. absurd (omega arith)
    ] in
    rw rest_of (begins_with_byte xs (grind (arith, nat_tests)) no_range)
