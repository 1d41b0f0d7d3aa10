use Rattle.std.proofs.Common.{◌≡◌, take}
use Rattle.test_objects.specs.Rows.{slices_of}
use Rattle.test_objects.proofs.lists.texts.Given as goal

abbrev pub invariant-loop-row : goal.invariant-loop-row
invariant-loop-row g l = l.list ≡ slices_of (take l.row-index l.rows)
