use Rattle.std.proofs.Common.{◌≡◌, map, take}
use Rattle.test_objects.specs.Rows.{space_of}
use Rattle.test_objects.proofs.lists.spaces.Given as goal

abbrev pub invariant-loop-row : goal.invariant-loop-row
invariant-loop-row l = l.list ≡ map space_of (take l.row-index l.rows)
