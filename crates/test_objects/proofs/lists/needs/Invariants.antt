use Rattle.std.proofs.Common.{◌≡◌, map, take}
use Rattle.test_objects.specs.Rows.{need_of}
use Rattle.test_objects.proofs.lists.needs.Given as goal

abbrev pub invariant-loop-row : goal.invariant-loop-row
invariant-loop-row l = l.list ≡ map need_of (take l.row-index l.rows)
