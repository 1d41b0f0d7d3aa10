use Rattle.std.proofs.Common.{◌≡◌, map, take}
use Rattle.test_objects.specs.Rows.{export_of}
use Rattle.test_objects.proofs.lists.exports.Given as goal

abbrev pub invariant-loop-row : goal.invariant-loop-row
invariant-loop-row l = l.list ≡ map export_of (take l.row-index l.rows)
