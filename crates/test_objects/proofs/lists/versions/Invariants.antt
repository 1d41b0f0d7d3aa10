use Rattle.std.proofs.Common.{◌≡◌, map, take}
use Rattle.test_objects.specs.Rows.{version_of}
use Rattle.test_objects.proofs.lists.versions.Given as goal

abbrev pub invariant-loop-row : goal.invariant-loop-row
invariant-loop-row l = l.list ≡ map version_of (take l.row-index l.rows)
