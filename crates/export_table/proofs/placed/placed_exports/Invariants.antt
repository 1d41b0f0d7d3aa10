use Rattle.std.proofs.Common.{◌≡◌, take, map}
use Rattle.export_table.specs.Standing.{placed_by}
use Rattle.export_table.proofs.placed.placed_exports.Given as goal

abbrev pub invariant-loop-export : goal.invariant-loop-export
invariant-loop-export l = l.placed ≡ map (placed_by l.addresses) (take l.export-index l.exports)
