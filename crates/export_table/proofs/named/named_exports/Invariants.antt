use Rattle.std.proofs.Common.{◌≡◌, Some, take, map}
use Rattle.export_table.specs.Standing.{export_pair, named_pair}
use Rattle.export_table.proofs.named.named_exports.Given as goal

abbrev pub invariant-loop-export : goal.invariant-loop-export
invariant-loop-export l =
    map named_pair l.named.items ≡ map (export_pair (Some l.owner)) (take l.export-index l.exports)
