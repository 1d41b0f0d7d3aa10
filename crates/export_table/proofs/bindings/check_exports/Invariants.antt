use Rattle.std.proofs.Common.{◌≡◌, drop, map}
use Rattle.km_names.specs.First.{first}
use Rattle.export_table.specs.NeedTests.{taken_by}
use Rattle.export_table.proofs.bindings.check_exports.Given as goal

abbrev pub invariant-loop-export : goal.invariant-loop-export
invariant-loop-export l =
    first (map (taken_by l.table) l.facts.exports)
    ≡ first (map (taken_by l.table) (drop l.export-index l.facts.exports))
