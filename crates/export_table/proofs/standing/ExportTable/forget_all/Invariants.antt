use Rattle.std.proofs.Common.{◌≡◌, ℕ, List, None, cond, take}
use Rattle.std.specs.Prelude.{is_some}
use Rattle.export_table.specs.Exports.{export_named}
use Rattle.export_table.specs.Standing.{standing_of}
use Rattle.export_table.proofs.standing.ExportTable.forget_all.Given as goal

abbrev pub invariant-loop-export : goal.invariant-loop-export
invariant-loop-export l =
    (x : List ℕ)
    → standing_of l.self x
    ≡ cond (is_some (export_named x (take l.export-index l.exports))) None
    (standing_of l.initial.self x)
