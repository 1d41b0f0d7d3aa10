use Rattle.std.proofs.Common.{◌≡◌, ℕ, List, take}
use Rattle.modinfo_tool.specs.Parameters.{first_told}
use Rattle.modinfo_tool.specs.Tables.{told_in}
use Rattle.modinfo_tool.proofs.parameters.first_told.Given as goal

abbrev pub invariant-loop-value : goal.invariant-loop-value
invariant-loop-value l =
    (name : List ℕ) → told_in l.told name ≡ first_told (take l.value-index l.values) name
