use Rattle.std.proofs.Common.{◌≡◌, ℕ, List, map, take}
use Rattle.modinfo_tool.specs.Parameters.{described}
use Rattle.modinfo_tool.specs.Tables.{told_in}
use Rattle.modinfo_tool.proofs.parameters.described_all.Given as goal

abbrev pub invariant-loop-i : goal.invariant-loop-i
invariant-loop-i l =
    l.values
    ≡ map (λ (name : List ℕ). described name (told_in l.texts name) (told_in l.kinds name))
    (take l.i l.names)
