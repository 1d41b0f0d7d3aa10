use Rattle.std.proofs.Common.{◌≡◌, ◌++◌, take}
use Rattle.std.specs.List.{flat_map}
use Rattle.provider_rel.specs.Kinds.{lines_by}
use Rattle.provider_rel.proofs.unmet.push_all_lines.Given as goal

abbrev pub invariant-loop-i : goal.invariant-loop-i
invariant-loop-i l =
    l.lines
    ≡ l.initial.lines
    ++ flat_map (lines_by l.kind l.bindings.known l.bindings.items.items l.bindings.names)
    (take l.i l.tree)
