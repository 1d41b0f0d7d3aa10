use Rattle.std.proofs.Common.{◌≡◌, take}
use Rattle.std.specs.List.{list_any}
use Rattle.provider_rel.specs.Kinds.{has_lines}
use Rattle.provider_rel.proofs.unmet.any_line.Given as goal

abbrev pub invariant-loop-i : goal.invariant-loop-i
invariant-loop-i l =
    l.any
    ≡ list_any (has_lines l.bindings.known l.bindings.items.items l.bindings.names)
    (take l.i l.tree)
