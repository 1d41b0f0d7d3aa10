use Rattle.std.proofs.Common.{◌≡◌, ◌++◌, take}
use Rattle.std.specs.List.{flat_map}
use Rattle.module_symbols.specs.declared.needs.Need.{Need as StatedNeed}
use Rattle.name_table.specs.NameTable.{place_of}
use Rattle.provider_rel.specs.Items.{item_under}
use Rattle.provider_rel.specs.Kinds.{line_if}
use Rattle.provider_rel.proofs.unmet.push_lines.Given as goal

abbrev pub invariant-loop-i : goal.invariant-loop-i
invariant-loop-i l =
    l.lines
    ≡ l.initial.lines
    ++ flat_map (λ (n : StatedNeed). line_if l.kind l.bindings.known l.facts n
    (item_under l.bindings.items.items (place_of l.bindings.names n.name)))
    (take l.i l.facts.needs)
