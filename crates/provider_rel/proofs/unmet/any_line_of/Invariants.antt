use Rattle.std.proofs.Common.{◌≡◌, take}
use Rattle.std.specs.List.{list_any}
use Rattle.module_symbols.specs.declared.needs.Need.{Need as StatedNeed}
use Rattle.name_table.specs.NameTable.{place_of}
use Rattle.provider_rel.specs.Items.{item_under}
use Rattle.provider_rel.specs.Kinds.{has_line}
use Rattle.provider_rel.proofs.unmet.any_line_of.Given as goal

abbrev pub invariant-loop-i : goal.invariant-loop-i
invariant-loop-i l =
    l.any
    ≡ list_any (λ (n : StatedNeed). has_line l.bindings.known l.facts n
    (item_under l.bindings.items.items (place_of l.bindings.names n.name)))
    (take l.i l.facts.needs)
