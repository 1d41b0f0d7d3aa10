use Rattle.std.proofs.Common.{◌≡◌, ◌++◌, map, take}
use Rattle.provider_rel.specs.Items.{module_item}
use Rattle.provider_rel.proofs.items.push_module_items.Given as goal

abbrev pub invariant-loop-export : goal.invariant-loop-export
invariant-loop-export l =
    l.items.items
    ≡ l.initial.items.items
    ++ map (module_item l.place l.facts.path) (take l.export-index l.facts.exports)
