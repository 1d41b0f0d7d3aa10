use Rattle.std.proofs.Common.{◌≡◌, map, take}
use Rattle.module_symbols.specs.declared.exports.Export.{Export}
use Rattle.stated_texts.proofs.stated.symbols.Given as goal

abbrev pub invariant-loop-export : goal.invariant-loop-export
invariant-loop-export l =
    l.names.items
    ≡ map (λ (e : Export). e.name) (take l.export-index l.facts.exports)
