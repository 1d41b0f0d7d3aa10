use Rattle.std.proofs.Common.{ap, ◌∙◌, length, map, arith}
use Rattle.std.proofs.lemmas.List.{take_all}
use Rattle.module_symbols.specs.declared.exports.Export.{Export}
use Rattle.stated_texts.proofs.stated.symbols.Goals as goal

pub returns : goal.returns
returns c =
    let exports = c.args.facts.now.exports in
    c.loop-export.invariant
    ∙ ap (map (λ (e : Export). e.name))
    (take_all c.loop-export.export-index exports
    (omega (arith, c.loop-export-test.false, ap length c.as_slice-export-items.ensures)))
