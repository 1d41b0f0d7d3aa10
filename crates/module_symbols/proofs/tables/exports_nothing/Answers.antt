use Rattle.std.proofs.Common.{map, ap, sym, ◌∙◌, arith}
use Rattle.std.proofs.lemmas.List.{take_all}
use Rattle.std.specs.List.{filter_map}
use Rattle.elf_object.specs.Symbols.{owned_symbol}
use Rattle.module_symbols.specs.declared.role.Role.TheVariants.{Export}
use Rattle.module_symbols.specs.Roles.{stated_name}
use Rattle.module_symbols.specs.Exports.{export_of, exports_of}
use Rattle.module_symbols.proofs.ListLemmas.{filter_map-silent}
use Rattle.module_symbols.proofs.SymbolLemmas.{states-nothing}
use Rattle.module_symbols.proofs.tables.exports_nothing.Goals as goal

pub loop-i-preserved : goal.loop-i-preserved
loop-i-preserved c =
    let o = c.args.object.now in
    let s = owned_symbol c.symbol.result in
    let silent
    = states-nothing c.stated_name.result _ c.stated_name.ensures
    (sym c.is_some.ensures ∙ c.if-is_some.false) in
    filter_map-silent (stated_name Export) (export_of o) o.symbols c.loop-i.i s
    c.symbol.ensures.symbol silent
    ∙ c.loop-i.invariant

pub returns : goal.returns
unfolding exports_of
returns c = λ nothing.
    let o = c.args.object.now in
    let all
    = take_all c.loop-i.i o.symbols
    (omega (arith, c.loop-i-test.false, c.symbol_count-i-end.ensures)) in
    ap (λ l. map (export_of o) (filter_map (stated_name Export) l)) (sym all) ∙ c.loop-i.invariant
