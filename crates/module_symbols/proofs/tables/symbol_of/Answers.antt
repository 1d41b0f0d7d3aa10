use Rattle.module_symbols.proofs.SymbolLemmas.{first_symbol-within}
use Rattle.module_symbols.proofs.tables.symbol_of.Goals as goal

pub symbol-requires : goal.symbol-requires
symbol-requires c =
    first_symbol-within c.args.role c.args.object.now c.args.name.now c.in-Some.i
    (c.in-Some.ensures c.args.object.now c.requires)
