use Rattle.std.proofs.Common.{sym, subst}
use Rattle.elf_object.specs.Symbols.{owned_symbol}
use Rattle.module_symbols.specs.SymbolTables.{AreTablesOf}
use Rattle.module_symbols.proofs.ListLemmas.{take-item}
use Rattle.module_symbols.proofs.tables.SymbolTables.new.Goals as goal

pub loop-i-preserved : goal.loop-i-preserved
loop-i-preserved c =
    let symbols = c.args.object.now.symbols in
    subst (AreTablesOf c.push.new.self)
    (sym (take-item symbols c.loop-i.i (owned_symbol c.symbol.result) c.symbol.ensures.symbol))
    (c.in_ok-push.ensures _ c.loop-i.invariant)
