use Rattle.std.proofs.Common.{arith}
use Rattle.sheet_object.specs.Symbols.{local_symbols}
use Rattle.sheet_object.proofs.SymbolLemmas.{locals-next, Adds-length, length-names_bytes-local}
use Rattle.sheet_object.proofs.SymbolLemmas.{short-at}
use Rattle.sheet_object.proofs.symbols.SymbolTable.push_locals.Goals as goal

pub loop-export-preserved : goal.loop-export-preserved
loop-export-preserved c =
    let m = c.args.further.now.more.now in
    let i = c.loop-export.export-index in
    let x = c.export-item.result in
    let short
    = short-at (λ e. e.name) c.args.exports.now i x c.loop-export-test.true c.export-item.is
    c.requires.short in
    record {
      added
          = locals-next m c.args.self.now c.loop-export.self c.push_local.new.self
          c.args.exports.now i x c.loop-export-test.true c.export-item.is
          c.loop-export.invariant.added c.in_ok-push_local.ensures;
      bound
          = omega (
            arith,
            Adds-length c.loop-export.self c.push_local.new.self (local_symbols m x)
                c.in_ok-push_local.ensures,
            length-names_bytes-local m x short,
            c.loop-export.invariant.bound,
          );
    }
