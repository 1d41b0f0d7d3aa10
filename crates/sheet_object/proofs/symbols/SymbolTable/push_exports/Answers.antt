use Rattle.std.proofs.Common.{◌*◌, ◌≡◌, [], ◌∷◌, arith, ap, ◌≤◌, length}
use Rattle.sheet_object.specs.declared.section.TheConstants.{TEXT}
use Rattle.sheet_object.specs.Symbols.{SymbolEntry}
use Rattle.sheet_object.proofs.SymbolLemmas.{exports-next, Adds-length, length-names_bytes-one}
use Rattle.sheet_object.proofs.SymbolLemmas.{short-at}
use Rattle.sheet_object.proofs.symbols.SymbolTable.push_exports.Goals as goal

pub loop-j-preserved : goal.loop-j-preserved
loop-j-preserved c =
    let j = c.loop-j.j in
    let x = c.index-exports-j.result in
    let name = c.as_bytes.result.now in
    let here : SymbolEntry
    = record { name = name; info = 0x12; section = TEXT; value = 16 * j; size = 16 } in
    let short : length x.name ≤ 4096
    = short-at (λ e. e.name) c.args.exports.now j x c.loop-j-test.true c.index-exports-j.is
    c.requires.short in
    let same : length name ≡ length x.name = ap length c.as_bytes.ensures in
    record {
      added
          = exports-next c.args.self.now c.loop-j.self c.push.new.self c.args.exports.now j x name
          c.loop-j-test.true c.index-exports-j.is c.as_bytes.ensures c.loop-j.invariant.added
          c.in_ok-push.ensures;
      bound
          = omega (
            arith,
            Adds-length c.loop-j.self c.push.new.self (here ∷ []) c.in_ok-push.ensures,
            length-names_bytes-one here,
            short,
            same,
            c.loop-j.invariant.bound,
          );
    }
