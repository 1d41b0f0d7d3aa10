use Rattle.std.proofs.Common.{◌≡◌, [], ◌∷◌, arith, ap, ◌≤◌, length}
use Rattle.elf_format.specs.declared.symbol.TheConstants.{SHN_UNDEF}
use Rattle.sheet_object.specs.Symbols.{SymbolEntry}
use Rattle.sheet_object.proofs.SymbolLemmas.{needs-next, Adds-length, length-names_bytes-one}
use Rattle.sheet_object.proofs.SymbolLemmas.{short-at}
use Rattle.sheet_object.proofs.symbols.SymbolTable.push_needs.Goals as goal

pub loop-need-preserved : goal.loop-need-preserved
loop-need-preserved c =
    let i = c.loop-need.need-index in
    let x = c.need-item.result in
    let name = c.as_bytes.result.now in
    let here : SymbolEntry
    = record
    { name = name; info = c.need_info.result; section = SHN_UNDEF; value = 0; size = 0 } in
    let short : length x.name ≤ 4096
    = short-at (λ n. n.name) c.args.needs.now i x c.loop-need-test.true c.need-item.is
    c.requires.short in
    let same : length name ≡ length x.name = ap length c.as_bytes.ensures in
    record {
      added
          = needs-next c.args.self.now c.loop-need.self c.push.new.self c.args.needs.now i x name
          c.need_info.result c.loop-need-test.true c.need-item.is c.as_bytes.ensures
          c.need_info.ensures c.loop-need.invariant.added c.in_ok-push.ensures;
      bound
          = omega (
            arith,
            Adds-length c.loop-need.self c.push.new.self (here ∷ []) c.in_ok-push.ensures,
            length-names_bytes-one here,
            short,
            same,
            c.loop-need.invariant.bound,
          );
    }
