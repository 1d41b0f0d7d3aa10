use Rattle.std.proofs.Common.{sym, arith}
use Rattle.module_symbols.specs.Versions.{entry_name}
use Rattle.module_symbols.proofs.EntryLemmas.{are_bad_entries-false, are_bad_entries-true, nameless}
use Rattle.module_symbols.proofs.versions.are_bad_entries.Goals as goal

pub returns-then-is_none : goal.returns-then-is_none
returns-then-is_none c =
    let b = c.args.bytes.now in
    let k = c.loop-k.k in
    let missing
    = nameless c.entry_name.result (entry_name b k) c.is_none.result c.entry_name.ensures
    c.is_none.ensures c.if-is_none.true in
    sym (are_bad_entries-true b k (omega arith) missing)

pub returns : goal.returns
returns c =
    sym (are_bad_entries-false c.args.bytes.now c.if-bytes-ne0.false
    (λ k less. c.loop-k.invariant k (omega arith)))
