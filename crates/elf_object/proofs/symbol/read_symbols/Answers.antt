use Rattle.std.proofs.Common.{◌≡◌, map, sym, ap, ◌∙◌, inl, inr, below_more, arith}
use Rattle.std.proofs.lemmas.List.{map-append}
use Rattle.std.proofs.lemmas.Result.{err_from_is_err_and}
use Rattle.std.proofs.lemmas.List.FromFn.{map-range_with_len_more}
use Rattle.elf_object.specs.Symbols.{entries, owned_symbol, symbol_in, symbol_test_in, symbols_in}
use Rattle.elf_sections.proofs.TestLemmas.{each-failed, each-passed}
use Rattle.elf_object.proofs.symbol.read_symbols.Goals as goal

pub returns-in_err-symbol-clause-fault : goal.returns-in_err-symbol-clause-fault
returns-in_err-symbol-clause-fault c =
    let test = symbol_test_in c.args.table.now c.args.names.now c.args.count in
    let p
    = err_from_is_err_and c.from_residual-in_err-symbol.result
    c.from_residual-in_err-symbol.ensures.1 in
    rw (p.1, p.2)
    (elim c.in_err-symbol.ensures.fault [
      | inl memory ↦ inl memory
      | inr failed ↦ inr
          (each-failed (entries c.args.table.now) test c.loop-index.index _ (omega arith)
          c.loop-index.invariant.tests failed)
    ])

pub loop-index-preserved : goal.loop-index-preserved
loop-index-preserved c =
    let i = c.loop-index.index in
    record {
      tests = below_more _ _ c.loop-index.invariant.tests c.in_ok-symbol.ensures.passed;
      symbols_are =
          ap (map owned_symbol) c.in_ok-push.ensures.items
          ∙ map-append owned_symbol c.loop-index.symbols.items _
          ∙ rw (c.loop-index.invariant.symbols_are, c.in_ok-symbol.ensures.symbol)
          (sym (map-range_with_len_more (symbol_in c.args.table.now c.args.names.now) 0 i i
          (omega arith)));
      within = let within = c.loop-index.invariant.within in omega arith;
    }

pub returns-clause-symbols : goal.returns-clause-symbols
unfolding symbols_in
returns-clause-symbols c =
    let end : c.loop-index.index ≡ entries c.args.table.now = omega arith in
    ap (map owned_symbol) c.from_vec.ensures ∙ rw end at c.loop-index.invariant.symbols_are

pub returns-clause-passed : goal.returns-clause-passed
returns-clause-passed c =
    each-passed (entries c.args.table.now)
    (symbol_test_in c.args.table.now c.args.names.now c.args.count)
    (λ k less. c.loop-index.invariant.tests k (omega arith))
