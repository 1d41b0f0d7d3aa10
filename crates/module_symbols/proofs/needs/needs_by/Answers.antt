use Rattle.std.proofs.Common.{◌++◌, ◌∷◌, [], map, take, ◌∙◌, ap, sym}
use Rattle.std.specs.List.{enumerate_from, filter}
use Rattle.elf_object.specs.Symbols.{owned_symbol}
use Rattle.module_symbols.specs.Needs.{is_need, need_of}
use Rattle.module_symbols.specs.Versions.{version_list}
use Rattle.module_symbols.proofs.ListLemmas.{numbered-failed, numbered-passed}
use Rattle.module_symbols.proofs.needs.needs_by.Goals as goal
use Rattle.module_symbols.proofs.needs.needs_by.Goals.{then-is_need+in_ok-left+in_ok-read_need+in_ok-push}
use Rattle.module_symbols.proofs.needs.needs_by.Goals.{else-is_need}

pub loop-i-preserved : goal.loop-i-preserved
loop-i-preserved c =
    let symbols = c.args.object.now.symbols in
    let versions = version_list c.args.object.now in
    let i = c.loop-i.i in
    let s = owned_symbol c.symbol-symbol.result in
    elim c.if-is_need.branch [
      | then-is_need+in_ok-left+in_ok-read_need+in_ok-push w ↦
          w.needs-is ∙ w.in_ok-push.ensures.ok
          ∙ rw (c.loop-i.invariant, w.in_ok-read_need.ensures)
          (ap (λ l. map (λ p. need_of (version_list c.args.object.now) p.0 p.1)
          (filter (λ p. is_need p.0 p.1) (enumerate_from 0 (take i symbols)))
          ++ need_of l i s ∷ []) c.requires
          ∙ sym (numbered-passed (λ p. is_need p.0 p.1) (λ p. need_of versions p.0 p.1) symbols i s
          c.symbol-symbol.ensures.symbol (sym c.is_need.ensures ∙ w.if-is_need.true)))
      | else-is_need w ↦
          w.needs-is ∙ c.loop-i.invariant
          ∙ sym (numbered-failed (λ p. is_need p.0 p.1) (λ p. need_of versions p.0 p.1) symbols i s
          c.symbol-symbol.ensures.symbol (sym c.is_need.ensures ∙ w.if-is_need.false))
    ]
