use Rattle.std.proofs.Common.{◌≡◌, ◌+◌, ◌++◌, ◌∷◌, [], codes, length, ap, ◌∙◌, arith}
use Rattle.std.specs.List.{flat_map}
use Rattle.sheet_object.specs.Symbols.{local_symbols, local_count, locals}
use Rattle.elf_write.specs.Part.{table}
use Rattle.sheet_object.specs.Object.{linked_parts}
use Rattle.sheet_object.proofs.PartLemmas.{part, three-more}
use Rattle.sheet_object.proofs.SheetLemmas.{fits}
use Rattle.sheet_object.proofs.parts.push_linked.Goals as goal

pub local_count-locals-requires : goal.local_count-locals-requires
local_count-locals-requires c =
    let f
    = fits c.args.sheet.now c.args.further.now.more.now c.requires in omega
    (arith, ap length c.as_slice.ensures, f.exports)

pub returns : goal.returns
unfolding linked_parts locals
returns c =
    let s = c.args.sheet.now in
    let m = c.args.further.now.more.now in
    let count : c.local_count-locals.result ≡ local_count s m =
    c.local_count-locals.ensures.count
    ∙ ap (λ xs. 1 + length (flat_map (local_symbols m) xs)) c.as_slice.ensures in
    let symbols = c.table-symbols.ensures ∙ ap (table 2 0 7) count in
    three-more c.args.parts.now.items c.push_part.new.parts.items c.push_part-2.new.parts.items
    c.push_part-3.new.parts.items
    (part (codes ".rela.data") c.table-relocated.result c.in_ok-words.words.items)
    (part (codes ".symtab") c.table-symbols.result c.in_ok-table.table.entries.items)
    (part (codes ".strtab") c.plain-names.result c.in_ok-table.table.names.items)
    c.in_ok-push_part.ensures c.in_ok-push_part-2.ensures c.in_ok-push_part-3.ensures
    ∙ (λ i. c.args.parts.now.items
    ++ part (codes ".rela.data") (c.table-relocated.ensures i) (c.in_ok-words.ensures i)
    ∷ part (codes ".symtab") (symbols i) (c.in_ok-table.ensures.entries i)
    ∷ part (codes ".strtab") (c.plain-names.ensures i) (c.in_ok-table.ensures.names i) ∷ [])
