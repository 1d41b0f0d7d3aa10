use Rattle.std.proofs.Common.{◌++◌, ◌∷◌, [], codes, ◌∙◌}
use Rattle.elf_write.specs.Number.{zeros}
use Rattle.elf_write.specs.Params.{linked_param_parts}
use Rattle.elf_write.proofs.PartLemmas.{part, three-more}
use Rattle.elf_write.proofs.params.push_linked.Goals as goal

pub returns : goal.returns
unfolding linked_param_parts zeros
returns c =
    three-more c.args.parts.now.items c.push_part.new.parts.items c.push_part-2.new.parts.items
    c.push_part-3.new.parts.items
    (part (codes ".rela__param") c.table-relocated.result c.args.addresses.items)
    (part (codes ".symtab") c.table-symbols.result c.in_ok-table.table.items)
    (part (codes ".strtab") c.plain-names.result c.in_ok-empty.empty.items)
    c.in_ok-push_part.ensures c.in_ok-push_part-2.ensures c.in_ok-push_part-3.ensures
    ∙ (λ i. c.args.parts.now.items
    ++ part (codes ".rela__param") (c.table-relocated.ensures i) c.args.addresses.items
    ∷ part (codes ".symtab") (c.table-symbols.ensures i) (c.in_ok-table.ensures i)
    ∷ part (codes ".strtab") (c.plain-names.ensures i) (c.in_ok-empty.ensures i) ∷ [])
