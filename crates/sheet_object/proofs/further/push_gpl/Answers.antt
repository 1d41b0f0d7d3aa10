use Rattle.std.proofs.Common.{◌++◌, ◌∷◌, [], codes, ap, ◌∙◌, ◌*◌, length}
use Rattle.elf_write.specs.declared.part.Part.{Part}
use Rattle.elf_write.specs.Number.{zeros}
use Rattle.sheet_object.specs.Further.{further_part}
use Rattle.sheet_object.proofs.FurtherLemmas.{some-parts}
use Rattle.sheet_object.proofs.further.push_gpl.Goals as goal

pub returns : goal.returns
returns c =
    let m = c.args.more.now in
    let old = c.args.parts.now.items in
    c.in_ok-push.ensures.items
    ∙ ap (λ (x : Part). old ++ x ∷ [])
    (c.in_ok-further_part.ensures
    ∙ ap (further_part (codes "__ksymtab_gpl")) (c.in_ok-tables.ensures
    ∙ ap (λ n. zeros (8 * n)) c.len.ensures))
    ∙ ap (λ ps. old ++ ps)
    (some-parts m.gpl _ c.is_empty.result c.is_empty.ensures c.if-is_empty.false)
