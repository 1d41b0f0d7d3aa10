use Rattle.std.proofs.Common.{◌++◌, ◌∷◌, [], codes, ap, ◌∙◌}
use Rattle.elf_write.specs.declared.part.Part.{Part}
use Rattle.sheet_object.specs.Further.{further_part, space_bytes}
use Rattle.sheet_object.proofs.FurtherLemmas.{some-parts}
use Rattle.sheet_object.proofs.further.push_spaces.Goals as goal

pub returns : goal.returns
returns c =
    let m = c.args.more.now in
    let old = c.args.parts.now.items in
    c.in_ok-push.ensures.items
    ∙ ap (λ (x : Part). old ++ x ∷ [])
    (c.in_ok-further_part.ensures
    ∙ ap (further_part (codes "__ksymtab_strings"))
    (c.in_ok-texts.ensures ∙ ap space_bytes c.as_slice.ensures))
    ∙ ap (λ ps. old ++ ps)
    (some-parts m.spaces _ c.is_empty.result c.is_empty.ensures c.if-is_empty.false)
