use Rattle.std.proofs.Common.{◌≡◌, ◌++◌, ◌∷◌, [], codes, ap, ◌∙◌}
use Rattle.elf_write.specs.declared.part.Part.{Part}
use Rattle.sheet_object.specs.Further.{further_part, crc_bytes, name_bytes}
use Rattle.sheet_object.proofs.FurtherLemmas.{some-parts, two-more}
use Rattle.sheet_object.proofs.further.push_versions.Goals as goal

pub returns : goal.returns
returns c =
    let m = c.args.more.now in
    let old = c.args.parts.now.items in
    let p = c.in_ok-further_part.field-0 in
    let q = c.in_ok-further_part-2.field-0 in
    let first : p ≡ further_part (codes "__version_ext_crcs") (crc_bytes m.ext) =
    c.in_ok-further_part.ensures
    ∙ ap (further_part (codes "__version_ext_crcs"))
    (c.in_ok-crcs.ensures ∙ ap crc_bytes c.as_slice.ensures) in
    let second : q ≡ further_part (codes "__version_ext_names") (name_bytes m.ext) =
    c.in_ok-further_part-2.ensures
    ∙ ap (further_part (codes "__version_ext_names"))
    (c.in_ok-names.ensures ∙ ap name_bytes c.as_slice-2.ensures) in
    two-more old c.push.new.self.items c.push-2.new.self.items p q c.in_ok-push.ensures.items
    c.in_ok-push-2.ensures.items
    ∙ ap (λ (x : Part). old ++ x ∷ q ∷ []) first
    ∙ ap (λ (x : Part). old ++ further_part (codes "__version_ext_crcs") (crc_bytes m.ext) ∷ x ∷ [])
    second
    ∙ ap (λ ps. old ++ ps)
    (some-parts m.ext _ c.is_empty.result c.is_empty.ensures c.if-is_empty.false)
