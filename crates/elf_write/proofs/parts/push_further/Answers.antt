use Rattle.std.proofs.Common.{◌++◌, ◌∷◌, [], codes, ap, ◌∙◌}
use Rattle.std.proofs.lemmas.List.{append_assoc}
use Rattle.std.specs.List.{flat_map}
use Rattle.elf_write.specs.declared.part.Part.{Part}
use Rattle.elf_write.specs.Number.{with_nul}
use Rattle.elf_write.proofs.PartLemmas.{part, names-put}
use Rattle.elf_write.proofs.parts.push_further.Goals as goal

pub returns : goal.returns
returns c =
    let before = c.args.parts.now.items in
    let after = c.args.further.items in
    let names
    = names-put before after (codes ".shstrtab") c.push.new.self.items
    c.push_names.new.out.items c.extend_from_slice.new.self.items c.push-2.new.self.items
    c.push_names-2.new.out.items
    (c.in_ok-push.ensures.items ∙ ap (λ l. l ++ 0 ∷ []) c.new-names.ensures.items)
    (c.in_ok-push_names.ensures
    ∙ ap (λ l. c.push.new.self.items ++ flat_map (λ (p : Part). with_nul p.name) l)
    c.deref.ensures.value)
    c.in_ok-extend_from_slice.ensures.items c.in_ok-push-2.ensures.items
    (c.in_ok-push_names-2.ensures
    ∙ ap (λ l. c.push-2.new.self.items ++ flat_map (λ (p : Part). with_nul p.name) l)
    c.deref-2.ensures.value) in
    c.in_ok-append.ensures.items
    ∙ ap (λ l. l ++ after) c.in_ok-push_part.ensures
    ∙ append_assoc before _ after
    ∙ (λ i. before ++ part (codes ".shstrtab") (c.plain-attributes.ensures i) (names i) ∷ after)
