use Rattle.std.proofs.Common.{arith, ap, ◌∙◌, ◌++◌}
use Rattle.elf_write.proofs.FileLemmas.{finished, take_whole}
use Rattle.elf_write.proofs.file.ObjectFile.finish.Goals as goal

pub returns : goal.returns
returns c = λ l count named is.
    take_whole c.extend_from_slice.new.self.len c.put_table_place.new.file _
    (omega (arith, c.put_table_place.auto.file))
    ∙ finished l count named c.args.self.bytes.items c.fill_up.new.file.items c.deref_mut.result.now
    c.put_table_place.new.file c.args.self.headers.items c.len-place.result is.bytes is.headers
    c.in_ok-fill_up.ensures
    (c.deref_mut.ensures.value ∙ c.in_ok-extend_from_slice.ensures.items
    ∙ ap (λ t. c.fill_up.new.file.items ++ t) c.deref.ensures.value)
    (omega (arith, c.len-place.ensures))
    c.put_table_place.ensures
