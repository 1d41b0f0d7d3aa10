use Rattle.elf_write.proofs.ParamLemmas.{params-few, params-short, parts-put}
use Rattle.elf_write.proofs.params.param_object.Goals as goal

pub file_of-requires-clause-few : goal.file_of-requires-clause-few
file_of-requires-clause-few c =
    params-few c.as_slice-params.result.now c.in_ok-linked.linked.addresses.items
    c.deref-2.result.now
    (parts-put c.as_slice-params.result.now c.in_ok-linked.linked.addresses.items
    c.new-parts.result.items c.push_loaded.new.parts.items c.push_linked.new.parts.items
    c.push_further.new.parts.items c.deref-2.result.now c.new.result.items
    c.new-parts.ensures.items c.new.ensures.items c.in_ok-push_loaded.ensures
    c.in_ok-push_linked.ensures c.in_ok-push_further.ensures c.deref-2.ensures.value)

pub file_of-requires-clause-short : goal.file_of-requires-clause-short
file_of-requires-clause-short c =
    params-short c.as_slice-params.result.now c.in_ok-linked.linked.addresses.items
    c.deref-2.result.now
    (parts-put c.as_slice-params.result.now c.in_ok-linked.linked.addresses.items
    c.new-parts.result.items c.push_loaded.new.parts.items c.push_linked.new.parts.items
    c.push_further.new.parts.items c.deref-2.result.now c.new.result.items
    c.new-parts.ensures.items c.new.ensures.items c.in_ok-push_loaded.ensures
    c.in_ok-push_linked.ensures c.in_ok-push_further.ensures c.deref-2.ensures.value)
