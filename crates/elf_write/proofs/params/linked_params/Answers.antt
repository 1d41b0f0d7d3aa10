use Rattle.std.proofs.Common.{◌≡◌, ◌++◌, length, ap, ◌∙◌, arith}
use Rattle.elf_write.specs.Params.{name_place}
use Rattle.elf_write.proofs.ParamLemmas.{entries-more, param_names-more}
use Rattle.elf_write.proofs.params.linked_params.Goals as goal

pub loop-k-preserved : goal.loop-k-preserved
loop-k-preserved c =
    let ps = c.args.params.now in
    let k = c.loop-k.k in
    let p = c.index-params-k.result in
    let names = ap length c.loop-k.invariant.names in
    let place : c.in-Some.place ≡ name_place ps k = omega (arith, c.in-Some.ensures.1, names) in
    record {
      names
          = param_names-more ps k p c.loop-k.names.items c.extend_from_slice.new.self.items
          c.push.new.self.items c.loop-k-test.true c.index-params-k.is c.loop-k.invariant.names
          (c.in_ok-extend_from_slice.ensures.items
          ∙ ap (λ l. c.loop-k.names.items ++ l) c.as_bytes.ensures)
          c.in_ok-push.ensures.items;
      addresses
          = entries-more ps k c.in-Some.place c.loop-k.addresses.items c.push_entry.new.out.items
          c.loop-k.invariant.addresses place c.in_ok-push_entry.ensures;
    }
