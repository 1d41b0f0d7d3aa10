use Rattle.std.proofs.Common.{ap, ◌∙◌, arith, ◌+◌, ◌++◌}
use Rattle.index_format.specs.File.{number}
use Rattle.index_write.specs.Links.{links_of}
use Rattle.index_write.proofs.WriteLemmas.{offsets-next}
use Rattle.index_write.proofs.bytes.push_offsets.Goals as goal

pub loop-n-preserved : goal.loop-n-preserved
loop-n-preserved c =
    offsets-next (links_of c.args.links.now) c.args.first c.args.count c.loop-n.n c.loop-n.out.items
    c.push_number.new.out.items _ (omega arith) c.loop-n.invariant
    (c.in_ok-push_number.ensures
    ∙ ap (λ o. c.loop-n.out.items ++ number o)
    (c.offset_table-table.ensures (c.args.first + c.loop-n.n) (omega arith)))
