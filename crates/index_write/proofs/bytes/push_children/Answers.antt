use Rattle.std.proofs.Common.{sym, arith}
use Rattle.std.proofs.lemmas.Result.{on_ok_weaker}
use Rattle.index_write.proofs.WriteLemmas.{children-ends}
use Rattle.index_write.proofs.bytes.push_children.Goals as goal

pub returns : goal.returns
returns c =
    on_ok_weaker c.push_offsets.result
    (children-ends c.args.links.now c.in-Some-Some.first.now c.in-Some-Some.last.now
    c.args.out.now.items c.push.new.self.items c.push-2.new.self.items
    c.push_offsets.new.out.items c.from-start.result _
    (sym c.in-Some-Some.ensures.value) (sym c.in-Some-Some.ensures'.value)
    c.in_ok-push.ensures.items c.in_ok-push-2.ensures.items c.from-start.ensures
    (omega (arith, c.from-start.ensures, c.from.ensures, c.saturating_sub-count.ensures)))
    c.push_offsets.ensures
