use Rattle.std.proofs.Common.{◌≡◌, ◌<◌, length, arith, sym, ◌∙◌, subst}
use Rattle.std.specs.Prelude.{All}
use Rattle.relation_order.proofs.Lists.{has-at}
use Rattle.plan_order.proofs.GroupFinding.{Progress, started, followed, ended, inside}
use Rattle.plan_order.proofs.SlotLaws.{successors-inside}
use Rattle.plan_order.proofs.groups.find_group.Goals as goal

pub loop-next-init : goal.loop-next-init
loop-next-init c =
    let e : c.len-next.result ≡ length c.args.found.now.items
    = omega (arith, c.args.found.now.ok.0) in
    subst (λ n. Progress c.args.lists.now c.args.free.now c.args.request.now c.args.found.now.items
    n c.find_all.new.found.items c.find_all.new.seen.items) (sym e)
    (started c.args.lists.now c.args.free.now c.args.request.now c.args.found.now.items
    c.find_all.new.found.items c.find_all.new.seen.items c.requires.closed
    (c.in_ok-find_all.ensures.found c.requires.marks)
    (c.in_ok-find_all.ensures.marks c.requires.marks)
    (c.in_ok-find_all.ensures.long ∙ c.requires.seen_long))

pub get-requires : goal.get-requires
get-requires c =
    inside c.loop-next.invariant c.index-item.result.now
    (has-at c.loop-next.found.items c.loop-next.next c.index-item.result.now (omega arith)
    c.index-item.ensures)

pub find_all-requires-in-loop-next-clause-inside : goal.find_all-requires-in-loop-next-clause-inside
find_all-requires-in-loop-next-clause-inside c =
    let lists = c.args.lists.now in
    let n : length c.args.lists.now ≡ length c.loop-next.seen.items
    = omega (arith, c.loop-next.invariant.long) in
    subst (λ n. All (λ y. y < n) c.get.result.now) n
    (subst (All (λ y. y < length lists)) (sym c.get.ensures)
    (successors-inside (length lists) lists c.index-item.result.now c.requires.inside
    (inside c.loop-next.invariant c.index-item.result.now
    (has-at c.loop-next.found.items c.loop-next.next c.index-item.result.now (omega arith)
    c.index-item.ensures))))

pub loop-next-preserved : goal.loop-next-preserved
loop-next-preserved c =
    let p = c.loop-next.invariant in
    followed c.args.lists.now c.args.free.now c.args.request.now c.args.found.now.items
    c.loop-next.next c.index-item.result.now c.get.result.now c.loop-next.found.items
    c.find_all-in-loop-next.new.found.items c.loop-next.seen.items
    c.find_all-in-loop-next.new.seen.items c.requires.closed p (omega arith)
    c.index-item.ensures c.get.ensures
    (c.in_ok-find_all-2.ensures.found p.marks)
    (c.in_ok-find_all-2.ensures.marks p.marks)
    (c.in_ok-find_all-2.ensures.long ∙ p.long)

pub returns-clause-found : goal.returns-clause-found
returns-clause-found c =
    ended c.args.lists.now c.args.free.now c.args.request.now c.args.found.now.items
    c.loop-next.next c.loop-next.found.items c.loop-next.seen.items c.loop-next.invariant
    (omega arith)
