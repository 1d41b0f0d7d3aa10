use Rattle.std.proofs.Common.{◌≡◌, refl, sym, ap, ◌∙◌, suc, ◌+◌, ◌-◌, ◌*◌, arith}
use Rattle.std.specs.List.{cons_option}
use Rattle.index_nodes.specs.Pending.{links_at}
use Rattle.index_nodes.proofs.ArrivalLemmas.{link_present, link_absent, links_next}
use Rattle.index_nodes.proofs.check.next_child.Goals as goal

pub returns-then-place-ne0 : goal.returns-then-place-ne0
returns-then-place-ne0 c =
    let b = c.args.bytes.now in
    let p = c.args.pending.now in
    let link = c.be_u32_at-link.result in
    let here = p.next + 4 * c.loop-n.n in
    let m = p.left - c.loop-n.n - 1 in
    let one : p.left - c.loop-n.n ≡ suc m = omega arith in
    let present_here = link_present link (λ z. c.if-place-ne0.true (c.place.ensures.place ∙ z)) in (
      c.loop-n.invariant
          ∙ ap (links_at b here) one
          ∙ links_next b here m link c.be_u32_at-link.ensures
          ∙ ap (λ o. cons_option o (links_at b (here + 4) m)) present_here,
      refl,
      omega arith,
    )

pub loop-n-preserved : goal.loop-n-preserved
loop-n-preserved c =
    let b = c.args.bytes.now in
    let p = c.args.pending.now in
    let link = c.be_u32_at-link.result in
    let here = p.next + 4 * c.loop-n.n in
    let m = p.left - (c.loop-n.n + 1) in
    let one : p.left - c.loop-n.n ≡ suc m = omega arith in
    let on : here + 4 ≡ p.next + 4 * (c.loop-n.n + 1) = omega arith in
    let absent_here = link_absent link (sym c.place.ensures.place ∙ c.if-place-ne0.false) in
    c.loop-n.invariant
    ∙ ap (links_at b here) one
    ∙ links_next b here m link c.be_u32_at-link.ensures
    ∙ ap (λ o. cons_option o (links_at b (here + 4) m)) absent_here
    ∙ ap (λ k. links_at b k m) on

pub returns : goal.returns
unfolding links_at
returns c =
    let p = c.args.pending.now in
    let done : p.left - c.loop-n.n ≡ 0 = omega arith in
    c.loop-n.invariant ∙ ap (links_at c.args.bytes.now (p.next + 4 * c.loop-n.n)) done
