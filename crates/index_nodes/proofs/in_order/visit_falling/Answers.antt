use Rattle.std.proofs.Common.{◌≡◌, sym, ap, subst, ◌∙◌, suc, ◌-◌, ◌∷◌, [], ◌++◌, take, get_or}
use Rattle.std.proofs.Common.{arith}
use Rattle.std.proofs.Math.Seq.{take-suc}
use Rattle.index_format.specs.Link.{place_of}
use Rattle.index_nodes.proofs.OrderLemmas.{Falling, falls_from, falls_on, fell}
use Rattle.index_nodes.proofs.in_order.visit_falling.Goals as goal

pub loop-count-init : goal.loop-count-init
loop-count-init c =
    let b = c.args.bytes.now in
    let link = c.be_u32_at.result in
    let v = rw c.in-Some.is at c.in_ok-count.ensures.visited in
    record {
      within = rw c.in-Some.is at c.in_ok-count.ensures.within;
      way =
          subst (Falling b (take c.in-Some.count c.visit_lower.new.links))
          (sym c.place-above.ensures.place)
          (subst (λ ls. Falling b ls (place_of link)) (sym v.links)
          (falls_from b link c.be_u32_at.ensures v.low v.sound));
      starts_known = c.visit_lower.ensures.starts;
    }

pub loop-count-preserved : goal.loop-count-preserved
loop-count-preserved c =
    let b = c.args.bytes.now in
    let w = c.loop-count.invariant in
    let links = c.loop-count.links in
    let above = c.loop-count.above in
    let j = c.loop-count.count - 1 in
    let link = get_or links j 0 in
    let one : c.loop-count.count ≡ suc j = omega (arith, c.loop-count-test.true) in
    let all : take c.loop-count.count links ≡ take j links ++ link ∷ []
    = ap (λ n. take n links) one ∙ take-suc links j 0 (omega (arith, one, w.within)) in
    let v = rw c.in-Some-2.is at c.in_ok-next.ensures.visited in
    record {
      within = rw c.in-Some-2.is at c.in_ok-next.ensures.within;
      way =
          subst (Falling b (take c.in-Some-2.next c.visit_lower-in-loop-count.new.links))
          (sym c.place-above-in-loop-count.ensures.place)
          (subst (λ ls. Falling b ls (place_of link)) (sym v.links)
          (falls_on b (take j links) above link (subst (λ ls. Falling b ls above) all w.way)
          v.low v.sound));
      starts_known = c.visit_lower-in-loop-count.ensures.starts;
    }

pub returns : goal.returns
returns c =
    let links = c.loop-count.links in
    let none : c.loop-count.count ≡ 0 = omega (arith, c.loop-count-test.false) in
    λ _. fell c.args.bytes.now (take c.loop-count.count links) c.loop-count.above
    c.loop-count.invariant.way (ap (λ n. take n links) none)
