use Rattle.std.proofs.Common.{◌<◌, false, [], get_or, length, refl, sym, ap, ◌∙◌, subst}
use Rattle.relation_order.specs.Sets.{has, goes}
use Rattle.relation_order.specs.Rounds.{Finds}
use Rattle.relation_order.proofs.Lists.{goes-at}
use Rattle.relation_order.proofs.Finding.{listed-inside}
use Rattle.relation_order.proofs.FindSteps.{finds-start, finds-next_list}
use Rattle.relation_order.proofs.distances.find_round.Goals as goal

pub loop-y-init : goal.loop-y-init
loop-y-init c = record {
  long = refl;
  finds
      = subst
      (Finds (λ x. false) c.args.round c.args.none c.args.far.now.items c.args.far.now.items [])
      (sym c.new-found.ensures.items)
      (finds-start (λ x. false) c.args.round c.args.none c.args.far.now.items [] (λ z. refl));
}

pub loop-y-preserved : goal.loop-y-preserved
loop-y-preserved c =
    let l = c.loop-y in
    let y = get_or c.args.last.now l.y-index 0 in
    let low : y < length c.args.sources.now = c.requires.last l.y-index 0 c.loop-y-test.true in
    record {
      long = c.in_ok-find_all.ensures.long ∙ l.invariant.long;
      finds
          = finds-next_list (goes c.args.sources.now) c.deref.result.now c.args.last.now l.y-index
          c.args.round c.args.none c.args.far.now.items l.far.items c.find_all.new.far.items []
          l.found.items c.find_all.new.found.items c.loop-y-test.true c.requires.round
          (λ z. ap (λ xs. has xs z) c.deref.ensures.value
          ∙ sym (goes-at c.args.sources.now y z c.index-sources-y.result low
          c.index-sources-y.is))
          l.invariant.finds c.in_ok-find_all.ensures.finds;
    }

pub find_all-requires-clause-inside : goal.find_all-requires-clause-inside
find_all-requires-clause-inside c =
    let y = get_or c.args.last.now c.loop-y.y-index 0 in
    let low = c.requires.last c.loop-y.y-index 0 c.loop-y-test.true in
    rw c.deref.ensures.value
    (listed-inside c.args.sources.now y (length c.loop-y.far.items) c.index-sources-y.result
    c.requires.inside low c.index-sources-y.is (c.loop-y.invariant.long ∙ c.requires.long))
