use Rattle.std.proofs.Common.{[], ◌<◌, get_or, length, refl, ap, ◌∙◌, arith}
use Rattle.std.proofs.lemmas.List.{length-set}
use Rattle.relation_order.specs.Sets.{has}
use Rattle.relation_order.proofs.FindSteps.{finds-start, finds-next_free, finds-next_taken}
use Rattle.relation_order.proofs.distances.find_all.Goals as goal
use Rattle.relation_order.proofs.distances.find_all.Goals.{then-index-none+in_ok-push}
use Rattle.relation_order.proofs.distances.find_all.Goals.{else-index-none}

pub loop-x-init : goal.loop-x-init
loop-x-init c = record {
  long = refl;
  finds
      = finds-start (has []) c.args.round c.args.none c.args.far.now.items c.args.found.now.items
      (λ z. refl);
}

pub loop-x-preserved : goal.loop-x-preserved
loop-x-preserved c =
    let l = c.loop-x in
    let x = get_or c.args.items.now l.x-index 0 in
    let old : x < length c.args.far.now.items = c.requires.inside l.x-index 0 c.loop-x-test.true in
    let low : x < length l.far.items = omega (arith, l.invariant.long) in
    elim c.if-index-none.branch [
      | then-index-none+in_ok-push w ↦ record {
        long
            = ap (λ v. length v.items) w.far-is ∙ length-set l.far.items x c.args.round
            ∙ l.invariant.long;
        finds
            = finds-next_free c.args.items.now l.x-index c.args.round c.args.none
            c.args.far.now.items l.far.items c.args.found.now.items l.found.items
            c.loop-x-test.true c.requires.round l.invariant.finds c.index.result.now
            c.if-index-none.far.items c.if-index-none.found.items low c.index.ensures
            w.if-index-none.true (ap (λ v. v.items) w.far-is)
            (ap (λ v. v.items) w.found-is ∙ w.in_ok-push.ensures.items);
      }
      | else-index-none w ↦ record {
        long = ap (λ v. length v.items) w.far-is ∙ l.invariant.long;
        finds
            = finds-next_taken c.args.items.now l.x-index c.args.round c.args.none
            c.args.far.now.items l.far.items c.args.found.now.items l.found.items
            c.loop-x-test.true c.requires.round l.invariant.finds c.index.result.now
            c.if-index-none.far.items c.if-index-none.found.items low c.index.ensures
            w.if-index-none.false (ap (λ v. v.items) w.far-is) (ap (λ v. v.items) w.found-is);
      }
    ]
