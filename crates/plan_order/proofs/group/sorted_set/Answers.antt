use Rattle.std.proofs.Common.{arith, ap, sym, ◌∙◌, subst, get_or}
use Rattle.std.specs.Prelude.{◌||◌, nat_eq}
use Rattle.std.proofs.lemmas.List.{get_or_default}
use Rattle.relation_order.specs.Sets.{has}
use Rattle.relation_order.proofs.PlaceSteps.{has-insert_key}
use Rattle.plan_order.specs.Finding.{Rises}
use Rattle.plan_order.proofs.Places.{rises-insert, has-more}
use Rattle.plan_order.proofs.group.sorted_set.Goals as goal

pub loop-item-preserved : goal.loop-item-preserved
loop-item-preserved c =
    let o = c.loop-item in
    let x = get_or c.args.items.now c.loop-item.item-index 0 in
    record {
      rises
          = subst Rises (sym c.in_ok-insert.ensures.keys)
          (rises-insert o.sorted.keys x o.invariant.rises);
      items = λ y.
          ap (λ ks. has ks y) c.in_ok-insert.ensures.keys ∙ has-insert_key o.sorted.keys x y
          ∙ ap (λ b. b || nat_eq y x) (o.invariant.items y)
          ∙ sym (has-more c.args.items.now o.item-index x y (omega arith)
          (get_or_default c.args.items.now o.item-index 0 x (omega arith)));
    }
