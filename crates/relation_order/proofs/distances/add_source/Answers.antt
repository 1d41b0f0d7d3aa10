use Rattle.std.proofs.Common.{◌≡◌, Bool, true, false, eqb, get_or, take, refl, sym, ap, ◌∙◌}
use Rattle.std.specs.Prelude.{◌&&◌, ◌||◌}
use Rattle.std.proofs.lemmas.List.Folds.{list_any_more}
use Rattle.relation_order.specs.Sets.{has, goes}
use Rattle.relation_order.proofs.distances.add_source.Goals as goal

one-more : (old before here item : Bool)
    → ((old || (before && item)) || (here && item)) ≡ (old || ((before || here) && item))
one-more true before here item = refl
one-more false true here true = refl
one-more false true true false = refl
one-more false true false false = refl
one-more false false here item = refl

pub loop-y-preserved : goal.loop-y-preserved
loop-y-preserved c =
    let targets = c.args.targets.now in
    let l = c.loop-y in
    let place = get_or targets l.y-index 0 in
    record {
      long = c.in_ok-add_at.ensures.long ∙ l.invariant.long;
      goes = λ y x.
          c.in_ok-add_at.ensures.added y x
          ∙ ap (λ b. b || (eqb y place && eqb x c.args.item)) (l.invariant.goes y x)
          ∙ one-more (goes c.args.sources.now.items y x) (has (take l.y-index targets) y)
          (eqb y place) (eqb x c.args.item)
          ∙ ap (λ b. goes c.args.sources.now.items y x || (b && eqb x c.args.item))
          (sym (list_any_more (eqb y) targets l.y-index 0 c.loop-y-test.true));
    }
