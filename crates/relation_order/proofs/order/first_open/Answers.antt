use Rattle.std.proofs.Common.{◌∙◌, sym, arith, false}
use Rattle.std.specs.Prelude.{slice_index_or, true, ◌≡◌}
use Rattle.std.proofs.lemmas.List.Elements.{All-more}
use Rattle.relation_order.proofs.PlaceSteps.{closed-listed}
use Rattle.relation_order.proofs.order.first_open.Goals as goal

pub loop-at-preserved : goal.loop-at-preserved
loop-at-preserved c =
    let members = c.args.members.now in
    let listed = c.args.listed.now in
    record {
      within = omega arith;
      front
          = All-more
          (λ y. slice_index_or members y false ≡ true → slice_index_or listed y false ≡ true)
          c.args.items.now c.loop-at.at 0 c.loop-at-test.true c.loop-at.invariant.front
          (closed-listed _ _ (sym c.is_open.ensures ∙ c.if-not-is_open.true));
    }
