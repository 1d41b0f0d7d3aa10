use Rattle.std.proofs.Common.{◌<◌, ◌+◌, subst, sym, arith}
use Rattle.provider_rel.specs.Tree.{IsTree}
use Rattle.test_relations.proofs.LetterSteps.{Fresh, longer, no-modules, one-more, one-more-fresh}
use Rattle.test_relations.proofs.limits.tree.Goals as goal

pub loop-number-init : goal.loop-number-init
loop-number-init c =
    let none
    = no-modules _ c.new-tree.ensures in record { good = none.0; long = none.1; fresh = none.2 }

pub loop-number-preserved : goal.loop-number-preserved
loop-number-preserved c =
    let is = c.in_ok-push.ensures.ok in
    let i = c.loop-number.invariant in
    let few : c.loop-number.number < 2500 = omega (arith, c.requires, c.loop-number-test.true) in
    let more
    = one-more _ _ _ i.good i.long few c.in_ok-facts.ensures.good c.in_ok-facts.ensures.named
    i.fresh in
    record {
      good = subst IsTree (sym is) more;
      long = longer _ _ _ _ i.long is;
      fresh
          = subst (Fresh (c.loop-number.number + 1)) (sym is)
          (one-more-fresh _ _ _ c.in_ok-facts.ensures.named i.fresh);
    }
