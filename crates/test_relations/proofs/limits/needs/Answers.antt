use Rattle.std.proofs.Common.{arith}
use Rattle.std.specs.Prelude.{IsTrue}
use Rattle.km_names.specs.Ascii.{is_graphic}
use Rattle.module_symbols.specs.declared.needs.Need.{Need}
use Rattle.test_relations.proofs.LetterSteps.{pushed, graphic-as}
use Rattle.test_relations.proofs.limits.needs.Goals as goal

pub loop-number-preserved : goal.loop-number-preserved
loop-number-preserved c =
    pushed (λ (n : Need). IsTrue (is_graphic n.name)) _ _ _ c.loop-number.invariant
    c.in_ok-push.ensures.ok
    (graphic-as _ _ c.in_ok-name.ensures (omega (arith, c.requires, c.loop-number-test.true)))
