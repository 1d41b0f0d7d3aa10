use Rattle.std.proofs.Common.{◌≡◌, ◌<◌, ◌∙◌, arith}
use Rattle.test_relations.proofs.LetterSteps.{letters, graphic-as, colon-as}
use Rattle.test_relations.proofs.limits.facts.Goals as goal

pub returns-clause-good : goal.returns-clause-good
returns-clause-good c =
    let few : c.args.number < 2500 = omega (arith, c.requires.there, c.requires.few) in
    let path : c.in_ok-from_slice.field-0 ≡ letters c.args.number
    = c.in_ok-from_slice.ensures ∙ c.as_bytes.ensures ∙ c.in_ok-name.ensures in
    record {
      distinct = c.in_ok-exports.ensures.distinct;
      path = graphic-as _ _ path few;
      name = graphic-as _ _ (c.name-2.view_is ∙ c.in_ok-name.ensures) few;
      exports = c.in_ok-exports.ensures.graphic;
      needs = c.in_ok-needs.ensures;
      colon = colon-as _ _ path few;
    }
