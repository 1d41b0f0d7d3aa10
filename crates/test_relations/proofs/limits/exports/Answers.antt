use Rattle.std.specs.Prelude.{IsTrue}
use Rattle.km_names.specs.Ascii.{is_graphic}
use Rattle.module_symbols.specs.declared.exports.Export.{Export}
use Rattle.test_relations.proofs.LetterSteps.{alone, graphic-as}
use Rattle.test_relations.proofs.limits.exports.Goals as goal

pub returns-clause-graphic : goal.returns-clause-graphic
returns-clause-graphic c =
    alone (λ (e : Export). IsTrue (is_graphic e.name)) _ _ _ c.new-exports.ensures
    c.in_ok-push.ensures.ok (graphic-as _ _ c.in_ok-name.ensures c.requires)
