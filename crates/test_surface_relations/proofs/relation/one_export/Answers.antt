use Rattle.std.proofs.Common.{IsTrue}
use Rattle.km_names.specs.Ascii.{is_graphic}
use Rattle.module_symbols.specs.declared.exports.Export.{Export}
use Rattle.test_surface_relations.proofs.TreeSteps.{alone}
use Rattle.test_surface_relations.proofs.relation.one_export.Goals as goal

pub returns-clause-graphic : goal.returns-clause-graphic
returns-clause-graphic g c =
    alone (λ (e : Export). IsTrue (is_graphic e.name)) _ _ c.only.ensures c.word.ensures.graphic
