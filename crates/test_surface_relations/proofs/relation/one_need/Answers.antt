use Rattle.std.proofs.Common.{IsTrue}
use Rattle.km_names.specs.Ascii.{is_graphic}
use Rattle.module_symbols.specs.declared.needs.Need.{Need}
use Rattle.test_surface_relations.proofs.TreeSteps.{alone}
use Rattle.test_surface_relations.proofs.relation.one_need.Goals as goal

pub returns : goal.returns
returns g c =
    alone (λ (n : Need). IsTrue (is_graphic n.name)) _ _ c.only.ensures c.word.ensures.graphic
