use Rattle.test_surface_relations.proofs.relation.facts.Goals as goal

pub returns-clause-good : goal.returns-clause-good
returns-clause-good g c =
    record {
      distinct = c.one_export.ensures.distinct;
      path = c.path.ensures.graphic;
      name = c.word.ensures.graphic;
      exports = c.one_export.ensures.graphic;
      needs = c.one_need.ensures;
      colon = c.path.ensures.colon;
    }
