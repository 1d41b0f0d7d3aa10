use Rattle.std.proofs.Common.{map, sym, arith}
use Rattle.std.proofs.lemmas.List.{length-map}
use Rattle.sheet_object.proofs.DistinctLemmas.{chosen-not}
use Rattle.sheet_object.proofs.conditions.are_chosen.Goals as goal

pub returns-then-items-others : goal.returns-then-items-others
returns-then-items-others g c =
    let items = c.args.items.now in
    let others = c.args.others.now in
    sym (chosen-not (map g.S.Named.name others) (map g.T.Named.name items)
    (omega (
      arith,
      length-map items g.T.Named.name,
      length-map others g.S.Named.name,
      c.if-items-others.true,
    )))
