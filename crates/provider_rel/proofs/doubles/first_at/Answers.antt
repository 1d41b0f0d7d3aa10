use Rattle.provider_rel.proofs.LinkSteps.{first-there}
use Rattle.provider_rel.proofs.doubles.first_at.Goals as goal

pub returns-in-None-clause-first : goal.returns-in-None-clause-first
returns-in-None-clause-first c =
    absurd (first-there c.args.names.now c.args.items.now c.args.k c.args.item.now c.name.result.now
    c.requires.names c.requires.place c.requires.item c.name.ensures c.in-None.ensures)
