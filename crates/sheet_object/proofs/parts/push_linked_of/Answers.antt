use Rattle.sheet_object.proofs.SheetLemmas.{fits}
use Rattle.sheet_object.proofs.parts.push_linked_of.Goals as goal

pub new-requires-clause-gpl : goal.new-requires-clause-gpl
new-requires-clause-gpl c = (fits c.args.sheet.now c.args.more.now c.requires).gpl

pub new-requires-clause-spaces : goal.new-requires-clause-spaces
new-requires-clause-spaces c = (fits c.args.sheet.now c.args.more.now c.requires).spaces
