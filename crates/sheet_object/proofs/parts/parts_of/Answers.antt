use Rattle.sheet_object.proofs.SheetLemmas.{fits}
use Rattle.sheet_object.proofs.parts.parts_of.Goals as goal

pub push_loaded-requires-clause-exports : goal.push_loaded-requires-clause-exports
push_loaded-requires-clause-exports c = (fits c.args.sheet.now c.args.more.now c.requires).exports

pub push_loaded-requires-clause-places : goal.push_loaded-requires-clause-places
push_loaded-requires-clause-places c = (fits c.args.sheet.now c.args.more.now c.requires).places

pub push_loaded-requires-clause-versions : goal.push_loaded-requires-clause-versions
push_loaded-requires-clause-versions c = (fits c.args.sheet.now c.args.more.now c.requires).versions

pub further_parts-requires-clause-versions : goal.further_parts-requires-clause-versions
further_parts-requires-clause-versions c = (fits c.args.sheet.now c.args.more.now c.requires).ext

pub further_parts-requires-clause-gpl : goal.further_parts-requires-clause-gpl
further_parts-requires-clause-gpl c = (fits c.args.sheet.now c.args.more.now c.requires).gpl
