use Rattle.std.proofs.Common.{◌∙◌}
use Rattle.sheet_object.proofs.FurtherLemmas.{section-gpl, section-text}
use Rattle.sheet_object.proofs.further.Further.table_section.Goals as goal

pub returns-then-is_some : goal.returns-then-is_some
returns-then-is_some c =
    let m = c.args.self.now.more.now in
    c.gpl_section.ensures.section
    ∙ section-gpl m c.args.name.now c.place.result c.is_some.result
    (c.place.ensures ∙ c.args.self.now.gpl_names.places c.args.name.now) c.is_some.ensures
    c.if-is_some.true

pub returns-else-is_some : goal.returns-else-is_some
returns-else-is_some c =
    let m = c.args.self.now.more.now in
    section-text m c.args.name.now c.place.result c.is_some.result
    (c.place.ensures ∙ c.args.self.now.gpl_names.places c.args.name.now) c.is_some.ensures
    c.if-is_some.false
