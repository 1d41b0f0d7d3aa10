use Rattle.std.proofs.Common.{◌∙◌}
use Rattle.sheet_object.proofs.FurtherLemmas.{place-found, place-none}
use Rattle.sheet_object.proofs.further.Further.space_place.Goals as goal

pub returns-in_err-k : goal.returns-in_err-k
returns-in_err-k c =
    let further = c.args.self.now in
    c.from_residual.ensures
    ∙ place-none further.more.now c.args.name.now
    (c.in_err-k.ensures ∙ further.space_names.places c.args.name.now)

pub returns : goal.returns
returns c =
    let further = c.args.self.now in
    c.copied.ensures ∙ c.get.ensures.item
    ∙ place-found further.more.now c.args.name.now further.places c.in_ok-k.k
    (c.in_ok-k.ensures ∙ further.space_names.places c.args.name.now) further.text_places
