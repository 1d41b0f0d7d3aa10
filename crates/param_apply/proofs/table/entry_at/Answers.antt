use Rattle.std.proofs.Common.{◌∙◌, ap}
use Rattle.km_names.specs.Strings.{string_at}
use Rattle.param_apply.proofs.TableLemmas.{entry-named, entry-unnamed}
use Rattle.param_apply.proofs.table.entry_at.Goals as goal

pub returns-in-Some : goal.returns-in-Some
returns-in-Some c =
    entry-named c.args.image.now c.args.base c.args.table c.args.k c.in-Some.name.now
    c.place_of-at.result
    (c.in-Some.ensures.string ∙ ap (string_at c.args.image.now) c.name_place-place.ensures)
    c.place_of-at.ensures

pub returns-in-None : goal.returns-in-None
returns-in-None c =
    entry-unnamed c.args.image.now c.args.base c.args.table c.args.k c.place_of-at.result
    (c.in-None.ensures.string ∙ ap (string_at c.args.image.now) c.name_place-place.ensures)
    c.place_of-at.ensures
