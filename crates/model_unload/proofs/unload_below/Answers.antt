use Rattle.std.proofs.Common.{◌∙◌, ap, sym}
use Rattle.std.specs.Prelude.{Ok}
use Rattle.model_unload.proofs.BelowLemmas.{is-unused}
use Rattle.model_unload.proofs.NameLemmas.{unloaded-unused}
use Rattle.model_unload.proofs.UnloadLemmas.{place-within}
use Rattle.model_unload.proofs.unload_below.Goals as goal

pub drop_entry-requires-clause-inside : goal.drop_entry-requires-clause-inside
drop_entry-requires-clause-inside c =
    place-within c.args.machine.now c.args.name.now _ (sym c.place_below-place.ensures)

pub drop_entry-requires-clause-unused : goal.drop_entry-requires-clause-unused
drop_entry-requires-clause-unused c =
    is-unused c.args.machine.now c.args.end c.args.name.now _ c.requires c.place_below-place.ensures

pub returns-clause-done : goal.returns-clause-done
returns-clause-done c =
    let machine = c.args.machine.now in
    let name = c.args.name.now in
    let place = c.place_below-place.result in
    let found = c.place_below-place.ensures in
    unloaded-unused machine name place found
    (is-unused machine c.args.end name place c.requires found)
    ∙ ap Ok (sym c.drop_entry.ensures.machine)
