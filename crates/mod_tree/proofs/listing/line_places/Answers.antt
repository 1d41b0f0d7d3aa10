use Rattle.std.proofs.Common.{sym, eqb-true}
use Rattle.mod_tree.proofs.ListingSteps.{places-all}
use Rattle.mod_tree.proofs.listing.line_places.Goals as goal

pub returns : goal.returns
returns c =
    let i = c.loop-rest.invariant in
    places-all i.0 c.loop-rest.places c.loop-rest.rest.now c.args.text.now i.1 i.2
    (eqb-true _ _ (sym c.loop-rest-test.ensures))
