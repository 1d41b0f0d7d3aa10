use Rattle.std.proofs.Common.{subst, sym}
use Rattle.plan_order.specs.Places.{IsPlaceIn}
use Rattle.plan_order.proofs.Places.{place-is}
use Rattle.plan_order.proofs.group.place_of.Goals as goal

pub returns : goal.returns
returns c =
    subst (IsPlaceIn c.args.members.now c.args.item) (sym c.ok.ensures.value)
    (place-is c.args.members.now c.args.item c.binary_search.result c.requires
    c.binary_search.ensures.position)
