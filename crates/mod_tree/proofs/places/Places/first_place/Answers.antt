use Rattle.std.proofs.Common.{◌∙◌}
use Rattle.std.specs.Str.{bytes_eq}
use Rattle.mod_tree.proofs.PlaceSteps.{place-or-count}
use Rattle.mod_tree.proofs.places.Places.first_place.Goals as goal

pub returns-in-None : goal.returns-in-None
returns-in-None c =
    λ items was. place-or-count (bytes_eq c.args.item.now) items _ _
    (c.in-None.ensures.value ∙ was.at c.args.item) was.count_is
