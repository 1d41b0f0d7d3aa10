use Rattle.std.proofs.Common.{ap, ◌∙◌}
use Rattle.dependency_lines.specs.Modules.{place_of}
use Rattle.dependency_lines.specs.Tables.{at_places}
use Rattle.dependency_lines.proofs.Named.{place-named}
use Rattle.dependency_lines.proofs.Kept.{place-kept}
use Rattle.dependency_lines.proofs.modules.Modules.place.Goals as goal

pub returns-in-Some : goal.returns-in-Some
returns-in-Some c =
    let kept = rw c.in-Some.is at c.self.invariant in
    c.place_in.ensures
    ∙ place-named c.in-Some.names (at_places c.self.inside.lines.now c.self.inside.places.items)
    c.args.name.now kept.named
    ∙ ap (λ ms. place_of ms c.args.name.now) c.self.view_is

pub returns-in-None : goal.returns-in-None
returns-in-None c =
    let kept = rw c.in-None.is at c.self.invariant in
    place-kept c.self.inside.lines.now c.self.inside.places.items c.args.name.now c.number_of.result
    kept.inside kept.rise kept.are c.number_of.ensures
    ∙ ap (λ ms. place_of ms c.args.name.now) c.self.view_is
