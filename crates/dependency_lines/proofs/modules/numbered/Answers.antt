use Rattle.dependency_lines.proofs.Kept.{kept-order}
use Rattle.dependency_lines.proofs.modules.numbered.Goals as goal

pub returns-in-Some : goal.returns-in-Some
returns-in-Some c =
    let are = rw c.in-Some.is at c.in_ok-places.ensures.are in
    let inside = rw c.in-Some.is at c.in_ok-places.ensures.inside in
    kept-order c.args.lines.now c.in-Some.places.items are inside
