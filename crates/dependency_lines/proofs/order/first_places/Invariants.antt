use Rattle.dependency_lines.specs.Places.{AreFirst}
use Rattle.dependency_lines.proofs.order.first_places.Given as goal

abbrev pub invariant-loop-place : goal.invariant-loop-place
invariant-loop-place l = AreFirst l.place l.places.items
