use Rattle.dependency_lines.specs.Places.{ArePlaces}
use Rattle.dependency_lines.proofs.order.places_or_count.Given as goal

abbrev pub invariant-loop-place : goal.invariant-loop-place
invariant-loop-place l = ArePlaces l.lines l.places.items l.place
