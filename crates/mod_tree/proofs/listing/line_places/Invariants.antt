use Rattle.std.proofs.Common.{◌≡◌, ◌++◌, ◌+◌, ◌≤◌, List, ℕ, length}
use Rattle.km_names.specs.Lines.{lines_of}
use Rattle.mod_tree.specs.Places.{IsPlacesOf}
use Rattle.mod_tree.proofs.listing.line_places.Given as goal

abbrev pub invariant-loop-rest : goal.invariant-loop-rest
invariant-loop-rest l =
    (items : List (List ℕ)) × IsPlacesOf items l.places
    × (items ++ lines_of l.rest ≡ lines_of l.text)
    × (l.places.count + length l.rest ≤ length l.text)

abbrev pub decreases-loop-rest : goal.decreases-loop-rest
decreases-loop-rest l = length l.rest
