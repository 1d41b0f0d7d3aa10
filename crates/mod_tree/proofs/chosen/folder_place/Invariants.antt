use Rattle.std.proofs.Common.{List, ℕ}
use Rattle.mod_tree.specs.Places.{IsPlacesOf}
use Rattle.mod_tree.proofs.Folders.{FolderSoFar}
use Rattle.mod_tree.proofs.chosen.folder_place.Given as goal

abbrev pub invariant-loop-end : goal.invariant-loop-end
invariant-loop-end l =
    (search : List (List ℕ)) → IsPlacesOf search l.places → FolderSoFar search l.path l.end l.least
