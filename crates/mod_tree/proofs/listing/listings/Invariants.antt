use Rattle.std.proofs.Common.{◌≡◌, ◌++◌, List, ℕ, drop}
use Rattle.std.specs.Prelude.{All, map}
use Rattle.mod_tree.specs.Shown.{referents}
use Rattle.mod_tree.specs.Places.{IsPlacesOf}
use Rattle.mod_tree.specs.Listing.{IsListing, listed_path}
use Rattle.mod_tree.proofs.listing.listings.Given as goal

abbrev pub invariant-loop-path : goal.invariant-loop-path
invariant-loop-path l =
    (map listed_path l.list.items ++ referents (drop l.path-index l.chosen) ≡ referents l.chosen)
    × ((lines : List (List ℕ)) → IsPlacesOf lines l.places → All (IsListing lines) l.list.items)
