use Rattle.std.proofs.Common.{◌≡◌, ◌++◌, drop}
use Rattle.std.specs.Prelude.{map}
use Rattle.mod_tree.specs.Listing.{listed_path}
use Rattle.mod_tree.proofs.listing.listed_paths.Given as goal

abbrev pub invariant-loop-listing : goal.invariant-loop-listing
invariant-loop-listing l =
    l.paths ++ map listed_path (drop l.listing-index l.list) ≡ map listed_path l.list
