-- Paths with their places among the lines of modules.order, as the code sorts them.
-- It belongs to the code: no public meaning rests on it.
use Rattle.std.specs.Prelude.{◌≡◌, ℕ, List}
use Rattle.std.specs.List.{position_or_len}
use Rattle.std.specs.Str.{bytes_eq}
use Rattle.mod_tree.specs.declared.listing.Listing.{Listing}

-- The path of a listing.
abbrev pub listed_path : Listing → List ℕ
listed_path e = e.path.now

-- The place is the one of the path's first line, or the number of lines.
pub record IsListing (lines : List (List ℕ)) (e : Listing) : Type 0 where
  pub place : e.place ≡ position_or_len (bytes_eq e.path.now) lines
