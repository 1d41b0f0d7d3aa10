-- What of a folder is listed: the names of configuration files, or the paths of all files below it.
-- It belongs to the code that implements the traits: no meaning of the traits rests on it.
use Rattle.std.specs.Prelude.{ℕ, Bool, List, Option, Some, None, if◌then◌else◌}
use Rattle.std.specs.List.{filter_map}
use Rattle.outside_calls.specs.Contents.{is_conf_name, is_path, rest_after}
use Rattle.outside_calls.specs.declared.listing.Listing.{Listing}
use Rattle.outside_calls.specs.declared.listing.Listing.TheVariants.{Conf, Tree}
use Rattle.outside_calls.specs.declared.mem_files.CallKind.{CallKind}
use Rattle.outside_calls.specs.declared.mem_files.CallKind.TheVariants.{ListConf, ListTree}

-- The kind of calls that list in this way.
abbrev pub kind_of : Listing → CallKind
kind_of Conf = ListConf
kind_of Tree = ListTree

-- The test of the names that are listed.
abbrev pub test_of : Listing → List ℕ → Bool
test_of Conf = is_conf_name
test_of Tree = is_path

-- The rest, if it passes the test.
abbrev pub passing : (List ℕ → Bool) → Option (List ℕ) → Option (List ℕ)
passing fits None = None
passing fits (Some rest) = if fits rest then Some rest else None

-- The listed ones of these paths, for a folder whose path with a slash at its end is the prefix.
abbrev pub listed_of : (List ℕ → Bool) → List ℕ → List (List ℕ) → List (List ℕ)
listed_of fits prefix paths = filter_map (λ path. passing fits (rest_after prefix path)) paths
