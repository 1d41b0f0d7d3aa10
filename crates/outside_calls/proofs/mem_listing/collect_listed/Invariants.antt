use Rattle.std.proofs.Common.{◌≡◌, map, ◌++◌}
use Rattle.std.specs.BTreeMap as tree
use Rattle.outside_calls.specs.Listing.{test_of, listed_of}
use Rattle.outside_calls.proofs.mem_listing.collect_listed.Given as goal

-- the names so far and those of the paths that are left are all
abbrev pub invariant-loop-path : goal.invariant-loop-path
invariant-loop-path g l =
    l.names ++ listed_of (test_of l.listing) l.prefix (map (λ path. path.items) l.path-iterator)
    ≡ listed_of (test_of l.listing) l.prefix (map (λ path. path.items) (tree.keys l.files))
