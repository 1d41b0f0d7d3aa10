use Rattle.std.proofs.Common.{◌≡◌, ◌+◌, ◌<◌, ◌≤◌, ◌^◌, map, length}
use Rattle.std.specs.BTreeMap as tree
use Rattle.outside_calls.specs.Listing.{test_of, listed_of}
use Rattle.outside_calls.proofs.mem_listing.count_listed.Given as goal

-- the count so far and that of the paths that are left are the whole
abbrev pub invariant-loop-path : goal.invariant-loop-path
invariant-loop-path l =
    (l.count
    + length (listed_of (test_of l.listing) l.prefix (map (λ path. path.items) l.path-iterator))
    ≡ length
    (listed_of (test_of l.listing) l.prefix (map (λ path. path.items) (tree.keys l.files))))
    × (l.count + length l.path-iterator ≤ length (tree.keys l.files))
    × (length (tree.keys l.files) < 2 ^ 63)
