use Rattle.std.proofs.Common.{ap}
use Rattle.std.specs.Ordering.{nat_cmp}
use Rattle.std.specs.Cmp.Lexicographic.{slice_cmp}
use Rattle.std.specs.FinMap.{entries-from_sorted}
use Rattle.index_format.specs.Tree.{nodes_below, tree}
use Rattle.index_format.specs.File.{node_bytes, written, file_of, file}
use Rattle.index_format.specs.declared.numbers.TheConstants.{FIRST_PLACE}
use Rattle.index_format.specs.Worked.{five_entries, two_modules_entries}
use Rattle.index_format.proofs.Maps.{entries-empty}
use Rattle.index_format.proofs.worked.small_files.Goals as goal

pub returns-clause-no_keys : goal.returns-clause-no_keys
unfolding file file_of written node_bytes tree nodes_below
returns-clause-no_keys c = ap (λ es. file_of (written FIRST_PLACE (tree es))) entries-empty

pub returns-clause-five_keys : goal.returns-clause-five_keys
unfolding file file_of written node_bytes tree nodes_below
returns-clause-five_keys c =
    ap (λ es. file_of (written FIRST_PLACE (tree es)))
    (entries-from_sorted (slice_cmp nat_cmp) five_entries tt)

pub returns-clause-two_modules : goal.returns-clause-two_modules
unfolding file file_of written node_bytes tree nodes_below
returns-clause-two_modules c =
    ap (λ es. file_of (written FIRST_PLACE (tree es)))
    (entries-from_sorted (slice_cmp nat_cmp) two_modules_entries tt)
