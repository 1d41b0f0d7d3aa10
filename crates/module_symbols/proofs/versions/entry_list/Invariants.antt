use Rattle.std.proofs.Common.{◌≡◌, ◌≤◌, length, map}
use Rattle.std.specs.List.{filter_map, range_with_len}
use Rattle.module_symbols.specs.Listed.{version_entry}
use Rattle.module_symbols.specs.Versions.{entry}
use Rattle.module_symbols.proofs.versions.entry_list.Given as goal

abbrev pub invariant-loop-k : goal.invariant-loop-k
invariant-loop-k l = record {
  list : map version_entry l.list ≡ filter_map (entry l.bytes) (range_with_len 0 l.k);
  few : length l.list ≤ l.k;
}
