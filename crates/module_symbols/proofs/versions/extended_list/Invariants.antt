use Rattle.std.proofs.Common.{◌≡◌, ◌≤◌, ◌/◌, ◌-◌, ◌++◌, ◌*◌, map, length}
use Rattle.std.specs.List.{range_with_len, zip}
use Rattle.km_names.specs.Number.{le}
use Rattle.module_symbols.specs.Listed.{version_entry}
use Rattle.module_symbols.specs.Versions.{ended_names, extended_list}
use Rattle.module_symbols.proofs.versions.extended_list.Given as goal

abbrev pub invariant-loop-k : goal.invariant-loop-k
invariant-loop-k l = record {
  list :
      extended_list l.crcs l.names
      ≡ map version_entry l.list
      ++ zip (ended_names l.rest)
      (map (λ j. le l.crcs (4 * j) 4) (range_with_len l.k (length l.crcs / 4 - l.k)));
  few : length l.list ≤ l.k;
}
