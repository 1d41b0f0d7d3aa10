use Rattle.std.proofs.Common.{◌≡◌, ◌≤◌, ◌+◌, ◌*◌, take, length}
use Rattle.std.specs.List.{flat_map}
use Rattle.sheet_object.specs.Symbols.{local_symbols}
use Rattle.sheet_object.proofs.relocations.local_count.Given as goal

abbrev pub invariant-loop-export : goal.invariant-loop-export
invariant-loop-export l = record {
  sum : l.count
      ≡ 1 + length (flat_map (local_symbols l.further.more.now) (take l.export-index l.exports));
  bound : l.count ≤ 1 + 3 * l.export-index;
}
