use Rattle.std.proofs.Common.{◌≡◌, ◌++◌, drop}
use Rattle.std.specs.List.{flat_map}
use Rattle.index_format.specs.File.{value_bytes}
use Rattle.index_write.specs.Lists.{shown_values}
use Rattle.index_write.proofs.bytes.push_values.Given as goal

abbrev pub invariant-loop-value : goal.invariant-loop-value
invariant-loop-value l =
    l.out.items ++ flat_map value_bytes (drop l.value-index (shown_values l.values))
    ≡ l.initial.out.items ++ flat_map value_bytes (shown_values l.values)
