use Rattle.std.proofs.Common.{◌≡◌, take}
use Rattle.index_read.specs.Values.{found_values}
use Rattle.name_lookup.specs.Maps.{texts}
use Rattle.name_lookup.proofs.index_names.names_of.Given as goal

abbrev pub invariant-loop-value : goal.invariant-loop-value
invariant-loop-value l = l.names ≡ texts (found_values (take l.value-index l.values))
