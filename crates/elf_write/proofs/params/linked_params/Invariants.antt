use Rattle.std.proofs.Common.{◌≡◌, take}
use Rattle.std.specs.List.{flat_map, range_with_len}
use Rattle.elf_write.specs.Params.{entry_addresses, names_of_params}
use Rattle.elf_write.proofs.params.linked_params.Given as goal

abbrev pub invariant-loop-k : goal.invariant-loop-k
invariant-loop-k l = record {
  names : l.names.items ≡ names_of_params (take l.k l.params);
  addresses : l.addresses.items ≡ flat_map (entry_addresses l.params) (range_with_len 0 l.k);
}
