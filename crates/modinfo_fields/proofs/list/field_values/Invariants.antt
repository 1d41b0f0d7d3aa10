use Rattle.std.proofs.Common.{◌≡◌, ◌++◌, length}
use Rattle.modinfo_fields.specs.Fields.{fields_of, values_of_key}
use Rattle.modinfo_fields.proofs.list.field_values.Given as goal

abbrev pub invariant-loop-rest : goal.invariant-loop-rest
invariant-loop-rest l =
    l.values ++ values_of_key l.key (fields_of l.rest) ≡ values_of_key l.key (fields_of l.bytes)

abbrev pub decreases-loop-rest : goal.decreases-loop-rest
decreases-loop-rest l = length l.rest
