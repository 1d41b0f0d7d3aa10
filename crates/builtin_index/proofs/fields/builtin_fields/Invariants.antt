use Rattle.std.proofs.Common.{◌≡◌, ◌++◌, length}
use Rattle.builtin_index.specs.Fields.{fields_of}
use Rattle.builtin_index.proofs.fields.builtin_fields.Given as goal

abbrev pub invariant-loop-rest : goal.invariant-loop-rest
invariant-loop-rest l = l.list.items ++ fields_of l.rest ≡ fields_of l.bytes

abbrev pub decreases-loop-rest : goal.decreases-loop-rest
decreases-loop-rest l = length l.rest
