use Rattle.std.proofs.Common.{◌≡◌, ◌++◌, length}
use Rattle.modinfo_fields.specs.Fields.{fields_of, values_of_key}
use Rattle.modinfo_tool.specs.Show.{ended}
use Rattle.modinfo_tool.proofs.text.show_values.Given as goal

abbrev pub invariant-loop-rest : goal.invariant-loop-rest
invariant-loop-rest l =
    l.text ++ ended l.end (values_of_key l.key (fields_of l.rest))
    ≡ ended l.end (values_of_key l.key (fields_of l.section))

abbrev pub decreases-loop-rest : goal.decreases-loop-rest
decreases-loop-rest l = length l.rest
