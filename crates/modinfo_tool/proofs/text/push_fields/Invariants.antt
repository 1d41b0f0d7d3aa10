use Rattle.std.proofs.Common.{◌≡◌, ◌++◌, map, filter, not, take}
use Rattle.modinfo_fields.specs.declared.piece.Field.{Field}
use Rattle.modinfo_tool.specs.Parameters.{is_parameter}
use Rattle.modinfo_tool.specs.Show.{ended, labelled}
use Rattle.modinfo_tool.proofs.text.push_fields.Given as goal

abbrev pub invariant-loop-i : goal.invariant-loop-i
invariant-loop-i l = l.text
    ≡ l.fn.text
    ++ ended l.end
    (map (λ (field : Field). labelled field.key field.value)
    (filter (λ field. not (is_parameter field)) (take l.i l.fields)))
