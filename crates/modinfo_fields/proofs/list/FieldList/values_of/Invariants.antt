use Rattle.std.proofs.Common.{◌≡◌, take}
use Rattle.modinfo_fields.specs.Fields.{values_of_key}
use Rattle.modinfo_fields.proofs.list.FieldList.values_of.Given as goal

abbrev pub invariant-loop-field : goal.invariant-loop-field
invariant-loop-field l = l.values ≡ values_of_key l.key (take l.field-index l.field-items)
