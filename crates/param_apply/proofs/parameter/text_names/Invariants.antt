use Rattle.std.proofs.Common.{◌≡◌, Some, map, take}
use Rattle.km_names.specs.Path.{underscored}
use Rattle.name_table.specs.NameTable.{IsTableOf}
use Rattle.modinfo_fields.specs.Fields.{parameter_of}
use Rattle.param_apply.proofs.parameter.text_names.Given as goal

abbrev pub invariant-loop-text : goal.invariant-loop-text
invariant-loop-text l = record {
  table : IsTableOf l.names
      (map (λ text. Some (underscored (parameter_of text))) (take l.text-index l.texts));
  count : l.names.count ≡ l.text-index;
}
