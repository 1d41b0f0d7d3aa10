use Rattle.std.proofs.Common.{◌+◌, ◌∙◌, ap}
use Rattle.km_names.specs.Path.{underscored}
use Rattle.modinfo_fields.specs.Fields.{parameter_of}
use Rattle.param_apply.proofs.NameLemmas.{table-more}
use Rattle.param_apply.proofs.parameter.text_names.Goals as goal

pub loop-text-preserved : goal.loop-text-preserved
loop-text-preserved c = record {
  table =
      table-more c.push_name.new.names parameter_of c.args.texts.now c.loop-text.text-index
      c.text-item.result (underscored c.split_at_byte.result.0.now) c.loop-text-test.true
      c.text-item.is
      (ap underscored (c.split_at_byte.ensures.before ∙ ap parameter_of c.as_bytes.ensures))
      (c.in_ok-push_name.ensures.table _ c.loop-text.invariant.table);
  count = c.in_ok-push_name.ensures.count ∙ ap (λ n. n + 1) c.loop-text.invariant.count;
}
