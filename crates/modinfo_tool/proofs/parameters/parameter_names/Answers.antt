use Rattle.std.proofs.Common.{◌≤◌, length, ap, ◌∙◌, sym, refl, arith}
use Rattle.modinfo_fields.specs.Fields.{parameter_of}
use Rattle.modinfo_tool.specs.Parameters.{parameter_names}
use Rattle.modinfo_tool.proofs.ParameterSteps.{names-taken, names-left}
use Rattle.modinfo_tool.proofs.parameters.parameter_names.Goals as goal
use Rattle.modinfo_tool.proofs.parameters.parameter_names.Goals.{in-Some+then-is_parameter+in_ok-insert}
use Rattle.modinfo_tool.proofs.parameters.parameter_names.Goals.{in-Some+else-is_parameter}
use Rattle.modinfo_tool.proofs.parameters.parameter_names.Goals.{in_default}

pub loop-i-init : goal.loop-i-init
unfolding parameter_names
loop-i-init c = c.new-names.ensures

pub loop-i-preserved : goal.loop-i-preserved
loop-i-preserved c = elim c.match-get.branch [
  | in-Some+then-is_parameter+in_ok-insert w ↦
      w.names-is
      ∙ names-taken c.args.fields.now c.loop-i.i w.in-Some.field.now (sym w.in-Some.ensures.item)
      c.loop-i.names w.insert.new.self w.split_at_byte.result.0.now
      (sym w.is_parameter.ensures ∙ w.if-is_parameter.true) w.in_ok-insert.ensures.seen
      (w.split_at_byte.ensures.before ∙ ap parameter_of w.as_bytes.ensures) c.loop-i.invariant
  | in-Some+else-is_parameter w ↦
      w.names-is
      ∙ names-left c.args.fields.now c.loop-i.i w.in-Some.field.now (sym w.in-Some.ensures.item)
      c.loop-i.names
      (sym w.is_parameter.ensures ∙ w.if-is_parameter.false) c.loop-i.invariant
  | in_default w ↦
      let past : length c.args.fields.now ≤ c.loop-i.i = w.in_default.ensures.past_end.0 refl in
      absurd (omega (arith, past, c.loop-i-test.true, c.len-i-end.ensures))
]
