use Rattle.std.proofs.Common.{◌≤◌, ◌++◌, ◌∷◌, [], length, ap, sym, ◌∙◌, map, filter, not, take}
use Rattle.std.proofs.Common.{refl, arith}
use Rattle.modinfo_fields.specs.declared.piece.Field.{Field}
use Rattle.modinfo_tool.specs.Parameters.{is_parameter}
use Rattle.modinfo_tool.specs.Show.{labelled, ended}
use Rattle.modinfo_tool.proofs.LineSteps.{item-taken, passing-taken, passing-left}
use Rattle.modinfo_tool.proofs.text.push_fields.Goals as goal
use Rattle.modinfo_tool.proofs.text.push_fields.Goals.{in-Some+then-not-is_parameter+in_ok-push_labelled}
use Rattle.modinfo_tool.proofs.text.push_fields.Goals.{in-Some+else-not-is_parameter, in_default}

pub loop-i-preserved : goal.loop-i-preserved
loop-i-preserved c =
    let line = λ (field : Field). labelled field.key field.value in
    let listed = λ (field : Field). not (is_parameter field) in
    let fields = c.args.fields.now in
    let i = c.loop-i.i in
    elim c.match-get.branch [
      | in-Some+then-not-is_parameter+in_ok-push_labelled w ↦
          let field = w.in-Some.field.now in
          let shown
          = passing-taken listed fields i field (sym w.in-Some.ensures.item)
          (ap not (sym w.is_parameter.ensures ∙ w.if-not-is_parameter.true)) in
          w.text-is
          ∙ w.in_ok-push_labelled.ensures.ok
          ∙ ap (λ k. c.loop-i.text
          ++ (labelled k w.as_bytes-then-not-is_parameter.result.now ++ c.args.end ∷ []))
          w.as_bytes.ensures
          ∙ ap (λ v. c.loop-i.text ++ (labelled field.key v ++ c.args.end ∷ []))
          w.as_bytes-then-not-is_parameter.ensures
          ∙ item-taken line c.args.end (filter listed (take i fields)) field c.args.text.now
          c.loop-i.text c.loop-i.invariant
          ∙ sym (ap (λ l. c.args.text.now ++ ended c.args.end (map line l)) shown)
      | in-Some+else-not-is_parameter w ↦
          let left
          = passing-left listed fields i w.in-Some.field.now (sym w.in-Some.ensures.item)
          (ap not (sym w.is_parameter.ensures ∙ w.if-not-is_parameter.false)) in
          w.text-is ∙ c.loop-i.invariant
          ∙ sym (ap (λ l. c.args.text.now ++ ended c.args.end (map line l)) left)
      | in_default w ↦
          let past : length fields ≤ i = w.in_default.ensures.past_end.0 refl in
          absurd (omega (arith, past, c.loop-i-test.true, c.len-i-end.ensures))
    ]
