use Rattle.std.proofs.Common.{◌++◌, ◌∷◌, [], ap, ◌∙◌, codes}
use Rattle.modinfo_tool.specs.Show.{labelled}
use Rattle.modinfo_tool.proofs.LineSteps.{next-taken}
use Rattle.modinfo_tool.proofs.text.push_parameters.Goals as goal

pub loop-value-preserved : goal.loop-value-preserved
loop-value-preserved c =
    c.in_ok-push_labelled.ensures.ok
    ∙ ap (λ v. c.loop-value.text ++ (labelled (codes "parm") v ++ c.args.end ∷ []))
    c.as_bytes.ensures
    ∙ next-taken (labelled (codes "parm")) c.args.end c.args.values.now c.loop-value.value-index
    c.value-item.result c.args.text.now c.loop-value.text
    c.loop-value-test.true c.value-item.is c.loop-value.invariant
