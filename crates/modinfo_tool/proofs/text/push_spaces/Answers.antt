use Rattle.std.proofs.Common.{◌++◌, ◌∷◌, [], ap, ◌∙◌, append_assoc, codes}
use Rattle.std.specs.List.{repeat}
use Rattle.modinfo_tool.proofs.LineSteps.{repeat-push}
use Rattle.modinfo_tool.proofs.text.push_spaces.Goals as goal

pub loop-space-preserved : goal.loop-space-preserved
loop-space-preserved c =
    c.in_ok-push.ensures.ok
    ∙ ap (λ t. t ++ 32 ∷ []) c.loop-space.invariant
    ∙ append_assoc c.args.text.now (repeat c.loop-space._space (codes " ")) (32 ∷ [])
    ∙ ap (λ t. c.args.text.now ++ t) (repeat-push c.loop-space._space (codes " "))
