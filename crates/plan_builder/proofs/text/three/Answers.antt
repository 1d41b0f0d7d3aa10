use Rattle.std.proofs.Common.{◌≡◌, subst}
use Rattle.std.specs.Prelude.{IfOk}
use Rattle.plan_builder.proofs.Texts.{spaced-three}
use Rattle.plan_builder.proofs.text.three.Goals as goal

pub returns : goal.returns
returns c =
    subst (λ t. IfOk c.spaced.result (λ text. text ≡ t))
    (spaced-three c.args.word.now c.args.a.now c.args.b.now) c.spaced.ensures
