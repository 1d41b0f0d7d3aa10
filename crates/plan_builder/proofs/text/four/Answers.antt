use Rattle.std.proofs.Common.{◌≡◌, subst}
use Rattle.std.specs.Prelude.{IfOk}
use Rattle.plan_builder.proofs.Texts.{spaced-four}
use Rattle.plan_builder.proofs.text.four.Goals as goal

pub returns : goal.returns
returns c =
    subst (λ t. IfOk c.spaced.result (λ text. text ≡ t))
    (spaced-four c.args.word.now c.args.a.now c.args.b.now c.args.c.now) c.spaced.ensures
