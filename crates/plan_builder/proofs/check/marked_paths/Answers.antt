use Rattle.std.proofs.Common.{◌<◌, length, sym, ap, ◌∙◌, subst}
use Rattle.std.specs.Prelude.{All}
use Rattle.plan_builder.proofs.Answering.{marked-inside}
use Rattle.plan_builder.proofs.check.marked_paths.Goals as goal

pub paths_of-requires : goal.paths_of-requires
paths_of-requires c =
    subst (All (λ y. y < length c.modules.result.now))
    (sym (c.deref.ensures.value ∙ c.in_ok-places.ensures))
    (marked-inside c.args.marks.now (length c.modules.result.now)
    (c.requires ∙ ap length (sym c.modules.ensures)))
