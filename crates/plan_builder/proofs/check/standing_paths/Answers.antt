use Rattle.std.proofs.Common.{◌<◌, length, sym, ap, ◌∙◌, subst}
use Rattle.std.specs.Prelude.{All}
use Rattle.dependency_lines.specs.Modules.{places_of}
use Rattle.plan_sources.proofs.Inside.{places-inside}
use Rattle.plan_builder.proofs.check.standing_paths.Goals as goal

pub paths_of-requires : goal.paths_of-requires
paths_of-requires c =
    subst (All (λ y. y < length c.modules-2.result.now))
    (sym (c.deref.ensures.value ∙ c.in_ok-places.ensures
    ∙ ap (λ ms. places_of ms c.loaded.result.now)
    (c.modules.ensures ∙ sym c.modules-2.ensures)))
    (places-inside c.modules-2.result.now c.loaded.result.now)
