use Rattle.std.proofs.Common.{◌<◌, length, sym, ◌∙◌, subst}
use Rattle.std.specs.Prelude.{All}
use Rattle.dependency_lines.specs.Modules.{needed_names, line_at}
use Rattle.plan_sources.specs.Sources.{modules}
use Rattle.plan_sources.specs.Planner.{sources_of}
use Rattle.plan_sources.proofs.Inside.{places-inside}
use Rattle.plan_sources.proofs.planner.Planner.is_available.Goals as goal

pub any_troubled-requires : goal.any_troubled-requires
any_troubled-requires c =
    let ms = modules (sources_of c.args.self.now) in
    subst (All (λ y. y < length (modules (sources_of c.args.self.now))))
    (sym (c.deref.ensures.value ∙ c.in_ok-line.ensures))
    (places-inside ms (needed_names (line_at ms c.args.place)))
