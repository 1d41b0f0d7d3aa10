use Rattle.std.proofs.Common.{◌||◌, get_or, ap, sym, ◌∙◌, arith}
use Rattle.std.specs.Str.{bytes_eq}
use Rattle.std.proofs.lemmas.List.Folds.{list_any_more}
use Rattle.dependency_lines.specs.Modules.{path_at}
use Rattle.dependency_lines.proofs.Firsts.{bytes-sym}
use Rattle.plan_builder.proofs.check.paths_of.Goals as goal

pub loop-place-preserved : goal.loop-place-preserved
loop-place-preserved c path =
    let place = get_or c.args.places.now c.loop-place.place-index 0 in
    c.in_ok-insert.ensures.among path
    ∙ (λ i. c.loop-place.invariant path i
    || (ap (bytes_eq path) c.path.ensures
    ∙ bytes-sym path (path_at c.args.modules.now place)) i)
    ∙ sym (list_any_more (λ x. bytes_eq (path_at c.args.modules.now x) path) c.args.places.now
    c.loop-place.place-index 0 (omega arith))
