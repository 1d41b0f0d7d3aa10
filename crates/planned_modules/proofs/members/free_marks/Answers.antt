use Rattle.std.proofs.Common.{not, ap, ◌∙◌, length}
use Rattle.std.specs.Prelude.{filter}
use Rattle.name_table.specs.FirstSeen.{is_among}
use Rattle.relation_order.specs.Sets.{below}
use Rattle.relation_order.proofs.Saturation.{filter-same}
use Rattle.dependency_lines.specs.Modules.{name_at}
use Rattle.plan_sources.specs.Sources.{modules}
use Rattle.plan_sources.specs.Planner.{sources_of}
use Rattle.planned_modules.proofs.Marks.{then-ok, marked-map, length-marks}
use Rattle.planned_modules.proofs.members.free_marks.Goals as goal

pub returns-clause-long : goal.returns-clause-long
returns-clause-long c =
    then-ok c.marks_but.result _ _
    (λ free e. length-marks
    (λ x. not (is_among c.in_ok-loaded.loaded (name_at c.modules.result.now x)))
    (length c.modules.result.now) free.items e
    ∙ ap length c.modules.ensures)
    c.marks_but.ensures

pub returns-clause-marks : goal.returns-clause-marks
returns-clause-marks c =
    let s = sources_of c.args.planner.now in
    then-ok c.marks_but.result _ _
    (λ free e.
    marked-map (λ x. not (is_among c.in_ok-loaded.loaded (name_at c.modules.result.now x)))
    (length c.modules.result.now) free.items e
    ∙ ap (λ ms. filter (λ x. not (is_among c.in_ok-loaded.loaded (name_at ms x)))
    (below (length ms))) c.modules.ensures
    ∙ filter-same (λ x. not (is_among c.in_ok-loaded.loaded (name_at (modules s) x)))
    (λ x. not (is_among s.loaded (name_at (modules s) x))) (below (length (modules s)))
    (λ x _. ap not (c.in_ok-loaded.ensures (name_at (modules s) x)
    ∙ ap (λ ns. is_among ns (name_at (modules s) x)) c.loaded.ensures)))
    c.marks_but.ensures
