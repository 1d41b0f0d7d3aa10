use Rattle.std.proofs.Common.{◌≡◌, [], ◌∷◌, map, length, ap, sym, ◌∙◌}
use Rattle.std.specs.Option.{option_map}
use Rattle.std.proofs.Math.Path.{fun_ext}
use Rattle.std.proofs.lemmas.Result.{err_from_is_err_and}
use Rattle.km_names.specs.First.{first}
use Rattle.name_table.specs.FirstSeen.{is_among}
use Rattle.relation_order.specs.Cycle.{cycle}
use Rattle.plan_order.specs.Lists.{among}
use Rattle.unmet_file.specs.declared.kind.LineKind.TheVariants as kinds
use Rattle.dependency_lines.specs.Modules.{name_at}
use Rattle.dependency_lines.proofs.Faults.{right}
use Rattle.plan_sources.specs.Sources.{modules}
use Rattle.planned_modules.specs.Needs.{before, after, unloaded}
use Rattle.planned_modules.specs.Members.{asked, planned}
use Rattle.plan_builder.specs.Obstacles.{as_obstacle, is_path_of, stands, line_of, first_line}
use Rattle.plan_builder.specs.Obstacles.{cycle_obstacle}
use Rattle.plan_builder.specs.Answers.{need_tests}
use Rattle.plan_sources.specs.Planner.{sources_of}
use Rattle.plan_builder.proofs.Answering.{first-here, first-none, first-some, cycle-answer}
use Rattle.plan_builder.proofs.Answering.{plan-answer, short-answer, unloaded-low}
use Rattle.plan_builder.proofs.planning.checked_order.Goals as goal

pub returns-in_err-check_needs-clause-err : goal.returns-in_err-check_needs-clause-err
returns-in_err-check_needs-clause-err c =
    let s = sources_of c.args.planner.now in
    let founds = c.args.founds.now in
    let in_plan : is_among c.args.paths.now.planned
    ≡ is_path_of (modules (sources_of c.args.planner.now))
    (planned (sources_of c.args.planner.now) c.args.founds.now)
    =
    fun_ext c.requires.planned in
    let there : is_among c.args.paths.now.there ≡ stands (sources_of c.args.planner.now)
    = fun_ext c.requires.there in
    let p = err_from_is_err_and c.from_residual.result c.from_residual.ensures.1 in
    rw (p.1, p.2)
    (right (λ e. first-some as_obstacle
    (need_tests (is_path_of (modules s) (planned s founds)) (stands s) s.unmet)
    (cycle_obstacle (map (name_at (modules s)) (cycle (among (before s)) (planned s founds)))
    ∷ line_of s founds kinds.Double ∷ []) c.in_err-check_needs.field-0.0
    ((λ i. option_map as_obstacle
    (first
    (need_tests (sym in_plan i) (sym there i) (sym c.unmet-unmet.ensures i))))
    ∙ e))
    c.in_err-check_needs.ensures.err)

pub order_of-requires : goal.order_of-requires
order_of-requires c =
    let s = sources_of c.args.planner.now in
    short-answer (modules s) (among (before s)) (unloaded s) (after s) (asked s c.args.founds.now)
    (length (modules s)) c.args.answer (unloaded-low s) c.requires.answer

pub returns-in_err-order-clause-err : goal.returns-in_err-order-clause-err
returns-in_err-order-clause-err c =
    let s = sources_of c.args.planner.now in
    let founds = c.args.founds.now in
    let in_plan : is_among c.args.paths.now.planned
    ≡ is_path_of (modules (sources_of c.args.planner.now))
    (planned (sources_of c.args.planner.now) c.args.founds.now)
    =
    fun_ext c.requires.planned in
    let there : is_among c.args.paths.now.there ≡ stands (sources_of c.args.planner.now)
    = fun_ext c.requires.there in
    let p
    = err_from_is_err_and c.from_residual-in_err-order.result
    c.from_residual-in_err-order.ensures.1 in
    rw (p.1, p.2)
    (right (λ e.
    ap (option_map as_obstacle)
    (first-none (need_tests (is_path_of (modules s) (planned s founds)) (stands s) s.unmet)
    (cycle_obstacle (map (name_at (modules s)) (cycle (among (before s)) (planned s founds)))
    ∷ line_of s founds kinds.Double ∷ [])
    ((λ i. first (need_tests (sym in_plan i) (sym there i) (sym c.unmet-unmet.ensures i)))
    ∙ c.in_ok-check_needs.ensures.passed))
    ∙ first-here as_obstacle
    (cycle_obstacle (map (name_at (modules s)) (cycle (among (before s)) (planned s founds))))
    (line_of s founds kinds.Double ∷ []) c.in_err-order.field-0.0
    (cycle-answer (modules s) (among (before s)) (unloaded s) (after s) (asked s founds)
    c.args.answer c.in_err-order.field-0.0 c.requires.answer e))
    c.in_err-order.ensures.err)

pub returns-in_err-check_unmet-clause-err : goal.returns-in_err-check_unmet-clause-err
returns-in_err-check_unmet-clause-err c =
    let s = sources_of c.args.planner.now in
    let founds = c.args.founds.now in
    let in_plan : is_among c.args.paths.now.planned
    ≡ is_path_of (modules (sources_of c.args.planner.now))
    (planned (sources_of c.args.planner.now) c.args.founds.now)
    =
    fun_ext c.requires.planned in
    let there : is_among c.args.paths.now.there ≡ stands (sources_of c.args.planner.now)
    = fun_ext c.requires.there in
    let p
    = err_from_is_err_and c.from_residual-in_err-check_unmet.result
    c.from_residual-in_err-check_unmet.ensures.1 in
    rw (p.1, p.2)
    (right (λ e.
    ap (option_map as_obstacle)
    (first-none (need_tests (is_path_of (modules s) (planned s founds)) (stands s) s.unmet)
    (cycle_obstacle (map (name_at (modules s)) (cycle (among (before s)) (planned s founds)))
    ∷ line_of s founds kinds.Double ∷ [])
    ((λ i. first (need_tests (sym in_plan i) (sym there i) (sym c.unmet-unmet.ensures i)))
    ∙ c.in_ok-check_needs.ensures.passed)
    ∙ ap (λ x. first (x ∷ line_of s founds kinds.Double ∷ []))
    (plan-answer (modules s) (among (before s)) (unloaded s) (after s) (asked s founds)
    c.args.answer c.in_ok-order.order c.requires.answer c.in_ok-order.ensures.order))
    ∙ first-here as_obstacle (line_of s founds kinds.Double) [] c.in_err-check_unmet.field-0.0
    ((λ i. option_map as_obstacle
    (first_line kinds.Double (sym in_plan i) (sym there i)
    (sym c.unmet-unmet.ensures i)))
    ∙ e))
    c.in_err-check_unmet.ensures.err)

pub returns-clause-passed : goal.returns-clause-passed
returns-clause-passed c =
    let s = sources_of c.args.planner.now in
    let founds = c.args.founds.now in
    let in_plan : is_among c.args.paths.now.planned
    ≡ is_path_of (modules (sources_of c.args.planner.now))
    (planned (sources_of c.args.planner.now) c.args.founds.now)
    =
    fun_ext c.requires.planned in
    let there : is_among c.args.paths.now.there ≡ stands (sources_of c.args.planner.now)
    = fun_ext c.requires.there in
    first-none (need_tests (is_path_of (modules s) (planned s founds)) (stands s) s.unmet)
    (cycle_obstacle (map (name_at (modules s)) (cycle (among (before s)) (planned s founds)))
    ∷ line_of s founds kinds.Double ∷ [])
    ((λ i. first (need_tests (sym in_plan i) (sym there i) (sym c.unmet-unmet.ensures i)))
    ∙ c.in_ok-check_needs.ensures.passed)
    ∙ ap (λ x. first (x ∷ line_of s founds kinds.Double ∷ []))
    (plan-answer (modules s) (among (before s)) (unloaded s) (after s) (asked s founds)
    c.args.answer c.in_ok-order.order c.requires.answer c.in_ok-order.ensures.order)
    ∙ ap (λ x. first (x ∷ []))
    ((λ i. first_line kinds.Double (sym in_plan i) (sym there i) (sym c.unmet-unmet.ensures i))
    ∙ c.in_ok-check_unmet.ensures.passed)
