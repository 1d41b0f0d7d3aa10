use Rattle.std.proofs.Common.{ℕ, sym, ap, ◌∙◌, arith}
use Rattle.std.specs.Prelude.{◌||◌}
use Rattle.std.specs.List.{list_any}
use Rattle.std.proofs.lemmas.List.{take_all}
use Rattle.std.proofs.lemmas.List.Folds.{list_any_at, list_any_more}
use Rattle.dependency_lines.specs.Modules.{path_at}
use Rattle.plan_sources.specs.Sources.{modules, is_troubled}
use Rattle.plan_sources.specs.Planner.{sources_of}
use Rattle.plan_sources.proofs.planner.Planner.any_troubled.Goals as goal

pub returns-then-is_troubled : goal.returns-then-is_troubled
returns-then-is_troubled c =
    let s = sources_of c.args.self.now in
    let test = λ (y : ℕ). is_troubled s.unmet (path_at (modules s) y) in
    sym (list_any_at test c.args.places.now c.loop-y.y-index 0 c.loop-y-test.true
    (sym c.is_troubled.ensures ∙ c.if-is_troubled.true))

pub loop-y-preserved : goal.loop-y-preserved
loop-y-preserved c =
    let s = sources_of c.args.self.now in
    let test = λ (y : ℕ). is_troubled s.unmet (path_at (modules s) y) in
    list_any_more test c.args.places.now c.loop-y.y-index 0 c.loop-y-test.true
    ∙ (λ i. c.loop-y.invariant i || (sym c.is_troubled.ensures ∙ c.if-is_troubled.false) i)

pub returns : goal.returns
returns c =
    let s = sources_of c.args.self.now in
    let test = λ (y : ℕ). is_troubled s.unmet (path_at (modules s) y) in
    sym (ap (list_any test)
    (sym (take_all c.loop-y.y-index c.args.places.now (omega (arith, c.loop-y-test.false))))
    ∙ c.loop-y.invariant)
