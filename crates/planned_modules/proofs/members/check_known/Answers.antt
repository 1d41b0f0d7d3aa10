use Rattle.std.proofs.Common.{Some, ap, sym, ◌∙◌, inr}
use Rattle.std.specs.List.{find}
use Rattle.std.specs.Option.{option_map}
use Rattle.planned_modules.specs.Members.{unfound, is_unknown}
use Rattle.plan_sources.specs.Planner.{sources_of}
use Rattle.plan_sources.specs.Kept.{texts}
use Rattle.dependency_lines.proofs.Finds.{find-here, find-more}
use Rattle.planned_modules.proofs.members.check_known.Goals as goal

pub returns-then-is_unknown-clause-err : goal.returns-then-is_unknown-clause-err
returns-then-is_unknown-clause-err c =
    let test = is_unknown (sources_of c.args.planner.now) c.args.ignored in
    inr (ap (option_map unfound)
    (ap (find test) (sym (ap texts c.deref-name-items.ensures.value ∙ c.in_ok-names.ensures))
    ∙ find-here test (λ n. n.now) c.deref-name-items.result.now c.loop-name.name-index
    c.name-item.result c.loop-name-test.true c.name-item.is c.loop-name.invariant
    (ap test (sym c.as_bytes.ensures) ∙ sym c.is_unknown.ensures ∙ c.if-is_unknown.true))
    ∙ ap (λ o. Some o) (sym c.in_ok-not_found.ensures))

pub loop-name-preserved : goal.loop-name-preserved
loop-name-preserved c =
    let test = is_unknown (sources_of c.args.planner.now) c.args.ignored in
    find-more test (λ n. n.now) c.deref-name-items.result.now c.loop-name.name-index
    c.name-item.result c.loop-name-test.true c.name-item.is c.loop-name.invariant
    (ap test (sym c.as_bytes.ensures) ∙ sym c.is_unknown.ensures ∙ c.if-is_unknown.false)
