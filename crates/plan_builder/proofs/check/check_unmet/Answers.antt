use Rattle.std.proofs.Common.{ap, sym, ◌∙◌, inr, take}
use Rattle.std.specs.List.{find}
use Rattle.std.specs.Option.{option_map}
use Rattle.name_table.specs.FirstSeen.{is_among}
use Rattle.plan_builder.specs.Obstacles.{is_obstacle, as_obstacle, unbound_line}
use Rattle.dependency_lines.proofs.Finds.{plain-here, plain-more, option-none}
use Rattle.plan_builder.proofs.check.check_unmet.Goals as goal

pub returns-then-is_obstacle-clause-err : goal.returns-then-is_obstacle-clause-err
returns-then-is_obstacle-clause-err c =
    let test = is_obstacle c.args.kind (is_among c.args.planned.now) (is_among c.args.there.now) in
    let none
    = option-none unbound_line (find test (take c.loop-line.line-index c.args.unmet.now))
    c.loop-line.invariant in
    inr (ap (λ line. option_map as_obstacle (option_map unbound_line line))
    (plain-here test c.args.unmet.now c.loop-line.line-index c.line-item.result
    c.loop-line-test.true c.line-item.is none
    (sym c.is_obstacle.ensures ∙ c.if-is_obstacle.true))
    ∙ ap (λ o. Rattle.std.proofs.Common.Some o) (sym c.in_ok-as_obstacle.ensures))

pub loop-line-preserved : goal.loop-line-preserved
loop-line-preserved c =
    let test = is_obstacle c.args.kind (is_among c.args.planned.now) (is_among c.args.there.now) in
    let none
    = option-none unbound_line (find test (take c.loop-line.line-index c.args.unmet.now))
    c.loop-line.invariant in
    ap (option_map unbound_line)
    (plain-more test c.args.unmet.now c.loop-line.line-index c.line-item.result
    c.loop-line-test.true c.line-item.is none
    (sym c.is_obstacle.ensures ∙ c.if-is_obstacle.false))
