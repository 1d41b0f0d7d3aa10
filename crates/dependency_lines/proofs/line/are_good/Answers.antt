use Rattle.std.proofs.Common.{◌∙◌, ◌<◌, length, sym, ap, arith}
use Rattle.std.specs.Prelude.{◌&&◌}
use Rattle.std.proofs.lemmas.List.{take_rest}
use Rattle.dependency_lines.specs.GoodPaths.{are_good_needs}
use Rattle.dependency_lines.proofs.Lines.{good-parts}
use Rattle.dependency_lines.proofs.line.are_good.Goals as goal

pub returns-then-not-branch-clause-good : goal.returns-then-not-branch-clause-good
returns-then-not-branch-clause-good g c =
    let has = g.K.KnownNames.has c.args.known.now in
    let text = c.loop-rest.rest.now in
    let after = c.up_to_space.result.1.now in
    let some : 0 < length text = grind arith in
    let whole
    = good-parts has text _ c.up_to_space.result.0.now after some c.if-rest-ne32.false
    (take_rest text 1) c.up_to_space.ensures.before c.up_to_space.ensures.rest in
    sym (sym c.loop-rest.invariant.same ∙ whole
    ∙ ap (λ b. b && are_good_needs has after)
    (sym c.in_ok-is_good.ensures.good ∙ c.if-not-branch.true))

pub loop-rest-preserved : goal.loop-rest-preserved
loop-rest-preserved g c =
    let has = g.K.KnownNames.has c.args.known.now in
    let text = c.loop-rest.rest.now in
    let after = c.up_to_space.result.1.now in
    let some : 0 < length text = grind arith in
    let whole
    = good-parts has text _ c.up_to_space.result.0.now after some c.if-rest-ne32.false
    (take_rest text 1) c.up_to_space.ensures.before c.up_to_space.ensures.rest in
    record {
      same
          = sym (whole
          ∙ ap (λ b. b && are_good_needs has after)
          (sym c.in_ok-is_good.ensures.good ∙ c.if-not-branch.false))
          ∙ c.loop-rest.invariant.same;
      kept = c.in_ok-is_good.ensures.kept;
    }
