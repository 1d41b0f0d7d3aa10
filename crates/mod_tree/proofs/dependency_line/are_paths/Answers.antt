use Rattle.std.proofs.Common.{◌∙◌, ◌<◌, length, sym, ap, arith}
use Rattle.std.specs.Prelude.{◌&&◌, ◌==◌}
use Rattle.std.specs.List.{slice_split}
use Rattle.std.proofs.lemmas.List.{take_rest}
use Rattle.mod_tree.specs.DependencyLine.{are_needed}
use Rattle.mod_tree.proofs.SeparatorSteps.{needed-step}
use Rattle.mod_tree.proofs.dependency_line.are_paths.Goals as goal

pub returns-then-not-is_module_path : goal.returns-then-not-is_module_path
returns-then-not-is_module_path c =
    let text = c.loop-rest.rest.now in
    let after = c.split_at_separator.result.1.now in
    let some : 0 < length text = grind arith in
    let whole
    = needed-step text _ c.split_at_separator.result.0.now after some c.if-rest-ne32.false
    (take_rest text 1) c.split_at_separator.ensures.before c.split_at_separator.ensures.rest
    in
    sym (sym c.loop-rest.invariant ∙ whole
    ∙ ap (λ b. b && are_needed (slice_split (λ b. b == 32) after))
    (sym c.is_module_path.ensures ∙ c.if-not-is_module_path.true))

pub loop-rest-preserved : goal.loop-rest-preserved
loop-rest-preserved c =
    let text = c.loop-rest.rest.now in
    let after = c.split_at_separator.result.1.now in
    let some : 0 < length text = grind arith in
    let whole
    = needed-step text _ c.split_at_separator.result.0.now after some c.if-rest-ne32.false
    (take_rest text 1) c.split_at_separator.ensures.before c.split_at_separator.ensures.rest
    in
    sym (whole
    ∙ ap (λ b. b && are_needed (slice_split (λ b. b == 32) after))
    (sym c.is_module_path.ensures ∙ c.if-not-is_module_path.false))
    ∙ c.loop-rest.invariant
