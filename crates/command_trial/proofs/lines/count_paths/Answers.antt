use Rattle.std.proofs.Common.{◌≡◌, length, ap, ◌∙◌, arith}
use Rattle.km_names.specs.Space.{words}
use Rattle.command_trial.specs.Summary.{paths_after_colon}
use Rattle.command_trial.proofs.LineSteps.{count-on, count-none, dependencies-few}
use Rattle.command_trial.proofs.lines.count_paths.Goals as goal

pub overflow_add-count : goal.overflow_add-count
overflow_add-count c =
    let line = c.first_line.result.0.now in
    let on
    = count-on paths_after_colon c.loop-left.left.now line c.first_line.result.1.now
    c.first_line.ensures.lines in
    let few = dependencies-few c.args.text.now in
    let added : c.len-in-loop-left.result ≡ length (paths_after_colon line) =
    c.len-in-loop-left.ensures ∙ ap length c.in_ok-words.ensures
    ∙ ap (λ after. length (words after)) c.split_at_byte.ensures.after in
    grind arith

pub returns : goal.returns
returns c =
    let over : length c.loop-left.left.now ≡ 0 = grind arith in
    omega (arith, c.loop-left.invariant, count-none paths_after_colon c.loop-left.left.now over)
