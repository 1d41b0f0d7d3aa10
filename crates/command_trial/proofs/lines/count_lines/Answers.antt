use Rattle.std.proofs.Common.{◌≡◌, length, arith}
use Rattle.std.specs.Option.{option_to_list}
use Rattle.outside_calls.specs.Contents.{rest_after}
use Rattle.command_trial.proofs.LineSteps.{count-none}
use Rattle.command_trial.proofs.lines.count_lines.Goals as goal

pub returns : goal.returns
returns c =
    let over : length c.loop-left.left.now ≡ 0 = grind arith in
    omega (
      arith,
      c.loop-left.invariant.0,
      count-none (λ line. option_to_list (rest_after c.args.start.now line)) c.loop-left.left.now
          over,
    )
