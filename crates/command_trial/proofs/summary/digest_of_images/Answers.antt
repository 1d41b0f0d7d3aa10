use Rattle.std.proofs.Common.{◌≡◌, codes, length, ap, ◌∙◌, arith}
use Rattle.std.specs.Option.{option_to_list}
use Rattle.sha2.specs.Sha256.{sha256}
use Rattle.outside_calls.specs.Contents.{rest_after}
use Rattle.command_trial.proofs.LineSteps.{images-none}
use Rattle.command_trial.proofs.summary.digest_of_images.Goals as goal

pub returns : goal.returns
returns c =
    let over : length c.loop-left.left.now ≡ 0 = grind arith in
    let before = c.loop-left.invariant.0 in
    c.finalize.ensures before c.loop-left.invariant.1
    ∙ ap sha256 (images-none c.args.files.now.contents
    (λ line. option_to_list (rest_after (codes "loaded ") line)) before _ c.loop-left.left.now over
    c.loop-left.invariant.2)
