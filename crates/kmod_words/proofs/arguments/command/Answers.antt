use Rattle.std.proofs.Common.{map, take, ap, ◌∙◌}
use Rattle.clap.specs.Words.{App, rule_of, with_rule}
use Rattle.kmod_words.specs.Arguments.{command}
use Rattle.kmod_words.specs.Rules.{rule_for}
use Rattle.kmod_words.proofs.ArgumentLemmas.{argument-added}
use Rattle.kmod_words.proofs.arguments.command.Goals as goal

pub loop-argument-preserved : goal.loop-argument-preserved
loop-argument-preserved c =
    let before : App
    = command c.args.name.now
    (map rule_for (take c.loop-argument.argument-index c.args.arguments.now)) in
    c.in_ok-command.ensures.shape c.arg.ensures.0
    ∙ ap (λ (a : App). with_rule a (rule_of c.arg.result)) c.loop-argument.invariant
    ∙ ap (with_rule before) c.arg.ensures.1
    ∙ argument-added c.args.name.now c.args.arguments.now c.loop-argument.argument-index _
    c.loop-argument-test.true
