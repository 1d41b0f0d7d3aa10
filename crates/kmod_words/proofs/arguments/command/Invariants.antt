use Rattle.std.proofs.Common.{◌≡◌, map, take}
use Rattle.clap.specs.Words.{app_of}
use Rattle.kmod_words.specs.Arguments.{command}
use Rattle.kmod_words.specs.Rules.{rule_for}
use Rattle.kmod_words.proofs.arguments.command.Given as goal

abbrev pub invariant-loop-argument : goal.invariant-loop-argument
invariant-loop-argument l =
    app_of l.command ≡ command l.name (map rule_for (take l.argument-index l.arguments))
