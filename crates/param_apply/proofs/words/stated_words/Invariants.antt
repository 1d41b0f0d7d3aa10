use Rattle.std.proofs.Common.{◌≡◌, ◌++◌, length}
use Rattle.param_apply.specs.Words.{stating}
use Rattle.param_apply.proofs.words.stated_words.Given as goal

abbrev pub invariant-loop-rest : goal.invariant-loop-rest
invariant-loop-rest l = l.words.items ++ stating l.rest ≡ stating l.options

abbrev pub decreases-loop-rest : goal.decreases-loop-rest
decreases-loop-rest l = length l.rest
