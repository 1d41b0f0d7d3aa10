use Rattle.std.proofs.Common.{arith, sym, ◌∙◌}
use Rattle.km_names.proofs.Trims.{word_at}
use Rattle.km_names.proofs.space.word_length.Goals as goal

pub returns-else-not-is_space-clause-place : goal.returns-else-not-is_space-clause-place
returns-else-not-is_space-clause-place c =
    word_at _ _ c.loop-end.invariant.0 c.loop-end.invariant.1
    (λ l. sym c.is_space.ensures ∙ c.if-not-is_space.false)

pub returns-after-loop-end-clause-place : goal.returns-after-loop-end-clause-place
returns-after-loop-end-clause-place c =
    word_at _ _ c.loop-end.invariant.0 c.loop-end.invariant.1 (λ l. absurd (omega arith))
