use Rattle.std.proofs.Common.{arith, sym, ◌∙◌}
use Rattle.km_names.proofs.Trims.{start_at}
use Rattle.km_names.proofs.space.trimmed_start.Goals as goal
use Rattle.km_names.proofs.space.trimmed_start.Goals.{then-loop-start-test+else-is_space}
use Rattle.km_names.proofs.space.trimmed_start.Goals.{else-loop-start-test}

pub returns : goal.returns
returns c =
    elim c.loop-start-test.branch [
      | then-loop-start-test+else-is_space w ↦ start_at _ _ c.loop-start.invariant.0
          c.loop-start.invariant.1 (λ l. sym w.is_space.ensures ∙ w.if-is_space.false)
      | else-loop-start-test w ↦ start_at _ _ c.loop-start.invariant.0 c.loop-start.invariant.1
          (λ l. absurd (omega arith))
    ]
