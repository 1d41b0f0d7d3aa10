use Rattle.std.proofs.Common.{arith, sym, ◌∙◌}
use Rattle.km_names.proofs.Trims.{end_at}
use Rattle.km_names.proofs.space.trimmed_end.Goals as goal
use Rattle.km_names.proofs.space.trimmed_end.Goals.{then-loop-end-test+else-is_space}
use Rattle.km_names.proofs.space.trimmed_end.Goals.{else-loop-end-test}

pub returns : goal.returns
returns c =
    elim c.loop-end-test.branch [
      | then-loop-end-test+else-is_space w ↦ end_at _ _ c.loop-end.invariant.0
          c.loop-end.invariant.1 (λ l. sym w.is_space.ensures ∙ w.if-is_space.false)
      | else-loop-end-test w ↦ end_at _ _ c.loop-end.invariant.0 c.loop-end.invariant.1
          (λ l. absurd (omega arith))
    ]
