use Rattle.std.proofs.Common.{ne_eqb, arith}
use Rattle.km_names.proofs.Ends.{without_end_at}
use Rattle.km_names.proofs.path.without_end_slashes.Goals as goal
use Rattle.km_names.proofs.path.without_end_slashes.Goals.{then-loop-end-test+else-path-end-eq47}
use Rattle.km_names.proofs.path.without_end_slashes.Goals.{else-loop-end-test}

pub returns : goal.returns
returns c =
    elim c.loop-end-test.branch [
      | then-loop-end-test+else-path-end-eq47 w ↦ without_end_at _ _ c.loop-end.invariant.0
          c.loop-end.invariant.1 (λ l. ne_eqb _ _ w.if-path-end-eq47.false)
      | else-loop-end-test w ↦ without_end_at _ _ c.loop-end.invariant.0 c.loop-end.invariant.1
          (λ l. absurd (omega arith))
    ]
