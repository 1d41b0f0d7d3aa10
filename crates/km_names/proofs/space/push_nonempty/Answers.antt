use Rattle.std.proofs.Common.{sym, ◌∙◌, eqb-true}
use Rattle.std.proofs.lemmas.Bool.{eqb-false}
use Rattle.std.proofs.lemmas.Result.{on_ok_weaker}
use Rattle.km_names.proofs.Trims.{piece-some, piece-none}
use Rattle.km_names.proofs.space.push_nonempty.Goals as goal

pub returns-then-is_empty : goal.returns-then-is_empty
returns-then-is_empty c =
    record { ok = piece-none _ _ (eqb-true _ _ (sym c.is_empty.ensures ∙ c.if-is_empty.true)) }

pub returns : goal.returns
returns c = record {
  ok
      = on_ok_weaker c.push.result
      (λ pushed. pushed
      ∙ piece-some _ _ _ (eqb-false _ _ (sym c.is_empty.ensures ∙ c.if-is_empty.false))
      c.in_ok-from_slice.ensures) c.push.ensures.ok;
}
