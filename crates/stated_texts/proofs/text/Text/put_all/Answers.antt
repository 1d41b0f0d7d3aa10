use Rattle.std.proofs.Common.{sym}
use Rattle.stated_texts.proofs.TextSteps.{with-nothing, put-at}
use Rattle.stated_texts.proofs.text.Text.put_all.Goals as goal

pub loop-piece-init : goal.loop-piece-init
loop-piece-init c = sym (with-nothing c.args.self.now)

pub loop-piece-preserved : goal.loop-piece-preserved
loop-piece-preserved c =
    put-at (λ piece. piece.now) c.args.self.now c.loop-piece.self c.put.new.self c.args.pieces.now
    c.loop-piece.piece-index _ c.loop-piece-test.true c.loop-piece.invariant c.in_ok-put.ensures
