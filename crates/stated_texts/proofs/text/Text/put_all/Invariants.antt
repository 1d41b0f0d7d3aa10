use Rattle.std.proofs.Common.{◌≡◌, take, flat_map}
use Rattle.stated_texts.specs.Text.{with_piece}
use Rattle.stated_texts.proofs.text.Text.put_all.Given as goal

abbrev pub invariant-loop-piece : goal.invariant-loop-piece
invariant-loop-piece l =
    l.self ≡ with_piece l.initial.self (flat_map (λ piece. piece.now) (take l.piece-index l.pieces))
