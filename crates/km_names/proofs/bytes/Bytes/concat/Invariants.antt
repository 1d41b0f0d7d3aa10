use Rattle.std.proofs.Common.{◌≡◌, take, flat_map}
use Rattle.km_names.proofs.bytes.Bytes.concat.Given as goal

-- the pieces so far
abbrev pub invariant-loop-piece : goal.invariant-loop-piece
invariant-loop-piece g l =
    l.bytes.items ≡ flat_map (λ piece. piece.now) (take l.piece-index l.pieces)
