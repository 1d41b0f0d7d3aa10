use Rattle.std.proofs.Common.{◌≡◌, take, map}
use Rattle.km_names.specs.Texts.{spaced}
use Rattle.km_names.proofs.bytes.Bytes.spaced.Given as goal

-- the pieces so far
abbrev pub invariant-loop-i : goal.invariant-loop-i
invariant-loop-i g l = l.bytes.items ≡ spaced (map (λ piece. piece.now) (take l.i l.pieces))
