use Rattle.std.proofs.Common.{◌≡◌, take, map}
use Rattle.command_modprobe.proofs.basis.spaced.Given as goal

abbrev pub invariant-loop-word : goal.invariant-loop-word
invariant-loop-word l = map (λ piece. piece.now) l.pieces.items ≡ take l.word-index l.words
