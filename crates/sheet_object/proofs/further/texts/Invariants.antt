use Rattle.std.proofs.Common.{◌≡◌, take}
use Rattle.sheet_object.specs.Further.{space_bytes}
use Rattle.sheet_object.proofs.further.texts.Given as goal

abbrev pub invariant-loop-space : goal.invariant-loop-space
invariant-loop-space l = l.content.items ≡ space_bytes (take l.space-index l.spaces)
