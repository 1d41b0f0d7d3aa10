use Rattle.std.proofs.Common.{◌≡◌, take}
use Rattle.provider_rel.specs.Items.{used_places}
use Rattle.provider_rel.proofs.bindings.used.Given as goal

abbrev pub invariant-loop-place : goal.invariant-loop-place
invariant-loop-place l = l.used.items ≡ used_places l.items (take l.place-index l.bound)
