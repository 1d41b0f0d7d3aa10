use Rattle.std.proofs.Common.{◌≡◌, take}
use Rattle.name_lookup.proofs.index_names.names_in.Given as goal

abbrev pub invariant-loop-place : goal.invariant-loop-place
invariant-loop-place l = l.names ≡ take l.place l.set
