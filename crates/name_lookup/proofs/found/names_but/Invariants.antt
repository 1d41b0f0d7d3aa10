use Rattle.std.proofs.Common.{◌≡◌, take, filter, not}
use Rattle.std.specs.Prelude.{◌&&◌}
use Rattle.name_table.specs.FirstSeen.{is_among}
use Rattle.name_lookup.proofs.found.names_but.Given as goal

abbrev pub invariant-loop-place : goal.invariant-loop-place
invariant-loop-place l =
    l.left ≡ filter (λ name. not (l.drops && is_among l.dropped name)) (take l.place l.names)
