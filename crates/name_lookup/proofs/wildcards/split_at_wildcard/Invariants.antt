use Rattle.std.proofs.Common.{◌≡◌, take, false}
use Rattle.std.specs.List.{list_any}
use Rattle.name_lookup.specs.Wildcards.{is_wildcard}
use Rattle.name_lookup.proofs.wildcards.split_at_wildcard.Given as goal

abbrev pub invariant-loop-place : goal.invariant-loop-place
invariant-loop-place l = list_any is_wildcard (take l.place l.pattern) ≡ false
