use Rattle.std.proofs.Common.{◌≡◌, ◌++◌, map, take}
use Rattle.name_lookup.specs.Aliases.{shown_plain}
use Rattle.name_lookup.proofs.aliases.push_all.Given as goal

abbrev pub invariant-loop-alias : goal.invariant-loop-alias
invariant-loop-alias l =
    l.names ≡ l.fn.names ++ map (λ p. p.1) (map shown_plain (take l.alias-index l.aliases))
