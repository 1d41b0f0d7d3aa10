use Rattle.std.proofs.Common.{◌≡◌, ◌+◌, map, drop}
use Rattle.name_lookup.specs.Aliases.{count_before, shown_plain}
use Rattle.name_lookup.proofs.aliases.count_before.Given as goal

abbrev pub invariant-loop-count : goal.invariant-loop-count
invariant-loop-count l =
    l.count + count_before l.place (map shown_plain (drop l.count l.aliases))
    ≡ count_before l.place (map shown_plain l.aliases)
