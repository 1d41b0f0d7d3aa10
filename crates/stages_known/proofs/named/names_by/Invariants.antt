use Rattle.std.proofs.Common.{◌≡◌, ◌++◌, drop}
use Rattle.std.specs.Prelude.{find}
use Rattle.stages_known.specs.declared.known.Known.{Known}
use Rattle.stages_known.specs.Named.{found_names, is_unknown}
use Rattle.stages_known.proofs.named.names_by.Given as goal

-- The names so far stand for something, and what they stand for is there, by all that has the rules
-- and the index files of the lookup.
abbrev pub invariant-loop-name : goal.invariant-loop-name
invariant-loop-name l =
    (known : Known) → known.rules ≡ l.lookup.rules → known.indexes ≡ l.lookup.indexes
    → (find (is_unknown known l.use_blacklist) (drop l.name-index l.names)
    ≡ find (is_unknown known l.use_blacklist) l.names)
    × (l.all ++ found_names known l.use_blacklist (drop l.name-index l.names)
    ≡ found_names known l.use_blacklist l.names)
