use Rattle.std.proofs.Common.{◌≡◌, map, take}
use Rattle.name_table.specs.FirstSeen.{first_seen}
use Rattle.index_read.specs.Met.{met_values}
use Rattle.index_read.proofs.distinct.set_of.Given as goal

abbrev pub invariant-loop-value : goal.invariant-loop-value
invariant-loop-value l =
    l.set ≡ first_seen (map (λ v. v.1) (met_values (take l.value-index l.values)))
