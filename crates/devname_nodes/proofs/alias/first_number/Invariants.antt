use Rattle.std.proofs.Common.{◌≡◌, map, drop}
use Rattle.km_names.specs.First.{first}
use Rattle.devname_nodes.specs.Nodes.{number_of}
use Rattle.devname_nodes.proofs.alias.first_number.Given as goal

abbrev pub invariant-loop-alias : goal.invariant-loop-alias
invariant-loop-alias l =
    first (map number_of l.aliases) ≡ first (map number_of (drop l.alias-index l.aliases))
