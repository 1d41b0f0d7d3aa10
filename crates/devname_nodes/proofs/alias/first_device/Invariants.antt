use Rattle.std.proofs.Common.{◌≡◌, map, drop}
use Rattle.km_names.specs.First.{first}
use Rattle.devname_nodes.specs.Nodes.{device_of}
use Rattle.devname_nodes.proofs.alias.first_device.Given as goal

abbrev pub invariant-loop-text : goal.invariant-loop-text
invariant-loop-text l =
    first (map device_of l.aliases) ≡ first (map device_of (drop l.text-index l.aliases))
