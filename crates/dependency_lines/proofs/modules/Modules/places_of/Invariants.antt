use Rattle.std.proofs.Common.{◌≡◌, take}
use Rattle.dependency_lines.specs.Modules.{places_of}
use Rattle.dependency_lines.proofs.modules.Modules.places_of.Given as goal

abbrev pub invariant-loop-name : goal.invariant-loop-name
invariant-loop-name l = l.places.items ≡ places_of l.self (take l.name-index l.names)
