use Rattle.std.proofs.Common.{◌≡◌, ◌++◌, length}
use Rattle.std.specs.List.{flat_map}
use Rattle.km_names.specs.Lines.{lines_of}
use Rattle.loaded_list.specs.Loaded.{name_if_any, loaded_of}
use Rattle.loaded_list.proofs.loaded.Loaded.read.Given as goal

abbrev pub invariant-loop-rest : goal.invariant-loop-rest
invariant-loop-rest l = l.names ++ flat_map name_if_any (lines_of l.rest) ≡ loaded_of l.bytes

abbrev pub decreases-loop-rest : goal.decreases-loop-rest
decreases-loop-rest l = length l.rest
