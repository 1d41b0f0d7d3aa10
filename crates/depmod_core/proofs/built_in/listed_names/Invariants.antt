use Rattle.std.proofs.Common.{◌≡◌, ◌++◌, filter, map, length}
use Rattle.km_names.specs.Ascii.{is_graphic}
use Rattle.km_names.specs.Lines.{lines_of}
use Rattle.km_names.specs.Path.{module_name}
use Rattle.depmod_core.proofs.built_in.listed_names.Given as goal

abbrev pub invariant-loop-rest : goal.invariant-loop-rest
invariant-loop-rest l =
    l.names ++ filter is_graphic (map module_name (lines_of l.rest))
    ≡ filter is_graphic (map module_name (lines_of l.builtin))

abbrev pub decreases-loop-rest : goal.decreases-loop-rest
decreases-loop-rest l = length l.rest
