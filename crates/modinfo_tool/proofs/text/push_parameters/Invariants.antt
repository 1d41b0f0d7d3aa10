use Rattle.std.proofs.Common.{◌≡◌, ◌++◌, codes, map, take}
use Rattle.modinfo_tool.specs.Show.{ended, labelled}
use Rattle.modinfo_tool.proofs.text.push_parameters.Given as goal

abbrev pub invariant-loop-value : goal.invariant-loop-value
invariant-loop-value l =
    l.text ≡ l.fn.text ++ ended l.end (map (labelled (codes "parm")) (take l.value-index l.values))
