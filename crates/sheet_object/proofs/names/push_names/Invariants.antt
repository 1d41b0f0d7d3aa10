use Rattle.std.proofs.Common.{◌≡◌, ◌++◌, map, take}
use Rattle.sheet_object.specs.Writing.{names_of}
use Rattle.sheet_object.proofs.names.push_names.Given as goal

abbrev pub invariant-loop-item : goal.invariant-loop-item
invariant-loop-item g l =
    names_of l.names.items
    ≡ names_of l.initial.names.items ++ map g.T.Named.name (take l.item-index l.items)
