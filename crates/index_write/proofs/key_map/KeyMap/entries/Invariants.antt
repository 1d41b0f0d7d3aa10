use Rattle.std.proofs.Common.{◌≡◌, ◌++◌}
use Rattle.index_write.specs.Lists.{entries_of}
use Rattle.index_write.specs.Groups.{entries_shown}
use Rattle.index_write.proofs.key_map.KeyMap.entries.Given as goal

abbrev pub invariant-loop-key : goal.invariant-loop-key
invariant-loop-key l =
    entries_shown l.entries.items ++ entries_of l.key-iterator ≡ entries_of l.initial.key-iterator
