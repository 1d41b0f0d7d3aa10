use Rattle.std.proofs.Common.{◌≤◌, ◌+◌, length, map, All}
use Rattle.indexmap.specs.IndexSet.{index_set_len}
use Rattle.builtin_index.specs.Parts.{alias_shown, IsWord}
use Rattle.builtin_index.proofs.Places.{Keeps}
use Rattle.builtin_index.proofs.aliases.stated_aliases.Given as goal

abbrev pub invariant-loop-rest : goal.invariant-loop-rest
invariant-loop-rest l = record {
  keeps : Keeps l.seen (map alias_shown l.list.items) l.rest l.bytes;
  count : index_set_len l.seen.names + length l.rest ≤ length l.bytes;
  words : All IsWord l.list.items;
}

abbrev pub decreases-loop-rest : goal.decreases-loop-rest
decreases-loop-rest l = length l.rest
