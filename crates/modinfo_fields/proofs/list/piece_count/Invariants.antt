use Rattle.std.proofs.Common.{◌≤◌}
use Rattle.modinfo_fields.proofs.list.piece_count.Given as goal

abbrev pub invariant-loop-byte : goal.invariant-loop-byte
invariant-loop-byte l = l.count ≤ l.byte-index
