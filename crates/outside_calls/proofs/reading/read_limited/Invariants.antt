use Rattle.std.proofs.Common.{◌+◌, ◌≤◌, ◌-◌, vec_len, take}
use Rattle.std.specs.Io.KnownBytes.{Consumes}
use Rattle.km_names.specs.Limit.{file_limit}
use Rattle.outside_calls.proofs.reading.read_limited.Given as goal

-- the filled part is what was read
abbrev pub invariant-loop-filled : goal.invariant-loop-filled
invariant-loop-filled g l =
    (l.filled ≤ vec_len l.buffer) × (vec_len l.buffer ≤ file_limit + 1)
    × Consumes (g.R.Read.remaining l.initial.reader) (g.R.Read.remaining l.reader)
    (take l.filled l.buffer.items)

abbrev pub decreases-loop-filled : goal.decreases-loop-filled
decreases-loop-filled g l = file_limit + 1 - l.filled
