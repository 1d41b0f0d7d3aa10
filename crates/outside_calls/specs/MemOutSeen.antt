-- What a contract sees of an output that is kept in memory.
use Rattle.std.specs.Prelude.{ℕ, ◌+◌, ◌-◌, ◌≤◌, Bool, true, false, ◌||◌, nat_lt, List, [], ◌++◌}
use Rattle.std.specs.Prelude.{length, Some, None, IfSome, if◌then◌else◌}
use Rattle.std.proofs.Math.Nat.{le-add_right}
use Rattle.outside_calls.specs.Counts.{one_more}
use Rattle.outside_calls.specs.CallsSeen.{CallsSeen, no_calls, next_fails, called, with_failing}
use Rattle.outside_calls.specs.CallsSeen.{none_listed}
use Rattle.outside_calls.specs.OutSeen.{OutSeen, Within}

-- The bytes written so far, the room left after them, the writes by number, and how many failed.
pub record MemOutSeen : Type 0 where
  pub bytes : List ℕ
  pub left : ℕ
  pub writes : CallsSeen
  pub faults : ℕ

-- What is seen of it as an output. Its bytes are known, and so is its capacity if no write is
-- listed to fail.
abbrev pub mem_out_seen : MemOutSeen → OutSeen
mem_out_seen out = record {
  faults = out.faults;
  told = Some out.bytes;
  room = if none_listed out.writes then Some (length out.bytes + out.left) else None;
}

-- An empty output with this capacity.
abbrev pub empty_with_room : ℕ → MemOutSeen
empty_with_room room = record { bytes = []; left = room; writes = no_calls; faults = 0 }

-- Whether the next write fails: its number is listed, or the piece is longer than the room left.
abbrev pub write_fails : MemOutSeen → List ℕ → Bool
write_fails out piece = next_fails out.writes || nat_lt out.left (length piece)

-- The output after the next write, which appends the piece unless it fails.
abbrev pub after_write : MemOutSeen → List ℕ → MemOutSeen
after_write out piece =
    if write_fails out piece
    then record out { writes = called out.writes; faults = one_more out.faults }
    else record out
    { writes = called out.writes; bytes = out.bytes ++ piece; left = out.left - length piece }

-- The output with the write of number n listed to fail.
abbrev pub with_failing_write : MemOutSeen → ℕ → MemOutSeen
with_failing_write out n = record out { writes = with_failing out.writes n }

-- The bytes written are within the known capacity.
pub mem_out-within : (out : MemOutSeen) → Within (mem_out_seen out)
mem_out-within out =
    elim (none_listed out.writes) as
    (λ told. IfSome (if told then Some (length out.bytes + out.left) else None)
    (λ room. length out.bytes ≤ room)) [
      | true ↦ le-add_right (length out.bytes) out.left
      | false ↦ tt
    ]
