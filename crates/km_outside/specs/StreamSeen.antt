-- What a contract sees of an output over a writer of the library.
use Rattle.std.specs.Prelude.{◌≡◌, ℕ, ◌≤◌, List, length, take, Option, None, Result, Ok, Err, ⊤}
use Rattle.std.specs.Io.KnownBytes.{Appends}
use Rattle.outside_calls.specs.Counts.{one_more}
use Rattle.outside_calls.specs.OutSeen.{OutSeen}
use Rattle.outside_calls.specs.declared.out.OutFailed.{OutFailed}

-- How often a write failed, and the bytes that the writer holds if they are known, as for one over
-- memory.
pub record StreamSeen : Type 0 where
  pub faults : ℕ
  pub contents : Option (List ℕ)

-- What is seen of it as an output: neither its bytes nor its capacity is known, since the writer
-- may be a terminal.
abbrev pub stream_seen : StreamSeen → OutSeen
stream_seen stream = record { faults = stream.faults; told = None; room = None }

-- What a write of the piece leaves: if the writer's bytes are known, those and then the piece. A
-- failed one leaves a first part of the piece, and one fault more.
abbrev pub StreamWrites : List ℕ → StreamSeen → StreamSeen → Result ⊤ OutFailed → Type 0
StreamWrites piece old new (Ok _) =
    (new.faults ≡ old.faults) × Appends old.contents new.contents piece
StreamWrites piece old new (Err _) =
    (new.faults ≡ one_more old.faults)
    × ((n : ℕ) × (n ≤ length piece) × Appends old.contents new.contents (take n piece))
