-- What a contract sees of an output that a program gets, and what a write may answer.
use Rattle.std.specs.Prelude.{◌≡◌, ℕ, ◌+◌, ◌≤◌, ◌<◌, List, ◌++◌, length, take, Option, Result, Ok}
use Rattle.std.specs.Prelude.{Err, IfSome, ⊤}
use Rattle.std.specs.Option.{option_map}
use Rattle.outside_calls.specs.Counts.{one_more}
use Rattle.outside_calls.specs.declared.out.OutFailed.{OutFailed}

-- What is seen of an output: how often a write failed, the bytes written so far if they are known
-- (`told`), and its capacity if it is known (`room`). The bytes written never exceed the capacity.
pub record OutSeen : Type 0 where
  pub faults : ℕ
  pub told : Option (List ℕ)
  pub room : Option ℕ

-- The bytes written are within the capacity, if both are known.
abbrev pub Within : OutSeen → Type 0
Within out = IfSome out.told (λ bytes. IfSome out.room (λ room. length bytes ≤ room))

-- The output with these bytes at its end.
abbrev pub appended : OutSeen → List ℕ → OutSeen
appended out piece = record out { told = option_map (λ bytes. bytes ++ piece) out.told }

-- The output with one fault more.
abbrev pub failed : OutSeen → OutSeen
failed out = record out { faults = one_more out.faults }

-- The piece doesn't fit the capacity, if bytes and capacity are known.
abbrev pub LacksRoom : OutSeen → List ℕ → Type 0
LacksRoom out piece =
    IfSome out.told (λ bytes. IfSome out.room (λ room. room < length bytes + length piece))

-- What a write of the piece may answer, and what it leaves. A failed one may have written a first
-- part. An output with a known capacity fails exactly if the piece doesn't fit: one that was
-- written whole is within the capacity.
abbrev pub WriteAnswers : List ℕ → OutSeen → OutSeen → Result ⊤ OutFailed → Type 0
WriteAnswers piece old new (Ok _) = (new ≡ appended old piece) × Within new
WriteAnswers piece old new (Err _) =
    ((n : ℕ) × (n ≤ length piece) × (new ≡ failed (appended old (take n piece)))) × Within new
    × LacksRoom old piece
