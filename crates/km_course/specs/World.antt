-- What is seen of the three objects that the program gets, and what acts do to what is seen.
use Rattle.std.specs.Prelude.{◌≡◌, ℕ, zero, suc, ◌≤◌, List, [], ◌∷◌, ◌++◌, take, Option, Some, None}
use Rattle.std.specs.Prelude.{is_some, IsSomeAnd}
use Rattle.std.specs.Option.{option_map}
use Rattle.outside_calls.specs.CallCounts.{NoneFell}
use Rattle.outside_calls.specs.Contents.{Contents}
use Rattle.outside_calls.specs.Counts.{one_more}
use Rattle.outside_calls.specs.FilesSeen.{FilesSeen}
use Rattle.outside_calls.specs.OutSeen.{OutSeen, Within}
use Rattle.km_course.specs.Course.{Act, file_done}
use Rattle.km_course.specs.Course.Act.{read, list, say, warn, put}

-- The files, the output and err, as seen.
pub record World : Type 0 where
  pub files : FilesSeen
  pub out : OutSeen
  pub err : OutSeen

abbrev pub world : FilesSeen → OutSeen → OutSeen → World
world files out err = record { files = files; out = out; err = err }

-- Everything that three objects with known contents show: the files, how many calls were made on
-- them if they tell it, and the bytes written to each output.
pub record Shown : Type 0 where
  pub files : Contents
  pub calls : Option ℕ
  pub out : List ℕ
  pub err : List ℕ

-- The three objects show this.
pub record Tells (seen : World) (shown : Shown) : Type 0 where
  pub files : seen.files.contents ≡ Some shown.files
  pub calls : seen.files.calls ≡ shown.calls
  pub out : seen.out.told ≡ Some shown.out
  pub err : seen.err.told ≡ Some shown.err

-- How many calls on files were made after the act.
abbrev pub calls_done : Act → Option ℕ → Option ℕ
calls_done (read path) calls = option_map one_more calls
calls_done (list folder) calls = option_map one_more calls
calls_done (put path bytes) calls = option_map one_more calls
calls_done (say bytes) calls = calls
calls_done (warn bytes) calls = calls

-- The bytes of the output after the act.
abbrev pub out_done : Act → List ℕ → List ℕ
out_done (say bytes) out = out ++ bytes
out_done _ out = out

-- The bytes of err after the act.
abbrev pub err_done : Act → List ℕ → List ℕ
err_done (warn bytes) err = err ++ bytes
err_done _ err = err

-- What is seen after the act.
abbrev pub act_done : Act → Shown → Shown
act_done act shown = record {
  files = file_done act shown.files;
  calls = calls_done act shown.calls;
  out = out_done act shown.out;
  err = err_done act shown.err;
}

-- What is seen after the acts.
abbrev pub done : List Act → Shown → Shown
done [] shown = shown
done (act ∷ acts) shown = done acts (act_done act shown)

-- How many calls on files were made after n parts of an act that is one: it was made unless n is 0.
abbrev pub call_begun : ℕ → Option ℕ → Option ℕ
call_begun zero calls = calls
call_begun (suc n) calls = option_map one_more calls

-- What is seen after a first part of the act. A write has written its first n bytes. A call on
-- files was made unless n is 0, and left the files as they were.
abbrev pub act_begun : ℕ → Act → Shown → Shown
act_begun n (read path) shown = record shown { calls = call_begun n shown.calls }
act_begun n (list folder) shown = record shown { calls = call_begun n shown.calls }
act_begun n (put path bytes) shown = record shown { calls = call_begun n shown.calls }
act_begun n (say bytes) shown = record shown { out = shown.out ++ take n bytes }
act_begun n (warn bytes) shown = record shown { err = shown.err ++ take n bytes }

-- What is seen after a first part of the first act.
abbrev pub begun : ℕ → List Act → Shown → Shown
begun n [] shown = shown
begun n (act ∷ acts) shown = act_begun n act shown

-- What was written stays, and more may follow. It is known exactly if it was known before.
abbrev pub Extends : Option (List ℕ) → Option (List ℕ) → Type 0
Extends None new = new ≡ None
Extends (Some bytes) new = (more : List ℕ) × (new ≡ Some (bytes ++ more))

-- A number of calls that is known stays known, and doesn't fall.
abbrev pub NotFewer : Option ℕ → Option ℕ → Type 0
NotFewer None new = new ≡ None
NotFewer (Some n) new = IsSomeAnd new (λ m. n ≤ m)

-- What no call on files changes: whether the contents and the number of calls are known, and
-- whether the files are sure. What never falls: the number of calls, and the counts.
pub record KeepsFiles (old new : FilesSeen) : Type 0 where
  pub told : is_some new.contents ≡ is_some old.contents
  pub calls : NotFewer old.calls new.calls
  pub sure : new.sure ≡ old.sure
  pub counts : NoneFell old.counts new.counts

-- What no write to an output changes: whether its bytes are known, its capacity, and the bytes
-- written before. Its count of faults never falls.
pub record KeepsOut (old new : OutSeen) : Type 0 where
  pub told : Extends old.told new.told
  pub room : new.room ≡ old.room
  pub faults : old.faults ≤ new.faults

-- What no act on the three objects changes.
pub record Keeps (old new : World) : Type 0 where
  pub files : KeepsFiles old.files new.files
  pub out : KeepsOut old.out new.out
  pub err : KeepsOut old.err new.err

-- No count of faults rose.
pub record NoFault (old new : World) : Type 0 where
  pub files : new.files.counts.faults ≡ old.files.counts.faults
  pub out : new.out.faults ≡ old.out.faults
  pub err : new.err.faults ≡ old.err.faults

-- The bytes of both outputs are within the known capacities.
pub record FitsRooms (seen : World) : Type 0 where
  pub out : Within seen.out
  pub err : Within seen.err
