-- What it means that a call followed a stage: the contract of every function above the traits.
use Rattle.std.specs.Prelude.{◌≡◌, ℕ, ◌+◌, ◌<◌, false, List, [], ◌∷◌, ◌++◌, length, Option, Some}
use Rattle.std.specs.Prelude.{None, Result, Ok, Err, IfSome, ⊤}
use Rattle.outside_calls.specs.Counts.{Rose}
use Rattle.outside_calls.specs.declared.files.FileAnswer.{FileAnswer}
use Rattle.outside_calls.specs.declared.files.FileAnswer.TheVariants as answers
use Rattle.km_course.specs.Course.{Act, Outcome, Run, Stage}
use Rattle.km_course.specs.Course.Act.{read, list, say, warn, put}
use Rattle.km_course.specs.Course.Outcome.{value, end}
use Rattle.km_course.specs.World.{World, Shown, Tells, Keeps, NoFault, done, begun}
use Rattle.km_course.specs.declared.end.End.{End}
use Rattle.km_course.specs.declared.end.End.TheVariants.{NoFile, TooLarge}
use Rattle.km_course.specs.declared.stop.Stop.{Stop}
use Rattle.km_course.specs.declared.stop.Stop.TheVariants.{Ended, FileFault, OutputFault}
use Rattle.km_course.specs.declared.stop.Stop.TheVariants.{WarningFault, Memory}

-- The first of the acts, if there is one.
abbrev pub next_act : List Act → Option Act
next_act [] = None
next_act (act ∷ acts) = Some act

-- A first part of the acts was done, the next one was begun, and nothing else was done. The cause
-- holds of three things: how much of the next act was done, what was seen before it, and the act
-- itself.
pub record StopsAt (acts : List Act) (shown : Shown) (new : World)
    (cause : ℕ → Shown → Option Act → Type 0) : Type 0 where
  pub before : List Act
  pub rest : List Act
  pub count : ℕ
  pub split : acts ≡ before ++ rest
  pub tells : Tells new (begun count rest (done before shown))
  pub because : cause count (done before shown) (next_act rest)

-- The act is a call on files at this path.
abbrev pub IsCallAt : List ℕ → Act → Type 0
IsCallAt path (read other) = path ≡ other
IsCallAt path (list other) = path ≡ other
IsCallAt path (put other bytes) = path ≡ other
IsCallAt path (say bytes) = ⊥
IsCallAt path (warn bytes) = ⊥

-- The bytes and these more exceed the capacity, if it is known.
abbrev pub PassesRoom : Option ℕ → List ℕ → List ℕ → Type 0
PassesRoom room written bytes = IfSome room (λ n. n < length written + length bytes)

-- Why a call on files failed: it is the next act, it was made, and the files aren't sure.
abbrev pub CallFailed : List ℕ → World → ℕ → Shown → Option Act → Type 0
CallFailed path new count shown None = ⊥
CallFailed path new count shown (Some act) =
    IsCallAt path act × (count ≡ 1) × (new.files.sure ≡ false)

-- Why a write to the output failed: it is the next act, and an output with a known capacity has no
-- room for it.
abbrev pub OutputFailed : World → ℕ → Shown → Option Act → Type 0
OutputFailed new count shown (Some (say bytes)) = PassesRoom new.out.room shown.out bytes
OutputFailed new count shown _ = ⊥

-- Why a write to err failed: it is the next act, and an output with a known capacity has no room
-- for it.
abbrev pub WarningFailed : World → ℕ → Shown → Option Act → Type 0
WarningFailed new count shown (Some (warn bytes)) = PassesRoom new.err.room shown.err bytes
WarningFailed new count shown _ = ⊥

-- Out of memory needs no cause.
abbrev pub Free : ℕ → Shown → Option Act → Type 0
Free count shown next = ⊤

-- What is seen after a call that stopped in this way, if the stage has this run.
abbrev pub Stopped : {X : Type 0} → Run X → Shown → World → Stop → Type 0
Stopped run shown new (Ended e) = (run.outcome ≡ end e) × Tells new (done run.acts shown)
Stopped run shown new (FileFault path) = StopsAt run.acts shown new (CallFailed path new)
Stopped run shown new OutputFault = StopsAt run.acts shown new (OutputFailed new)
Stopped run shown new WarningFault = StopsAt run.acts shown new (WarningFailed new)
Stopped run shown new Memory = StopsAt run.acts shown new Free

-- What is seen after a call with this result, whose value is read by `view`.
abbrev pub Told : {T X : Type 0} → (T → X) → Run X → Shown → World → Result T Stop → Type 0
Told view run shown new (Ok x) = (run.outcome ≡ value (view x)) × Tells new (done run.acts shown)
Told view run shown new (Err stop) = Stopped run shown new stop

-- The count that is the cause of an end: an absence, or an excess.
abbrev pub EndCounts : World → World → End → Type 0
EndCounts old new (NoFile path) = Rose old.files.counts.absences new.files.counts.absences
EndCounts old new (TooLarge path) = Rose old.files.counts.excesses new.files.counts.excesses
EndCounts old new _ = ⊤

-- The counts that are the cause of a stop.
abbrev pub StopCounts : World → World → Stop → Type 0
StopCounts old new (Ended e) = NoFault old new × EndCounts old new e
StopCounts old new (FileFault path) =
    Rose old.files.counts.faults new.files.counts.faults × (new.out.faults ≡ old.out.faults)
    × (new.err.faults ≡ old.err.faults)
StopCounts old new OutputFault =
    Rose old.out.faults new.out.faults × (new.files.counts.faults ≡ old.files.counts.faults)
    × (new.err.faults ≡ old.err.faults)
StopCounts old new WarningFault =
    Rose old.err.faults new.err.faults × (new.files.counts.faults ≡ old.files.counts.faults)
    × (new.out.faults ≡ old.out.faults)
StopCounts old new Memory = NoFault old new

abbrev pub Counts : {T : Type 0} → World → World → Result T Stop → Type 0
Counts old new (Ok x) = NoFault old new
Counts old new (Err stop) = StopCounts old new stop

-- The result is a possible outcome of the stage, unless a call failed or memory ran out.
abbrev pub Comes : {T X : Type 0} → (T → X) → Stage X → Result T Stop → Type 0
Comes view stage (Ok x) = stage.possible (value (view x))
Comes view stage (Err (Ended e)) = stage.possible (end e)
Comes view stage (Err _) = ⊤

-- The call followed the stage: it left the world new, and answered the result, whose value is read
-- by `view`. The first three fields hold over all objects, also those whose contents aren't known.
pub record Follows {T X : Type 0} (view : T → X) (stage : Stage X) (old new : World)
    (result : Result T Stop) : Type 0 where
  pub keeps : Keeps old new
  pub counts : Counts old new result
  pub comes : Comes view stage result
  pub told : (shown : Shown) → Tells old shown → Told view (stage.run shown.files) shown new result

-- What a check that uses no files and outputs may answer, if this is its outcome: the value, the
-- end, or out of memory. The end is none that the files cause.
abbrev pub Answers : {T X : Type 0} → (T → X) → Outcome X → Result T Stop → Type 0
Answers view outcome (Ok x) = outcome ≡ value (view x)
Answers view outcome (Err (Ended (NoFile path))) = ⊥
Answers view outcome (Err (Ended (TooLarge path))) = ⊥
Answers view outcome (Err (Ended e)) = outcome ≡ end e
Answers view outcome (Err Memory) = ⊤
Answers view outcome (Err _) = ⊥

-- The stop of a command after a refused call on files at the path, if nothing may be absent.
abbrev pub stop_for : FileAnswer → List ℕ → Stop
stop_for answers.Absent path = Ended (NoFile path)
stop_for answers.Failed path = FileFault path
stop_for (answers.TooLarge n) path = Ended (TooLarge path)
stop_for answers.Memory path = Memory
