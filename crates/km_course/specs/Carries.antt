-- What the top call guarantees of its status, for every kind of objects that it gets.
use Rattle.std.specs.Prelude.{◌≡◌, ◌⊎◌, ℕ, ◌≤◌, ◌==◌, true, false, if◌then◌else◌, List, [], ◌∷◌}
use Rattle.std.specs.Prelude.{◌++◌, length, Option, Some, None, IfSome, IsSomeAnd, Result, Ok, Err}
use Rattle.std.specs.Prelude.{⊤, unwrap_or}
use Rattle.outside_calls.specs.Counts.{Rose}
use Rattle.outside_calls.specs.OutSeen.{OutSeen, WriteAnswers}
use Rattle.outside_calls.specs.declared.out.OutFailed.{OutFailed}
use Rattle.km_course.specs.Lines.{end_line, end_status, refusal_text, file_fault, output_fault}
use Rattle.km_course.specs.Lines.{out_of_memory}
use Rattle.km_course.specs.Course.{Act, Outcome, Run, Stage}
use Rattle.km_course.specs.Course.Act.{read, list, say, warn, put}
use Rattle.km_course.specs.Course.Outcome.{value, end}
use Rattle.km_course.specs.World.{World, Shown, Tells, Keeps, NoFault, FitsRooms, act_begun, done}
use Rattle.km_course.specs.World.{begun}
use Rattle.km_course.specs.Follows.{next_act, PassesRoom, Free, EndCounts}
use Rattle.km_course.specs.declared.end.End.TheVariants.{Refused}
use Rattle.km_course.specs.declared.stop.Stop.{Stop}
use Rattle.km_course.specs.declared.stop.Stop.TheVariants.{Ended, FileFault, OutputFault}
use Rattle.km_course.specs.declared.stop.Stop.TheVariants.{WarningFault, Memory}

-- The status of a course with this outcome: 0 if it reached its end.
abbrev pub outcome_status : {X : Type 0} → Outcome X → ℕ
outcome_status (value _) = 0
outcome_status (end e) = end_status e

-- The line of an outcome, which only an end has.
abbrev pub outcome_line : Outcome ⊤ → List ℕ
outcome_line (value _) = []
outcome_line (end e) = end_line e

-- The count that is the cause of an outcome.
abbrev pub OutcomeCounts : World → World → Outcome ⊤ → Type 0
OutcomeCounts old new (value _) = ⊤
OutcomeCounts old new (end e) = EndCounts old new e

-- The line of an end is written to err as one more act. A course that reaches its end has none.
abbrev pub closing_acts : Outcome ⊤ → List Act
closing_acts (value _) = []
closing_acts (end e) = warn (end_line e) ∷ []

-- All acts of a course, with the line of its end.
abbrev pub whole_acts : Run ⊤ → List Act
whole_acts run = run.acts ++ closing_acts run.outcome

-- The line of a stop; after a failed write to err there is none.
abbrev pub stop_line : Stop → Option (List ℕ)
stop_line (Ended e) = Some (end_line e)
stop_line (FileFault path) = Some (file_fault path)
stop_line OutputFault = Some output_fault
stop_line WarningFault = None
stop_line Memory = Some out_of_memory

-- The stop that a failed act results in.
abbrev pub failed_act : Act → Stop
failed_act (read path) = FileFault path
failed_act (list path) = FileFault path
failed_act (put path bytes) = FileFault path
failed_act (say bytes) = OutputFault
failed_act (warn bytes) = WarningFault

-- The line of status 3 after this act failed.
abbrev pub failed_line : Option Act → List ℕ
failed_line None = []
failed_line (Some act) = unwrap_or (stop_line (failed_act act)) []

-- Why an act failed: the count of its object rose. Files that are sure have no failing call, and an
-- output with a known capacity fails only past it.
abbrev pub ActFailed : World → World → ℕ → Shown → Option Act → Type 0
ActFailed old new count shown None = ⊥
ActFailed old new count shown (Some (say bytes)) =
    Rose old.out.faults new.out.faults × PassesRoom old.out.room shown.out bytes
ActFailed old new count shown (Some (warn bytes)) =
    Rose old.err.faults new.err.faults × PassesRoom old.err.room shown.err bytes
ActFailed old new count shown (Some call) =
    (count ≡ 1) × Rose old.files.counts.faults new.files.counts.faults × (old.files.sure ≡ false)

-- A first part of the acts was done, and the next one begun. Then a line was written to err: all of
-- it, or a first part if the count of err rose. Nothing else was done.
pub record CutShort (acts : List Act) (shown : Shown) (old new : World) (text : Option Act → List ℕ)
    (cause : ℕ → Shown → Option Act → Type 0) : Type 0 where
  pub before : List Act
  pub rest : List Act
  pub count : ℕ
  pub written : ℕ
  pub split : acts ≡ before ++ rest
  pub tells : Tells new
      (act_begun written (warn (text (next_act rest))) (begun count rest (done before shown)))
  pub whole : (length (text (next_act rest)) ≤ written) ⊎ Rose old.err.faults new.err.faults
  pub because : cause count (done before shown) (next_act rest)

-- The outputs have known capacities, and all bytes shown fit in them.
pub record HasRoomFor (seen : World) (shown : Shown) : Type 0 where
  pub out : IsSomeAnd seen.out.room (λ room. length shown.out ≤ room)
  pub err : IsSomeAnd seen.err.room (λ room. length shown.err ≤ room)

-- The status is the status of a possible outcome of the course, whatever the calls on files answer.
-- The count that is its cause rose, and err ends in its line if the bytes of err are known.
pub record MayCome (course : Stage ⊤) (old new : World) (status : ℕ) : Type 0 where
  pub outcome : Outcome ⊤
  pub possible : course.possible outcome
  pub status_is : status ≡ outcome_status outcome
  pub counts : OutcomeCounts old new outcome
  pub line_is : IfSome old.err.told
      (λ err. (warned : List ℕ) × (new.err.told ≡ Some ((err ++ warned) ++ outcome_line outcome)))

-- The course over the known files reached its outcome. It has this status, for the cause that its
-- count shows. All its acts and the line of its end were done, and nothing else.
pub record HasEnded (run : Run ⊤) (shown : Shown) (old new : World) (status : ℕ) : Type 0 where
  pub status_is : status ≡ outcome_status run.outcome
  pub counts : OutcomeCounts old new run.outcome
  pub tells : Tells new (done (whole_acts run) shown)

-- The call carried out the course: it left the world new and answered the status. Over objects with
-- known contents, the course over their files says what was done. Over others the counts say what
-- didn't happen.
pub record Carries (course : Stage ⊤) (old new : World) (status : ℕ) : Type 0 where
  pub statuses : status ≤ 4
  -- What is known of each object, whether the files are sure, and the capacities are as before. No
  -- count fell.
  pub keeps : Keeps old new
  -- No output exceeds a known capacity.
  pub rooms : FitsRooms old × FitsRooms new
  -- Statuses 0, 1 and 2: nothing failed, the outcome is possible for the course, and over objects
  -- with known contents it is the course's own.
  pub no_fault : status ≤ 2 → NoFault old new
  pub may_come : status ≤ 2 → MayCome course old new status
  pub ended : status ≤ 2 → (shown : Shown) → Tells old shown
      → HasEnded (course.run shown.files) shown old new status
  -- Status 3: a count of faults rose, and the acts were cut short if one failed.
  pub fault : status ≡ 3
      → Rose old.files.counts.faults new.files.counts.faults
      ⊎ Rose old.out.faults new.out.faults
      ⊎ Rose old.err.faults new.err.faults
  pub faulted : status ≡ 3 → (shown : Shown) → Tells old shown →
      CutShort (whole_acts (course.run shown.files)) shown old new failed_line (ActFailed old new)
  -- Status 4: neither the files nor the output failed, and the acts were cut short anywhere.
  pub memory : status ≡ 4
      → (new.files.counts.faults ≡ old.files.counts.faults) × (new.out.faults ≡ old.out.faults)
  pub wanting : status ≡ 4 → (shown : Shown) → Tells old shown →
      CutShort (course.run shown.files).acts shown old new (λ _. out_of_memory) Free
  -- Over files that are sure, and outputs with room for the whole course: the course's status, or
  -- out of memory.
  pub complete : (shown : Shown) → Tells old shown → old.files.sure ≡ true →
      HasRoomFor old (done (whole_acts (course.run shown.files)) shown) →
      (status ≡ outcome_status (course.run shown.files).outcome) ⊎ (status ≡ 4)

-- The status of a stop whose line was written.
abbrev pub stop_status : Stop → ℕ
stop_status (Ended e) = end_status e
stop_status (FileFault path) = 3
stop_status OutputFault = 3
stop_status WarningFault = 3
stop_status Memory = 4

-- The status of a stop whose line couldn't be written.
abbrev pub unwritten_status : Stop → ℕ
unwritten_status stop = if stop_status stop == 4 then 4 else 3

-- What writing a line may answer: if there is none, nothing is written.
abbrev pub WritesLine : Option (List ℕ) → OutSeen → OutSeen → Result ⊤ OutFailed → Type 0
WritesLine (Some text) old new answer = WriteAnswers text old new answer
WritesLine None old new answer = (new ≡ old) × (answer ≡ Ok tt)

-- The status after the line was written, or wasn't.
abbrev pub closed_status : Stop → Result ⊤ OutFailed → ℕ
closed_status stop (Ok _) = stop_status stop
closed_status stop (Err _) = unwritten_status stop

-- The status of a stop, and what is written to err for it.
abbrev pub Closes : Stop → OutSeen → OutSeen → ℕ → Type 0
Closes stop old new status =
    (answer : Result ⊤ OutFailed) × WritesLine (stop_line stop) old new answer
    × (status ≡ closed_status stop answer)

-- The stop is a refusal, with a text of the program's own.
abbrev pub IsRefused : Stop → Type 0
IsRefused (Ended (Refused refusal)) = ⊤
IsRefused _ = ⊥

-- The text is the refusal's, if the stop is a refusal.
abbrev pub SaysOf : Stop → List ℕ → Type 0
SaysOf (Ended (Refused refusal)) text = text ≡ refusal_text refusal
SaysOf _ text = ⊤

-- The status of a command's result, and what is written to err for it. Memory may run out for the
-- text of a refusal, and then the command stops for that.
abbrev pub Concludes : Result ⊤ Stop → OutSeen → OutSeen → ℕ → Type 0
Concludes (Ok _) old new status = (new ≡ old) × (status ≡ 0)
Concludes (Err stop) old new status =
    Closes stop old new status ⊎ (IsRefused stop × Closes Memory old new status)
