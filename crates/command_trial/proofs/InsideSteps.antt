-- What a command inside a trial resulted in, as its course and its status say.
use Rattle.std.proofs.Common.{◌≡◌, ℕ, ◌≤◌, true, List, ◌++◌, length, drop, refl, sym, ◌∙◌, ap}
use Rattle.std.proofs.Common.{subst, arith, inl, inr}
use Rattle.std.proofs.Math.Seq.{drop-append_seam}
use Rattle.std.specs.Prelude.{Some, Result, Ok, Err, ⊤}
use Rattle.outside_calls.specs.Contents.{Contents}
use Rattle.outside_calls.specs.MemFilesSeen.{MemFilesSeen, mem_files_seen, no_kind_listed}
use Rattle.outside_calls.specs.MemOutSeen.{MemOutSeen, empty_with_room, mem_out_seen}
use Rattle.outside_calls.specs.MemOutSeen.{mem_out-within}
use Rattle.outside_calls.specs.OutSeen.{OutSeen}
use Rattle.outside_calls.specs.declared.out.OutFailed.{OutFailed}
use Rattle.km_course.specs.Course.{Outcome, Stage}
use Rattle.km_course.specs.Course.Outcome.{value, end}
use Rattle.km_course.specs.World.{World, world, Shown, Tells, FitsRooms, done}
use Rattle.km_course.specs.Follows.{Answers, Follows}
use Rattle.km_course.specs.Carries.{Concludes, closed_status, stop_status, unwritten_status}
use Rattle.km_course.specs.Inner.{Left, bare, inner_outcome}
use Rattle.km_course.specs.Conclusion.{conclusion_status}
use Rattle.km_course.specs.declared.conclusion.Conclusion.{Conclusion}
use Rattle.km_course.specs.declared.end.End.TheVariants.{Inner, NoFile, NotUnderstood, Refused}
use Rattle.km_course.specs.declared.end.End.TheVariants.{TooLarge}
use Rattle.km_course.specs.declared.refusal.Refusal.TheVariants.{InnerOutputFull}
use Rattle.km_course.specs.declared.stop.Stop.{Stop}
use Rattle.km_course.specs.declared.stop.Stop.TheVariants.{Ended, FileFault, OutputFault}
use Rattle.km_course.specs.declared.stop.Stop.TheVariants.{WarningFault, Memory}
use Rattle.km_course.proofs.Carried.{carried}
use Rattle.km_course.proofs.Inside.{Handed, InnerCame, done-calls, inner_came}
use Rattle.command_trial.specs.Inside.{Came}
use Rattle.command_trial.specs.Trial.{inner_room}

-- The outcome is the one that the status states of a command that left these files and this output,
-- and wrote this line.
pub record CameByStatus (outcome : Outcome Left) (left : Left) (line : List ℕ) (status : ℕ) : Type 0
  where
    pub ended : status ≡ 0 → outcome ≡ value left
    pub refused : status ≡ 1 → outcome ≡ end (Inner line)
    pub misunderstood : status ≡ 2 → outcome ≡ end NotUnderstood
    pub full : status ≡ 3 → outcome ≡ end (Refused InnerOutputFull)

-- What the status of a conclusion states, the conclusion does.
pub by_conclusion : (conclusion : Conclusion) (outcome : Outcome Left) (left : Left) (line : List ℕ)
    → CameByStatus outcome left line (conclusion_status conclusion)
    → Came outcome left line conclusion
by_conclusion conclusion outcome left line c =
    record {
      ended = λ is. c.ended (ap conclusion_status is);
      refused = λ is. c.refused (ap conclusion_status is);
      misunderstood = λ is. c.misunderstood (ap conclusion_status is);
      full = λ is. c.full (ap conclusion_status is);
    }

same-some : {A : Type 0} (a b : A) → Some a ≡ Some b → a ≡ b
same-some a b is = cc

-- a stop that is no end never closes with status 1
not-one : (stop : Stop) (answer : Result ⊤ OutFailed) (status : ℕ)
    → status ≡ closed_status stop answer → 3 ≤ stop_status stop → 3 ≤ unwritten_status stop
    → status ≡ 1 → ⊥
not-one stop (Ok x) status is written unwritten one = omega arith
not-one stop (Err d) status is written unwritten one = omega arith

-- what err had when the line of an end was to be written: the warnings of the course
warnings : (course : Stage ⊤) (shown : Shown) (old mid : World) (err : OutSeen)
    (result : Result ⊤ Stop) (status : ℕ)
    → Tells old shown → Follows (λ x. x) course old mid result → Concludes result mid.err err status
    → status ≡ 1 → mid.err.told ≡ Some (done (course.run shown.files).acts shown).err
warnings course shown old mid err (Ok x) status tells f c one = (f.told shown tells).1.err
warnings course shown old mid err (Err (Ended e)) status tells f c one = (f.told shown tells).1.err
warnings course shown old mid err (Err (FileFault path)) status tells f (inl c) one =
    absurd (not-one (FileFault path) c.0 status c.2 (omega arith) (omega arith) one)
warnings course shown old mid err (Err OutputFault) status tells f (inl c) one =
    absurd (not-one OutputFault c.0 status c.2 (omega arith) (omega arith) one)
warnings course shown old mid err (Err WarningFault) status tells f (inl c) one =
    absurd (not-one WarningFault c.0 status c.2 (omega arith) (omega arith) one)
warnings course shown old mid err (Err Memory) status tells f (inl c) one =
    absurd (not-one Memory c.0 status c.2 (omega arith) (omega arith) one)
warnings course shown old mid err (Err (FileFault path)) status tells f (inr c) one = absurd c.0
warnings course shown old mid err (Err OutputFault) status tells f (inr c) one = absurd c.0
warnings course shown old mid err (Err WarningFault) status tells f (inr c) one = absurd c.0
warnings course shown old mid err (Err Memory) status tells f (inr c) one = absurd c.0

-- A command inside followed its course and was concluded. So its status says what the inner course
-- resulted in.
pub came : (room : ℕ) (course : Stage ⊤) (old mid : World) (err : OutSeen) (result : Result ⊤ Stop)
    (status : ℕ) (files : Contents) (left : Left) (warned bytes line : List ℕ)
    → Handed room files old → FitsRooms old × FitsRooms (world mid.files mid.out err)
    → Follows (λ x. x) course old mid result → Concludes result mid.err err status
    → mid.files.contents ≡ Some left.files → mid.out.told ≡ Some left.out
    → mid.err.told ≡ Some warned → err.told ≡ Some bytes → line ≡ drop (length warned) bytes
    → CameByStatus (inner_outcome room (course.run files) files) left line status
came room course old mid err result status files left warned bytes line handed rooms f c tells-files
    tells-out tells-warned tells-err is
    =
    record {
      ended = λ zero. by_left (status_says.ended zero);
      refused = λ one. by_line one (status_says.refused one);
      misunderstood = status_says.misunderstood;
      full = status_says.full;
    }
  where
    status_says : InnerCame room (course.run files) files (world mid.files mid.out err) status
    status_says
        = inner_came room course files old (world mid.files mid.out err) status handed
        (carried course old mid err result status rooms f c)

    by_left : (other : Left) × (inner_outcome room (course.run files) files ≡ value other)
        × (mid.files.contents ≡ Some other.files) × (mid.out.told ≡ Some other.out)
        → inner_outcome room (course.run files) files ≡ value left
    by_left o =
        let same-files : o.0.files ≡ left.files
        = same-some o.0.files left.files (sym o.2 ∙ tells-files) in
        let same-out : o.0.out ≡ left.out = same-some o.0.out left.out (sym o.3 ∙ tells-out) in
        o.1 ∙ ap (λ fs. value (record { files = fs; out = o.0.out })) same-files
        ∙ ap (λ bs. value (record { files = left.files; out = bs })) same-out

    by_line : status ≡ 1
        → (whole : List ℕ) × (inner_outcome room (course.run files) files ≡ end (Inner whole))
        × (err.told ≡ Some ((done (course.run files).acts (bare files)).err ++ whole))
        → inner_outcome room (course.run files) files ≡ end (Inner line)
    by_line one o =
        let before : List ℕ = (done (course.run files).acts (bare files)).err in
        let began : Shown = record (bare files) { calls = handed.calls } in
        let told = warnings course began old mid err result status handed.tells f c one in
        let uncounted
        = ap (λ (w : Shown). w.err)
        (done-calls (course.run files).acts (bare files) handed.calls).1 in
        let same-warned : warned ≡ before
        = same-some warned before (sym tells-warned ∙ told ∙ ap Some uncounted) in
        let same-bytes : bytes ≡ before ++ o.0
        = same-some bytes (before ++ o.0) (sym tells-err ∙ o.2) in
        let same-line : line ≡ o.0
        = is ∙ ap (λ n. drop (length n) bytes) same-warned
        ∙ ap (drop (length before)) same-bytes ∙ drop-append_seam before o.0 in
        o.1 ∙ ap (λ l. end (Inner l)) (sym same-line)

-- The same for a command with these words over files in memory whose calls don't fail, and outputs
-- in memory with this capacity.
pub came_inside : (course : List (List ℕ) → Stage ⊤) (words want : List (List ℕ))
    (files left : MemFilesSeen) (out err said warned concluded : MemOutSeen)
    (result : Result ⊤ Stop) (status : ℕ) (line : List ℕ)
    → words ≡ want → no_kind_listed files.kinds ≡ true → out ≡ empty_with_room inner_room
    → err ≡ empty_with_room inner_room
    → Follows (λ x. x) (course words)
    (world (mem_files_seen files) (mem_out_seen out) (mem_out_seen err))
    (world (mem_files_seen left) (mem_out_seen said) (mem_out_seen warned)) result
    → Concludes result (mem_out_seen warned) (mem_out_seen concluded) status
    → line ≡ drop (length warned.bytes) concluded.bytes
    → CameByStatus (inner_outcome inner_room ((course want).run files.contents) files.contents)
    (record { files = left.contents; out = said.bytes }) line status
came_inside course words want files left out err said warned concluded result status line same
    listed out-is err-is f c is
    =
    came inner_room (course want) old mid (mem_out_seen concluded) result status files.contents
    (record { files = left.contents; out = said.bytes }) warned.bytes concluded.bytes line
    handed rooms
    (subst (λ ws. Follows (λ (x : ⊤). x) (course ws) old mid result) same f) c refl refl refl refl
    is
  where
    old : World
    old = world (mem_files_seen files) (mem_out_seen out) (mem_out_seen err)

    mid : World
    mid = world (mem_files_seen left) (mem_out_seen said) (mem_out_seen warned)

    handed : Handed inner_room files.contents old
    handed = record {
      calls = Some files.calls;
      tells
          = record {
            files = refl;
            calls = refl;
            out = ap (λ (o : MemOutSeen). Some o.bytes) out-is;
            err = ap (λ (o : MemOutSeen). Some o.bytes) err-is;
          };
      sure = listed;
      out = ap (λ (o : MemOutSeen). (mem_out_seen o).room) out-is;
      err = ap (λ (o : MemOutSeen). (mem_out_seen o).room) err-is;
    }

    rooms : FitsRooms old
        × FitsRooms (world (mem_files_seen left) (mem_out_seen said) (mem_out_seen concluded))
    rooms = (
      record { out = mem_out-within out; err = mem_out-within err },
      record { out = mem_out-within said; err = mem_out-within concluded },
    )

-- How a call stops says the same, whatever its value would be seen as.
stops-alike : {T U X : Type 0} (view : T → X) (look : U → X) (o : Outcome X) (stop : Stop)
    → Answers view o (Err stop) → Answers look o (Err stop)
stops-alike view look o (Ended (Refused refusal)) h = h
stops-alike view look o (Ended NotUnderstood) h = h
stops-alike view look o (Ended (NoFile path)) h = h
stops-alike view look o (Ended (TooLarge path)) h = h
stops-alike view look o (Ended (Inner line)) h = h
stops-alike view look o (FileFault path) h = h
stops-alike view look o OutputFault h = h
stops-alike view look o WarningFault h = h
stops-alike view look o Memory h = h

-- the exit of a `?` on a call that stopped
pub stopped : {T U X : Type 0} (view : T → X) (look : U → X) (o : Outcome X) (r : Result U Stop)
    (stop d : Stop)
    → r ≡ Err d → d ≡ stop → Answers view o (Err stop) → Answers look o r
stopped view look o r stop d is same h =
    subst (λ q. Answers look o q) (sym (is ∙ ap Err same)) (stops-alike view look o stop h)
