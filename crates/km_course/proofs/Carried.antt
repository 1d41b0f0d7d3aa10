-- A command that followed its course and was concluded carries it.
use Rattle.std.proofs.Common.{◌≡◌, ℕ, ◌≤◌, Bool, true, false, List, [], ◌∷◌, ◌++◌, take, length}
use Rattle.std.proofs.Common.{refl, sym, ◌∙◌, ap, subst, arith, append_assoc, append-nil}
use Rattle.std.proofs.Common.{length-append, inl, inr}
use Rattle.std.proofs.Math.Seq.{take-append_seam}
use Rattle.std.specs.Prelude.{Option, Some, None, Result, Ok, Err, IfSome, IsSomeAnd, ⊤, ◌⊎◌}
use Rattle.std.specs.Option.{option_map}
use Rattle.outside_calls.specs.Counts.{Rose}
use Rattle.outside_calls.specs.OutSeen.{OutSeen, WriteAnswers}
use Rattle.outside_calls.specs.declared.out.OutFailed.{OutFailed}
use Rattle.km_course.specs.Lines.{end_line, end_status, file_fault, output_fault, out_of_memory}
use Rattle.km_course.specs.Course.{Act, Stage}
use Rattle.km_course.specs.Course.Act.{read, list, say, warn, put}
use Rattle.km_course.specs.Course.Outcome.{value, end}
use Rattle.km_course.specs.World.{World, world, Shown, Tells, Keeps, KeepsOut, Extends, NoFault}
use Rattle.km_course.specs.World.{FitsRooms, act_done, act_begun, done, begun}
use Rattle.km_course.specs.Follows.{StopsAt, next_act, CallFailed, OutputFailed, WarningFailed}
use Rattle.km_course.specs.Follows.{PassesRoom, EndCounts, Follows}
use Rattle.km_course.specs.Carries.{Carries, CutShort, HasEnded, HasRoomFor, OutcomeCounts}
use Rattle.km_course.specs.Carries.{ActFailed, failed_line, closing_acts, whole_acts}
use Rattle.km_course.specs.Carries.{outcome_status, Closes, Concludes, closed_status, stop_status}
use Rattle.km_course.specs.Carries.{unwritten_status}
use Rattle.km_course.specs.declared.end.End.{End}
use Rattle.km_course.specs.declared.end.End.TheVariants.{Refused, NotUnderstood, NoFile, TooLarge}
use Rattle.km_course.specs.declared.end.End.TheVariants.{Inner}
use Rattle.km_course.specs.declared.stop.Stop.{Stop}
use Rattle.km_course.specs.declared.stop.Stop.TheVariants.{Ended, FileFault, OutputFault}
use Rattle.km_course.specs.declared.stop.Stop.TheVariants.{WarningFault, Memory}
use Rattle.km_course.proofs.Steps.{done-append, Keeps-same, KeepsFiles-same, KeepsOut-same}
use Rattle.km_course.proofs.Steps.{Keeps-trans, NoFault-trans, forgets}
use Rattle.km_course.proofs.Primitives.{keeps_written, told_more, passes}

all_taken : (l : List ℕ) → take (length l) l ≡ l
all_taken l = subst (λ k. take (length l) k ≡ l) (append-nil l) (take-append_seam l [])

-- the world with another err
abbrev closed : World → OutSeen → World
closed w err = world w.files w.out err

-- what writing a line to err made of the world
pub record Wrote (text : List ℕ) (mid : World) (err : OutSeen) (n : ℕ) : Type 0 where
  pub keeps : Keeps mid (closed mid err)
  pub tells : (shown : Shown) → Tells mid shown
      → Tells (closed mid err) (act_begun n (warn text) shown)

wrote_all : (text : List ℕ) (mid : World) (err : OutSeen) → WriteAnswers text mid.err err (Ok tt)
    → Wrote text mid err (length text)
wrote_all text mid err a =
    let told = ap (λ o. o.told) a.0 in
    let room = ap (λ o. o.room) a.0 in
    let faults = ap (λ o. o.faults) a.0 in
    record {
      keeps
          = record {
            files = KeepsFiles-same mid.files;
            out = KeepsOut-same mid.out;
            err = keeps_written mid.err err text told room (omega arith);
          };
      tells = λ shown h. record {
        files = h.files;
        calls = h.calls;
        out = h.out;
        err
            = told ∙ told_more mid.err.told shown.err text h.err
            ∙ ap (λ t. Some (shown.err ++ t)) (sym (all_taken text));
      };
    }

wrote_part : (text : List ℕ) (mid : World) (err : OutSeen) (e : OutFailed)
    (a : WriteAnswers text mid.err err (Err e))
    → Wrote text mid err a.0.0
wrote_part text mid err e a =
    let part = take a.0.0 text in
    let told = ap (λ o. o.told) a.0.2 in
    let room = ap (λ o. o.room) a.0.2 in
    let faults = ap (λ o. o.faults) a.0.2 in
    record {
      keeps
          = record {
            files = KeepsFiles-same mid.files;
            out = KeepsOut-same mid.out;
            err = keeps_written mid.err err part told room (omega (arith, faults));
          };
      tells
          = λ shown h. record {
            files = h.files;
            calls = h.calls;
            out = h.out;
            err = told ∙ told_more mid.err.told shown.err part h.err;
          };
    }

-- nothing was written
wrote_none : (mid : World) (err : OutSeen) → err ≡ mid.err → Wrote [] mid err 0
wrote_none mid err e = record {
  keeps = subst (λ o. Keeps mid (closed mid o)) (sym e) (Keeps-same mid);
  tells
      = λ shown h. record {
        files = h.files;
        calls = h.calls;
        out = h.out;
        err = ap (λ o. o.told) e ∙ h.err ∙ ap Some (sym (append-nil shown.err));
      };
}

-- an err that wrote all counted no fault
unfailed : (text : List ℕ) (mid : World) (err : OutSeen) → WriteAnswers text mid.err err (Ok tt)
    → NoFault mid (closed mid err)
unfailed text mid err a = record { files = refl; out = refl; err = ap (λ o. o.faults) a.0 }

Rose-from : (a b c : ℕ) → a ≤ b → Rose b c → Rose a c
Rose-from a b c h r = omega arith

Rose-on : (a b c : ℕ) → Rose a b → b ≤ c → Rose a c
Rose-on a b c r h = omega arith

-- a failed write was counted
counted : (text : List ℕ) (mid : World) (err : OutSeen) (e : OutFailed)
    → WriteAnswers text mid.err err (Err e) → Rose mid.err.faults err.faults
counted text mid err e a = let faults = ap (λ o. o.faults) a.0.2 in omega (arith, faults)

-- an end's cause is seen in the counts after its line was written
EndCounts-closed : (old mid : World) (err : OutSeen) (e : End) → EndCounts old mid e
    → EndCounts old (closed mid err) e
EndCounts-closed old mid err (Refused refusal) h = tt
EndCounts-closed old mid err NotUnderstood h = tt
EndCounts-closed old mid err (NoFile path) h = h
EndCounts-closed old mid err (TooLarge path) h = h
EndCounts-closed old mid err (Inner line) h = tt

-- err ends in what was written last
line_told : (old mid new : OutSeen) (text : List ℕ) → KeepsOut old mid
    → new.told ≡ option_map (λ bytes. bytes ++ text) mid.told
    → IfSome old.told (λ err. (warned : List ℕ) × (new.told ≡ Some ((err ++ warned) ++ text)))
line_told old mid new text k told = by_told old.told refl
  where
    by_told : (o : Option (List ℕ)) → old.told ≡ o
        → IfSome o (λ err. (warned : List ℕ) × (new.told ≡ Some ((err ++ warned) ++ text)))
    by_told None e = tt
    by_told (Some err) e =
        let more
        = subst (λ o. Extends o mid.told) e k.told in
        (more.0, told ∙ told_more mid.told (err ++ more.0) text more.1)

-- What was done is no less than what was known before.
grows : (acts : List Act) (shown : Shown)
    → (length shown.out ≤ length (done acts shown).out)
    × (length shown.err ≤ length (done acts shown).err)
grows [] shown = (omega arith, omega arith)
grows (say bytes ∷ acts) shown =
    let h
    = grows acts (act_done (say bytes) shown) in
    (omega (arith, h.0, length-append shown.out bytes), h.1)
grows (warn bytes ∷ acts) shown =
    let h
    = grows acts (act_done (warn bytes) shown) in
    (h.0, omega (arith, h.1, length-append shown.err bytes))
grows (read path ∷ acts) shown = grows acts (act_done (read path) shown)
grows (list path ∷ acts) shown = grows acts (act_done (list path) shown)
grows (put path bytes ∷ acts) shown = grows acts (act_done (put path bytes) shown)

fits_not : (room : Option ℕ) (written bytes all : List ℕ) → IsSomeAnd room (λ n. length all ≤ n)
    → length (written ++ bytes) ≤ length all → PassesRoom room written bytes → ⊥
fits_not None written bytes all fit grow past = fit
fits_not (Some n) written bytes all fit grow past =
    absurd (omega (arith, fit, grow, past, length-append written bytes))

-- With sure files and room for all, no act can fail.
unfailing : (acts : List Act) (shown : Shown) (old new : World) → old.files.sure ≡ true
    → HasRoomFor old (done acts shown) → CutShort acts shown old new failed_line (ActFailed old new)
    → ⊥
unfailing acts shown old new sure room cut = by_rest cut.rest cut.split cut.because
  where
    differ : {b : Bool} → b ≡ true → b ≡ false → ⊥
    differ e f = cc

    at : (act : Act) (rest : List Act) → acts ≡ cut.before ++ act ∷ rest
        → done acts shown ≡ done rest (act_done act (done cut.before shown))
    at act rest split = ap (λ a. done a shown) split ∙ done-append cut.before (act ∷ rest) shown

    by_rest : (rest : List Act) → acts ≡ cut.before ++ rest
        → ActFailed old new cut.count (done cut.before shown) (next_act rest) → ⊥
    by_rest [] split h = h
    by_rest (read path ∷ rest) split h = differ sure h.2
    by_rest (list path ∷ rest) split h = differ sure h.2
    by_rest (put path bytes ∷ rest) split h = differ sure h.2
    by_rest (say bytes ∷ rest) split h =
        let whole = at (say bytes) rest split in
        let more = grows rest (act_done (say bytes) (done cut.before shown)) in
        fits_not old.out.room (done cut.before shown).out bytes (done acts shown).out room.out
        (subst (λ w. length ((done cut.before shown).out ++ bytes) ≤ length w.out) (sym whole)
        more.0) h.1
    by_rest (warn bytes ∷ rest) split h =
        let whole = at (warn bytes) rest split in
        let more = grows rest (act_done (warn bytes) (done cut.before shown)) in
        fits_not old.err.room (done cut.before shown).err bytes (done acts shown).err room.err
        (subst (λ w. length ((done cut.before shown).err ++ bytes) ≤ length w.err) (sym whole)
        more.1) h.1

-- a course that came to its end
carried_done : (course : Stage ⊤) (old mid : World) (x : ⊤) → FitsRooms old × FitsRooms mid
    → Follows (λ (y : ⊤). y) course old mid (Ok x) → Carries course old mid 0
carried_done course old mid x rooms f = record {
  statuses = omega arith;
  keeps = f.keeps;
  rooms = rooms;
  no_fault = λ _. f.counts;
  may_come = λ _. record {
    outcome = value x;
    possible = f.comes;
    status_is = refl;
    counts = tt;
    line_is = unlined old.err.told refl;
  };
  ended = λ _ shown h. came shown h;
  fault = λ h. absurd (omega arith);
  faulted = λ h. absurd (omega arith);
  memory = λ h. absurd (omega arith);
  wanting = λ h. absurd (omega arith);
  complete = λ shown h sure room. inl (came shown h).status_is;
}
  where
    unlined : (o : Option (List ℕ)) → old.err.told ≡ o
        → IfSome o (λ err. (warned : List ℕ) × (mid.err.told ≡ Some ((err ++ warned) ++ [])))
    unlined None e = tt
    unlined (Some err) e =
        let more
        = subst (λ o. Extends o mid.err.told) e f.keeps.err.told in
        (more.0, more.1 ∙ ap Some (sym (append-nil (err ++ more.0))))

    came : (shown : Shown) → Tells old shown → HasEnded (course.run shown.files) shown old mid 0
    came shown h =
        let t = f.told shown h in
        let run = course.run shown.files in
        record {
          status_is = ap outcome_status (sym t.0);
          counts = subst (OutcomeCounts old mid) (sym t.0) tt;
          tells
              = subst (λ o. Tells mid (done (run.acts ++ closing_acts o) shown)) (sym t.0)
              (subst (λ acts. Tells mid (done acts shown)) (sym (append-nil run.acts)) t.1);
        }

low_status : (e : End) → end_status e ≤ 2
low_status (Refused refusal) = omega arith
low_status NotUnderstood = omega arith
low_status (NoFile path) = omega arith
low_status (TooLarge path) = omega arith
low_status (Inner line) = omega arith

-- an end with its line, which was written
carried_end : (course : Stage ⊤) (old mid : World) (err : OutSeen) (e : End)
    → FitsRooms old × FitsRooms (closed mid err)
    → Follows (λ (y : ⊤). y) course old mid (Err (Ended e))
    → WriteAnswers (end_line e) mid.err err (Ok tt)
    → Carries course old (closed mid err) (end_status e)
carried_end course old mid err e rooms f a =
    let text = end_line e in
    let w = wrote_all text mid err a in
    let low = low_status e in
    record {
      statuses = omega (arith, low);
      keeps = Keeps-trans f.keeps w.keeps;
      rooms = rooms;
      no_fault = λ _. NoFault-trans f.counts.0 (unfailed text mid err a);
      may_come = λ _. record {
        outcome = end e;
        possible = f.comes;
        status_is = refl;
        counts = EndCounts-closed old mid err e f.counts.1;
        line_is = line_told old.err mid.err err text f.keeps.err (ap (λ o. o.told) a.0);
      };
      ended = λ _ shown h. came shown h;
      fault = λ h. absurd (omega (arith, low, h));
      faulted = λ h. absurd (omega (arith, low, h));
      memory = λ h. absurd (omega (arith, low, h));
      wanting = λ h. absurd (omega (arith, low, h));
      complete = λ shown h sure room. inl (came shown h).status_is;
    }
  where
    came : (shown : Shown) → Tells old shown
        → HasEnded (course.run shown.files) shown old (closed mid err) (end_status e)
    came shown h =
        let t = f.told shown h in
        let run = course.run shown.files in
        let w = wrote_all (end_line e) mid err a in
        record {
          status_is = ap outcome_status (sym t.0);
          counts
              = subst (OutcomeCounts old (closed mid err)) (sym t.0)
              (EndCounts-closed old mid err e f.counts.1);
          tells
              = subst (λ o. Tells (closed mid err) (done (run.acts ++ closing_acts o) shown))
              (sym t.0)
              (subst (Tells (closed mid err))
              (sym (done-append run.acts (warn (end_line e) ∷ []) shown))
              (subst (λ b. Tells (closed mid err) (act_done (warn b) (done run.acts shown)))
              (all_taken (end_line e)) (w.tells _ t.1)));
        }

-- an end with its line, whose writing failed
carried_unwritten : (course : Stage ⊤) (old mid : World) (err : OutSeen) (e : End)
    (failure : OutFailed)
    → FitsRooms old × FitsRooms (closed mid err)
    → Follows (λ (y : ⊤). y) course old mid (Err (Ended e))
    → WriteAnswers (end_line e) mid.err err (Err failure) → Carries course old (closed mid err) 3
carried_unwritten course old mid err e failure rooms f a =
    let text = end_line e in
    let w = wrote_part text mid err failure a in
    record {
      statuses = omega arith;
      keeps = Keeps-trans f.keeps w.keeps;
      rooms = rooms;
      no_fault = λ h. absurd (omega arith);
      may_come = λ h. absurd (omega arith);
      ended = λ h. absurd (omega arith);
      fault = λ _. inr (inr rose);
      faulted = λ _ shown h. cut shown h;
      memory = λ h. absurd (omega arith);
      wanting = λ h. absurd (omega arith);
      complete
          = λ shown h sure room. absurd
          (unfailing (whole_acts (course.run shown.files)) shown old (closed mid err) sure room
          (cut shown h));
    }
  where
    rose : Rose old.err.faults err.faults
    rose
        = Rose-from old.err.faults mid.err.faults err.faults f.keeps.err.faults
        (counted (end_line e) mid err failure a)

    cut : (shown : Shown) → Tells old shown
        → CutShort (whole_acts (course.run shown.files)) shown old (closed mid err) failed_line
        (ActFailed old (closed mid err))
    cut shown h =
        let t = f.told shown h in
        let run = course.run shown.files in
        let w = wrote_part (end_line e) mid err failure a in
        record {
          before = run.acts;
          rest = warn (end_line e) ∷ [];
          count = a.0.0;
          written = 0;
          split = ap (λ o. run.acts ++ closing_acts o) t.0;
          tells
              = let d
              = w.tells _ t.1 in record {
                files = d.files;
                calls = d.calls;
                out = d.out;
                err = d.err ∙ ap Some (sym (append-nil _));
              };
          whole = inl (omega arith);
          because
              = (
                rose,
                passes mid.err old.err.room _ (end_line e) (sym f.keeps.err.room) t.1.err
                    a.2,
              );
        }

-- acts cut short where one failed, and then a line of status 3
cut_short : (acts more : List Act) (shown : Shown) (old mid : World) (err : OutSeen) (text : List ℕ)
    (n : ℕ) (cause : ℕ → Shown → Option Act → Type 0)
    → StopsAt acts shown mid cause → ((n : ℕ) (w : Shown) → cause n w None → ⊥)
    → ((n : ℕ) (w : Shown) (act : Act) → cause n w (Some act)
    → (text ≡ failed_line (Some act)) × ActFailed old (closed mid err) n w (Some act))
    → Wrote text mid err n → (length text ≤ n) ⊎ Rose old.err.faults err.faults
    → CutShort (acts ++ more) shown old (closed mid err) failed_line
    (ActFailed old (closed mid err))
cut_short acts more shown old mid err text n cause s none some w whole =
    by_rest s.rest s.count (ap (λ l. l ++ more) s.split ∙ append_assoc s.before s.rest more) s.tells
    s.because
  where
    by_rest : (rest : List Act) (count : ℕ) → acts ++ more ≡ s.before ++ (rest ++ more)
        → Tells mid (begun count rest (done s.before shown))
        → cause count (done s.before shown) (next_act rest)
        → CutShort (acts ++ more) shown old (closed mid err) failed_line
        (ActFailed old (closed mid err))
    by_rest [] count split tells because = absurd (none _ _ because)
    by_rest (act ∷ rest) count split tells because =
        let why = some _ _ act because in
        record {
          before = s.before;
          rest = act ∷ (rest ++ more);
          count = count;
          written = n;
          split = split;
          tells
              = subst (λ t. Tells (closed mid err)
              (act_begun n (warn t) (act_begun count act (done s.before shown)))) why.0
              (w.tells _ tells);
          whole = subst (λ t. (length t ≤ n) ⊎ Rose old.err.faults err.faults) why.0 whole;
          because = why.1;
        }

-- a stop with status 3
carried_fault : (course : Stage ⊤) (old mid : World) (err : OutSeen) (text : List ℕ) (n : ℕ)
    (cause : ℕ → Shown → Option Act → Type 0)
    → FitsRooms old × FitsRooms (closed mid err) → Keeps old mid
    → Rose old.files.counts.faults mid.files.counts.faults
    ⊎ Rose old.out.faults mid.out.faults
    ⊎ Rose old.err.faults err.faults
    → ((shown : Shown) → Tells old shown → StopsAt (course.run shown.files).acts shown mid cause)
    → ((n : ℕ) (w : Shown) → cause n w None → ⊥)
    → ((n : ℕ) (w : Shown) (act : Act) → cause n w (Some act)
    → (text ≡ failed_line (Some act)) × ActFailed old (closed mid err) n w (Some act))
    → Wrote text mid err n → (length text ≤ n) ⊎ Rose old.err.faults err.faults
    → Carries course old (closed mid err) 3
carried_fault course old mid err text n cause rooms k rose told none some w whole = record {
  statuses = omega arith;
  keeps = Keeps-trans k w.keeps;
  rooms = rooms;
  no_fault = λ h. absurd (omega arith);
  may_come = λ h. absurd (omega arith);
  ended = λ h. absurd (omega arith);
  fault = λ _. rose;
  faulted = λ _ shown h. cut shown h;
  memory = λ h. absurd (omega arith);
  wanting = λ h. absurd (omega arith);
  complete
      = λ shown h sure room. absurd
      (unfailing (whole_acts (course.run shown.files)) shown old (closed mid err) sure room
      (cut shown h));
}
  where
    cut : (shown : Shown) → Tells old shown
        → CutShort (whole_acts (course.run shown.files)) shown old (closed mid err) failed_line
        (ActFailed old (closed mid err))
    cut shown h
        = cut_short (course.run shown.files).acts (closing_acts (course.run shown.files).outcome)
        shown old mid err text n cause (told shown h) none some w whole

-- a stop that is out of memory
carried_memory : (course : Stage ⊤) (old mid : World) (err : OutSeen) (n : ℕ)
    → FitsRooms old × FitsRooms (closed mid err)
    → Follows (λ (y : ⊤). y) course old mid (Err Memory) → Wrote out_of_memory mid err n
    → (length out_of_memory ≤ n) ⊎ Rose old.err.faults err.faults
    → Carries course old (closed mid err) 4
carried_memory course old mid err n rooms f w whole = record {
  statuses = omega arith;
  keeps = Keeps-trans f.keeps w.keeps;
  rooms = rooms;
  no_fault = λ h. absurd (omega arith);
  may_come = λ h. absurd (omega arith);
  ended = λ h. absurd (omega arith);
  fault = λ h. absurd (omega arith);
  faulted = λ h. absurd (omega arith);
  memory = λ _. (f.counts.files, f.counts.out);
  wanting = λ _ shown h. let s = f.told shown h in record {
    before = s.before;
    rest = s.rest;
    count = s.count;
    written = n;
    split = s.split;
    tells = w.tells _ s.tells;
    whole = whole;
    because = tt;
  };
  complete = λ shown h sure room. inr refl;
}

-- the status of an end, whose line was written or not
end_unwritten : (e : End) → unwritten_status (Ended e) ≡ 3
end_unwritten (Refused refusal) = refl
end_unwritten NotUnderstood = refl
end_unwritten (NoFile path) = refl
end_unwritten (TooLarge path) = refl
end_unwritten (Inner line) = refl

-- the two ways in which an end's line may go
at_end : (course : Stage ⊤) (old mid : World) (err : OutSeen) (e : End) (status : ℕ)
    (answer : Result ⊤ OutFailed)
    → FitsRooms old × FitsRooms (closed mid err)
    → Follows (λ (y : ⊤). y) course old mid (Err (Ended e))
    → WriteAnswers (end_line e) mid.err err answer → status ≡ closed_status (Ended e) answer
    → Carries course old (closed mid err) status
at_end course old mid err e status (Ok x) rooms f a is =
    subst (Carries course old (closed mid err)) (sym is)
    (carried_end course old mid err e rooms f a)
at_end course old mid err e status (Err d) rooms f a is =
    subst (Carries course old (closed mid err)) (sym (is ∙ end_unwritten e))
    (carried_unwritten course old mid err e d rooms f a)

closed_three : (stop : Stop) → stop_status stop ≡ 3 → unwritten_status stop ≡ 3
    → (answer : Result ⊤ OutFailed) → closed_status stop answer ≡ 3
closed_three stop e u (Ok x) = e
closed_three stop e u (Err d) = u

-- the two ways in which the line of status 3 may go
at_fault : (course : Stage ⊤) (old mid : World) (err : OutSeen) (text : List ℕ) (status : ℕ)
    (answer : Result ⊤ OutFailed) (cause : ℕ → Shown → Option Act → Type 0)
    → FitsRooms old × FitsRooms (closed mid err) → Keeps old mid
    → Rose old.files.counts.faults mid.files.counts.faults ⊎ Rose old.out.faults mid.out.faults
    → ((shown : Shown) → Tells old shown → StopsAt (course.run shown.files).acts shown mid cause)
    → ((n : ℕ) (w : Shown) → cause n w None → ⊥)
    → ((n : ℕ) (w : Shown) (act : Act) → cause n w (Some act)
    → (text ≡ failed_line (Some act)) × ActFailed old (closed mid err) n w (Some act))
    → WriteAnswers text mid.err err answer → status ≡ 3 → Carries course old (closed mid err) status
at_fault course old mid err text status (Ok x) cause rooms k rose told none some a e =
    subst (Carries course old (closed mid err)) (sym e)
    (carried_fault course old mid err text (length text) cause rooms k (wider rose) told none some
    (wrote_all text mid err a) (inl (omega arith)))
  where
    wider : Rose old.files.counts.faults mid.files.counts.faults
        ⊎ Rose old.out.faults mid.out.faults
        → Rose old.files.counts.faults mid.files.counts.faults
        ⊎ Rose old.out.faults mid.out.faults
        ⊎ Rose old.err.faults err.faults
    wider (inl r) = inl r
    wider (inr r) = inr (inl r)
at_fault course old mid err text status (Err d) cause rooms k rose told none some a e =
    subst (Carries course old (closed mid err)) (sym e)
    (carried_fault course old mid err text a.0.0 cause rooms k (wider rose) told none some
    (wrote_part text mid err d a)
    (inr (Rose-from old.err.faults mid.err.faults err.faults k.err.faults
    (counted text mid err d a))))
  where
    wider : Rose old.files.counts.faults mid.files.counts.faults
        ⊎ Rose old.out.faults mid.out.faults
        → Rose old.files.counts.faults mid.files.counts.faults
        ⊎ Rose old.out.faults mid.out.faults
        ⊎ Rose old.err.faults err.faults
    wider (inl r) = inl r
    wider (inr r) = inr (inl r)

at_memory : (course : Stage ⊤) (old mid : World) (err : OutSeen) (status : ℕ)
    (answer : Result ⊤ OutFailed)
    → FitsRooms old × FitsRooms (closed mid err)
    → Follows (λ (y : ⊤). y) course old mid (Err Memory)
    → WriteAnswers out_of_memory mid.err err answer → status ≡ closed_status Memory answer
    → Carries course old (closed mid err) status
at_memory course old mid err status (Ok x) rooms f a e =
    subst (Carries course old (closed mid err)) (sym e)
    (carried_memory course old mid err (length out_of_memory) rooms f
    (wrote_all out_of_memory mid err a) (inl (omega arith)))
at_memory course old mid err status (Err d) rooms f a e =
    subst (Carries course old (closed mid err)) (sym e)
    (carried_memory course old mid err a.0.0 rooms f (wrote_part out_of_memory mid err d a)
    (inr (Rose-from old.err.faults mid.err.faults err.faults f.keeps.err.faults
    (counted out_of_memory mid err d a))))

-- why a call on files failed, seen of the whole
call_failed : (path : List ℕ) (old mid new : World) (n : ℕ) (w : Shown) (act : Act)
    → Rose old.files.counts.faults new.files.counts.faults → mid.files.sure ≡ old.files.sure
    → CallFailed path mid n w (Some act)
    → (file_fault path ≡ failed_line (Some act)) × ActFailed old new n w (Some act)
call_failed path old mid new n w (read other) rose sure c =
    (ap file_fault c.0, (c.1, rose, sym sure ∙ c.2))
call_failed path old mid new n w (list other) rose sure c =
    (ap file_fault c.0, (c.1, rose, sym sure ∙ c.2))
call_failed path old mid new n w (put other bytes) rose sure c =
    (ap file_fault c.0, (c.1, rose, sym sure ∙ c.2))
call_failed path old mid new n w (say bytes) rose sure c = absurd c.0
call_failed path old mid new n w (warn bytes) rose sure c = absurd c.0

output_failed : (old mid new : World) (n : ℕ) (w : Shown) (act : Act)
    → Rose old.out.faults new.out.faults → mid.out.room ≡ old.out.room
    → OutputFailed mid n w (Some act)
    → (output_fault ≡ failed_line (Some act)) × ActFailed old new n w (Some act)
output_failed old mid new n w (say bytes) rose room c =
    (refl, (rose, subst (λ r. PassesRoom r w.out bytes) room c))
output_failed old mid new n w (read other) rose room c = absurd c
output_failed old mid new n w (list other) rose room c = absurd c
output_failed old mid new n w (put other bytes) rose room c = absurd c
output_failed old mid new n w (warn bytes) rose room c = absurd c

warning_failed : (old mid new : World) (n : ℕ) (w : Shown) (act : Act)
    → Rose old.err.faults new.err.faults → mid.err.room ≡ old.err.room
    → WarningFailed mid n w (Some act)
    → ([] ≡ failed_line (Some act)) × ActFailed old new n w (Some act)
warning_failed old mid new n w (warn bytes) rose room c =
    (refl, (rose, subst (λ r. PassesRoom r w.err bytes) room c))
warning_failed old mid new n w (read other) rose room c = absurd c
warning_failed old mid new n w (list other) rose room c = absurd c
warning_failed old mid new n w (put other bytes) rose room c = absurd c
warning_failed old mid new n w (say bytes) rose room c = absurd c

-- a stop was closed by its line
closed_stop : (course : Stage ⊤) (old mid : World) (err : OutSeen) (stop : Stop) (status : ℕ)
    → FitsRooms old × FitsRooms (closed mid err) → Follows (λ (x : ⊤). x) course old mid (Err stop)
    → Closes stop mid.err err status → Carries course old (closed mid err) status
closed_stop course old mid err (Ended e) status rooms f c =
    at_end course old mid err e status c.0 rooms f c.1 c.2
closed_stop course old mid err (FileFault path) status rooms f c =
    at_fault course old mid err (file_fault path) status c.0 (CallFailed path mid) rooms f.keeps
    (inl f.counts.0) f.told (λ n w h. h)
    (λ n w act h. call_failed path old mid (closed mid err) n w act f.counts.0 f.keeps.files.sure h)
    c.1 (c.2 ∙ closed_three (FileFault path) refl refl c.0)
closed_stop course old mid err OutputFault status rooms f c =
    at_fault course old mid err output_fault status c.0 (OutputFailed mid) rooms f.keeps
    (inr f.counts.0) f.told (λ n w h. h)
    (λ n w act h. output_failed old mid (closed mid err) n w act f.counts.0 f.keeps.out.room h) c.1
    (c.2 ∙ closed_three OutputFault refl refl c.0)
closed_stop course old mid err WarningFault status rooms f c =
    let rose : Rose old.err.faults err.faults
    = subst (λ o. Rose old.err.faults o.faults) (sym c.1.0) f.counts.0 in
    subst (Carries course old (closed mid err))
    (sym (c.2 ∙ closed_three WarningFault refl refl c.0))
    (carried_fault course old mid err [] 0 (WarningFailed mid) rooms f.keeps (inr (inr rose)) f.told
    (λ n w h. h)
    (λ n w act h. warning_failed old mid (closed mid err) n w act rose f.keeps.err.room h)
    (wrote_none mid err c.1.0) (inl (omega arith)))
closed_stop course old mid err Memory status rooms f c =
    at_memory course old mid err status c.0 rooms f c.1 c.2

-- A command followed its course and its result was concluded: so it carries the course.
pub carried : (course : Stage ⊤) (old mid : World) (err : OutSeen) (result : Result ⊤ Stop)
    (status : ℕ)
    → FitsRooms old × FitsRooms (closed mid err) → Follows (λ (x : ⊤). x) course old mid result
    → Concludes result mid.err err status → Carries course old (closed mid err) status
carried course old mid err (Ok x) status rooms f c =
    subst (λ s. Carries course old (closed mid err) s) (sym c.1) (by_err err c.0 rooms)
  where
    by_err : (err : OutSeen) → err ≡ mid.err → FitsRooms old × FitsRooms (closed mid err)
        → Carries course old (closed mid err) 0
    by_err err e
        = subst
        (λ o. FitsRooms old × FitsRooms (closed mid o) → Carries course old (closed mid o) 0)
        (sym e) (λ rooms. carried_done course old mid x rooms f)
carried course old mid err (Err stop) status rooms f (inl c) =
    closed_stop course old mid err stop status rooms f c
carried course old mid err (Err (Ended e)) status rooms f (inr c) =
    closed_stop course old mid err Memory status rooms (forgets (λ (x : ⊤). x) course old mid e f)
    c.1
carried course old mid err (Err (FileFault path)) status rooms f (inr c) = absurd c.0
carried course old mid err (Err OutputFault) status rooms f (inr c) = absurd c.0
carried course old mid err (Err WarningFault) status rooms f (inr c) = absurd c.0
carried course old mid err (Err Memory) status rooms f (inr c) = absurd c.0
