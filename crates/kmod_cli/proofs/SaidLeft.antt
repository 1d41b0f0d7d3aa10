-- What acts that say lines leave, whole and cut short.
use Rattle.std.proofs.Common.{◌≡◌, ◌∙◌, ℕ, ◌+◌, ◌≤◌, min, List, [], ◌∷◌, ◌++◌, length, take, refl}
use Rattle.std.proofs.Common.{sym, ap, subst, inl, inr, arith, append_assoc, append-nil}
use Rattle.std.proofs.Common.{length-append}
use Rattle.std.specs.Prelude.{Some, ⊤}
use Rattle.std.proofs.lemmas.List.{take-append-le, take_min}
use Rattle.std.proofs.Math.Seq.{take-append-add}
use Rattle.outside_calls.specs.Contents.{Contents}
use Rattle.km_course.specs.Carries.{closing_acts, outcome_line, whole_acts}
use Rattle.km_course.specs.Course.{Act, Outcome, Run}
use Rattle.km_course.specs.Course.Act.{read, list, say, warn, put}
use Rattle.km_course.specs.World.{World, Shown, act_done, done}
use Rattle.km_course.proofs.Steps.{done-append}
use Rattle.laws_planned_removals.specs.Courses.{AreSaying, SaysLines}
use Rattle.kmod_cli.specs.Plans.{IsPrintedPart}
use Rattle.kmod_cli.proofs.ActsLeft.{Cut, Part, Said, Shows, after-closing, after-reads}
use Rattle.kmod_cli.proofs.ActsLeft.{part-append, part-reads}

after-saying : (acts : List Act) (lines : List ℕ) (shown : Shown) → AreSaying acts lines
    → Shows (done acts shown) shown.files (shown.out ++ lines) shown.err
after-saying [] lines shown are =
    record {
      files = refl;
      out = sym (append-nil shown.out) ∙ ap (λ x. shown.out ++ x) (sym are);
      err = refl;
    }
after-saying (read path ∷ acts) lines shown are = absurd are
after-saying (list path ∷ acts) lines shown are = absurd are
after-saying (say bytes ∷ acts) lines shown are =
    let h = after-saying acts are.0 (act_done (say bytes) shown) are.2 in
    record {
      files = h.files;
      out = h.out ∙ append_assoc shown.out bytes are.0 ∙ ap (λ x. shown.out ++ x) (sym are.1);
      err = h.err;
    }
after-saying (warn bytes ∷ acts) lines shown are = absurd are
after-saying (put path bytes ∷ acts) lines shown are = absurd are

none-said : (lines : List ℕ) (shown : Shown) (held : Contents) (printed : List ℕ)
    → shown.files ≡ held → shown.out ≡ printed → Said lines shown held printed
none-said lines shown held printed files out =
    record { bytes = 0; few = omega arith; files = files; out = append-nil shown.out ∙ out }

-- a first part of the first bytes
line-begun : (n : ℕ) (bytes rest lines : List ℕ) (shown : Shown) (held : Contents)
    (printed : List ℕ)
    → lines ≡ bytes ++ rest → shown.files ≡ held → shown.out ++ take n bytes ≡ printed
    → Said lines shown held printed
line-begun n bytes rest lines shown held printed is files out =
    let m = min n (length bytes) in
    let cut : take m lines ≡ take n bytes
    = ap (take m) is ∙ take-append-le m bytes rest (omega arith) ∙ take_min n bytes in
    let all = ap length is in
    record {
      bytes = m;
      few = omega (arith, all, length-append bytes rest);
      files = files;
      out = ap (λ x. shown.out ++ x) cut ∙ out;
    }

-- the first bytes were said, and a first part of the rest
line-said : (bytes rest lines : List ℕ) (shown next : Shown) (held : Contents) (printed : List ℕ)
    → lines ≡ bytes ++ rest → shown.files ≡ next.files → shown.out ++ bytes ≡ next.out
    → Said rest next held printed → Said lines shown held printed
line-said bytes rest lines shown next held printed is files out s =
    let all = ap length is in
    let few = s.few in
    record {
      bytes = length bytes + s.bytes;
      few = omega (arith, all, few, length-append bytes rest);
      files = files ∙ s.files;
      out =
          ap (λ x. shown.out ++ take (length bytes + s.bytes) x) is
          ∙ ap (λ x. shown.out ++ x) (take-append-add bytes rest s.bytes)
          ∙ sym (append_assoc shown.out bytes (take s.bytes rest))
          ∙ ap (λ x. x ++ take s.bytes rest) out
          ∙ s.out;
    }

part-saying : (acts : List Act) (lines : List ℕ) (shown : Shown) (held : Contents)
    (printed : List ℕ)
    → AreSaying acts lines → Part acts shown held printed → Said lines shown held printed
part-saying [] lines shown held printed are p = none-said lines shown held printed p.0 p.1
part-saying (read path ∷ acts) lines shown held printed are p = absurd are
part-saying (list path ∷ acts) lines shown held printed are p = absurd are
part-saying (say bytes ∷ acts) lines shown held printed are (inl p) =
    line-begun p.1.0 bytes are.0 lines shown held printed are.1 p.0 p.1.1
part-saying (say bytes ∷ acts) lines shown held printed are (inr p) =
    let next = act_done (say bytes) shown in
    line-said bytes are.0 lines shown next held printed are.1 refl refl
    (part-saying acts are.0 next held printed are.2 p)
part-saying (warn bytes ∷ acts) lines shown held printed are p = absurd are
part-saying (put path bytes ∷ acts) lines shown held printed are p = absurd are

-- a course that says lines, whole
pub lines-told : (lines : List ℕ) (outcome : Outcome ⊤) (run : Run ⊤) (shown : Shown)
    → SaysLines lines outcome run
    → Shows (done (whole_acts run) shown) shown.files (shown.out ++ lines)
    (shown.err ++ outcome_line outcome)
lines-told lines outcome run shown s =
    let s1 = done s.before shown in
    let s2 = done s.saying s1 in
    let all : done (whole_acts run) shown ≡ done (closing_acts run.outcome) s2 =
    done-append run.acts (closing_acts run.outcome) shown
    ∙ ap (done (closing_acts run.outcome))
    (ap (λ acts. done acts shown) s.acts ∙ done-append s.before s.saying shown) in
    let h1 = after-reads s.before shown s.reads in
    let h2 = after-saying s.saying lines s1 s.says in
    let h3 = after-closing run.outcome s2 in
    record {
      files = ap (λ (x : Shown). x.files) all ∙ h3.files ∙ h2.files ∙ h1.files;
      out = ap (λ (x : Shown). x.out) all ∙ h3.out ∙ h2.out ∙ ap (λ out. out ++ lines) h1.out;
      err =
          ap (λ (x : Shown). x.err) all ∙ h3.err
          ∙ ap (λ err. err ++ outcome_line run.outcome) (h2.err ∙ h1.err)
          ∙ ap (λ o. shown.err ++ outcome_line o) s.ends;
    }

-- and cut short
pub lines-part : (lines : List ℕ) (outcome : Outcome ⊤) (run : Run ⊤) (shown : Shown) (new : World)
    → SaysLines lines outcome run → Cut run.acts shown new → IsPrintedPart lines shown new
lines-part lines outcome run shown new s c =
    let s1 = done s.before shown in
    let h1 = after-reads s.before shown s.reads in
    let told : Said lines shown c.held c.printed
    = elim (part-append s.before s.saying shown c.held c.printed
    (subst (λ acts. Part acts shown c.held c.printed) s.acts c.part)) [
      | inl q ↦
          let h = part-reads s.before shown c.held c.printed s.reads q in
          none-said lines shown c.held c.printed h.0 h.1
      | inr q ↦
          let t = part-saying s.saying lines s1 c.held c.printed s.says q in
          record {
            bytes = t.bytes;
            few = t.few;
            files = sym h1.files ∙ t.files;
            out = ap (λ out. out ++ take t.bytes lines) (sym h1.out) ∙ t.out;
          }
    ] in
    record {
      bytes = told.bytes;
      files = c.files ∙ ap Some (sym told.files);
      out = c.out ∙ ap Some (sym told.out);
    }
