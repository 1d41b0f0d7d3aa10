-- What the status of a call says of its course, where the call is made inside another command.
use Rattle.std.proofs.Common.{◌≡◌, ℕ, ◌≤◌, ◌||◌, Bool, true, false, List, [], ◌∷◌, ◌++◌, length}
use Rattle.std.proofs.Common.{refl, sym, ◌∙◌, ap, subst, arith, inl, inr, if◌then◌else◌}
use Rattle.std.specs.Prelude.{Option, Some, IfSome, IsSomeAnd, nat_lt, ⊤, ◌⊎◌}
use Rattle.std.proofs.lemmas.Bool.{le-ltb, ltb-false}
use Rattle.outside_calls.specs.Contents.{Contents}
use Rattle.outside_calls.specs.OutSeen.{OutSeen, Within}
use Rattle.km_course.specs.Lines.{end_line, end_status}
use Rattle.km_course.specs.Course.{Act, Outcome, Run, Stage}
use Rattle.km_course.specs.Course.Act.{warn}
use Rattle.km_course.specs.Course.Outcome.{value, end}
use Rattle.km_course.specs.World.{World, Shown, Tells, act_done, calls_done, done}
use Rattle.km_course.specs.Carries.{Carries, HasEnded, HasRoomFor, closing_acts, outcome_status}
use Rattle.km_course.specs.Carries.{whole_acts}
use Rattle.km_course.specs.Inner.{Left, bare, inner_told, inner_end, inner_fitting, inner_outcome}
use Rattle.km_course.specs.declared.end.End.{End}
use Rattle.km_course.specs.declared.end.End.TheVariants as ends
use Rattle.km_course.specs.declared.refusal.Refusal.TheVariants.{InnerOutputFull}
use Rattle.km_course.proofs.Steps.{done-append}

-- What a call inside another gets: files with known contents whose calls don't fail, and two empty
-- outputs with this known capacity.
pub record Handed (room : ℕ) (files : Contents) (old : World) : Type 0 where
  pub calls : Option ℕ
  pub tells : Tells old (record (bare files) { calls = calls })
  pub sure : old.files.sure ≡ true
  pub out : old.out.room ≡ Some room
  pub err : old.err.room ≡ Some room

within-told : (out : OutSeen) (room : ℕ) (bytes : List ℕ) → Within out → out.room ≡ Some room
    → out.told ≡ Some bytes → length bytes ≤ room
within-told out room bytes h r t =
    let k
    = subst (λ o. IfSome o (λ b. IfSome out.room (λ n. length b ≤ n))) t h in subst
    (λ o. IfSome o (λ n. length bytes ≤ n)) r k

-- what is written fits, so the inner outcome is that of the course
fitting : (room : ℕ) (run : Run ⊤) (files : Contents) → length (inner_told run files).out ≤ room
    → length (inner_told run files).err ≤ room
    → inner_outcome room run files ≡ inner_fitting run.outcome (inner_told run files)
fitting room run files out err =
    ap (λ b. if b || nat_lt room (length (inner_told run files).err)
    then end (ends.Refused InnerOutputFull)
    else inner_fitting run.outcome (inner_told run files)) (le-ltb room _ out)
    ∙ ap (λ b. if b
    then end (ends.Refused InnerOutputFull)
    else inner_fitting run.outcome (inner_told run files)) (le-ltb room _ err)

-- what is written doesn't fit, so the inner outcome is the refusal
filling : (room : ℕ) (run : Run ⊤) (files : Contents)
    → (length (inner_told run files).out ≤ room → length (inner_told run files).err ≤ room → ⊥)
    → inner_outcome room run files ≡ end (ends.Refused InnerOutputFull)
filling room run files full = by_out (nat_lt room (length told.out)) refl
  where
    told : Shown
    told = inner_told run files

    by_err : (b : Bool) → nat_lt room (length told.err) ≡ b → length told.out ≤ room
        → (if b then end (ends.Refused InnerOutputFull) else inner_fitting run.outcome told)
        ≡ end (ends.Refused InnerOutputFull)
    by_err true e out = refl
    by_err false e out = absurd (full out (ltb-false _ _ e))

    by_out : (b : Bool) → nat_lt room (length told.out) ≡ b
        → (if b || nat_lt room (length told.err)
        then end (ends.Refused InnerOutputFull)
        else inner_fitting run.outcome told)
        ≡ end (ends.Refused InnerOutputFull)
    by_out true e = refl
    by_out false e = by_err (nat_lt room (length told.err)) refl (ltb-false _ _ e)

-- the statuses of ends
some_status : (e : End) → (1 ≤ end_status e) × (end_status e ≤ 2)
some_status (ends.Refused refusal) = (omega arith, omega arith)
some_status ends.NotUnderstood = (omega arith, omega arith)
some_status (ends.NoFile path) = (omega arith, omega arith)
some_status (ends.TooLarge path) = (omega arith, omega arith)
some_status (ends.Inner line) = (omega arith, omega arith)

low : (o : Outcome ⊤) → outcome_status o ≤ 2
low (value x) = omega arith
low (end e) = (some_status e).1

two-is : (e : End) → end_status e ≡ 2 → e ≡ ends.NotUnderstood
two-is (ends.Refused refusal) h = absurd (omega (arith, h))
two-is ends.NotUnderstood h = refl
two-is (ends.NoFile path) h = absurd (omega (arith, h))
two-is (ends.TooLarge path) h = absurd (omega (arith, h))
two-is (ends.Inner line) h = absurd (omega (arith, h))

-- how many calls were made before changes nothing else that is known
pub done-calls : (acts : List Act) (shown : Shown) (calls : Option ℕ)
    → (n : Option ℕ)
    × (done acts (record shown { calls = calls }) ≡ record (done acts shown) { calls = n })
done-calls [] shown calls = (calls, refl)
done-calls (act ∷ acts) shown calls = done-calls acts (act_done act shown) (calls_done act calls)

-- an end with status 1 is handed on by its line
inner-line : (e : End) → end_status e ≡ 1 → inner_end e ≡ ends.Inner (end_line e)
inner-line (ends.Refused refusal) h = refl
inner-line ends.NotUnderstood h = absurd (omega (arith, h))
inner-line (ends.NoFile path) h = refl
inner-line (ends.TooLarge path) h = refl
inner-line (ends.Inner line) h = refl

-- What the status of an inner call says of the inner course, where new is what the call left: with
-- 0 what the course left is known; with 1 it ended, and err ends with the line of that end; with 2
-- its words weren't understood; with 3 an output was full.
pub record InnerCame (room : ℕ) (run : Run ⊤) (files : Contents) (new : World) (status : ℕ) : Type 0
  where
    pub ended : status ≡ 0 → (left : Left) × (inner_outcome room run files ≡ value left)
        × (new.files.contents ≡ Some left.files) × (new.out.told ≡ Some left.out)
    pub refused : status ≡ 1
        → (whole : List ℕ) × (inner_outcome room run files ≡ end (ends.Inner whole))
        × (new.err.told ≡ Some ((done run.acts (bare files)).err ++ whole))
    pub misunderstood : status ≡ 2 → inner_outcome room run files ≡ end ends.NotUnderstood
    pub full : status ≡ 3 → inner_outcome room run files ≡ end (ends.Refused InnerOutputFull)

-- A call that carries a course over what it got says by its status what the inner course resulted
-- in.
pub inner_came : (room : ℕ) (course : Stage ⊤) (files : Contents) (old new : World) (status : ℕ)
    → Handed room files old → Carries course old new status
    → InnerCame room (course.run files) files new status
inner_came room course files old new status handed c = record {
  ended = λ zero. by_value (course.run files).outcome refl zero;
  refused = λ one. by_end (course.run files).outcome refl one;
  misunderstood = λ two. by_words (course.run files).outcome refl two;
  full = λ three. filling room (course.run files) files (λ out err. unfull three out err);
}
  where
    run : Run ⊤
    run = course.run files

    told : Shown
    told = inner_told run files

    began : Shown
    began = record (bare files) { calls = handed.calls }

    same : (n : Option ℕ) × (done (whole_acts run) began ≡ record told { calls = n })
    same = done-calls (whole_acts run) (bare files) handed.calls

    came : status ≤ 2 → HasEnded run began old new status
    came le = c.ended le began handed.tells

    tells : status ≤ 2 → Tells new (record told { calls = same.0 })
    tells le = subst (Tells new) same.1 (came le).tells

    fits : status ≤ 2 → inner_outcome room run files ≡ inner_fitting run.outcome told
    fits le =
        fitting room run files
        (within-told new.out room told.out c.rooms.1.out (c.keeps.out.room ∙ handed.out)
        (tells le).out)
        (within-told new.err room told.err c.rooms.1.err (c.keeps.err.room ∙ handed.err)
        (tells le).err)

    by_value : (o : Outcome ⊤) → run.outcome ≡ o → status ≡ 0
        → (left : Left) × (inner_outcome room run files ≡ value left)
        × (new.files.contents ≡ Some left.files) × (new.out.told ≡ Some left.out)
    by_value (value x) e zero =
        let le : status ≤ 2 = omega (arith, zero) in (
          record { files = told.files; out = told.out },
          fits le ∙ ap (λ o. inner_fitting o told) e,
          (tells le).files,
          (tells le).out,
        )
    by_value (end x) e zero =
        let le : status ≤ 2 = omega (arith, zero) in
        absurd (omega (arith, zero, (some_status x).0, (came le).status_is ∙ ap outcome_status e))

    by_end : (o : Outcome ⊤) → run.outcome ≡ o → status ≡ 1
        → (whole : List ℕ) × (inner_outcome room run files ≡ end (ends.Inner whole))
        × (new.err.told ≡ Some ((done run.acts (bare files)).err ++ whole))
    by_end (value x) e one =
        let le : status ≤ 2 = omega (arith, one) in
        absurd (omega (arith, one, (came le).status_is ∙ ap outcome_status e))
    by_end (end x) e one =
        let le : status ≤ 2 = omega (arith, one) in (
          end_line x,
          fits le ∙ ap (λ o. inner_fitting o told) e
              ∙ ap end (inner-line x (sym ((came le).status_is ∙ ap outcome_status e) ∙ one)),
          (tells le).err ∙ ap (λ o. Some (done (run.acts ++ closing_acts o) (bare files)).err) e
              ∙ ap (λ w. Some w.err) (done-append run.acts (warn (end_line x) ∷ []) (bare files)),
        )

    by_words : (o : Outcome ⊤) → run.outcome ≡ o → status ≡ 2
        → inner_outcome room run files ≡ end ends.NotUnderstood
    by_words (value x) e two =
        let le : status ≤ 2 = omega (arith, two) in
        absurd (omega (arith, two, (came le).status_is ∙ ap outcome_status e))
    by_words (end x) e two =
        let le : status ≤ 2 = omega (arith, two) in
        fits le
        ∙ ap (λ o. inner_fitting o told)
        (e ∙ ap end (two-is x (sym ((came le).status_is ∙ ap outcome_status e) ∙ two)))

    unfull : status ≡ 3 → length told.out ≤ room → length told.err ≤ room → ⊥
    unfull three out err = by_status (c.complete began handed.tells handed.sure has)
      where
        has : HasRoomFor old (done (whole_acts run) began)
        has = subst (HasRoomFor old) (sym same.1) (record {
          out = subst (λ o. IsSomeAnd o (λ n. length told.out ≤ n)) (sym handed.out) out;
          err = subst (λ o. IsSomeAnd o (λ n. length told.err ≤ n)) (sym handed.err) err;
        })

        by_status : (status ≡ outcome_status run.outcome) ⊎ (status ≡ 4) → ⊥
        by_status (inl e) = absurd (omega (arith, three, e, low run.outcome))
        by_status (inr e) = absurd (omega (arith, three, e))
