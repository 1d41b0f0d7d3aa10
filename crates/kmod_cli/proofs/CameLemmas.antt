-- The outcome of a call that carried out a course over files and outputs with known contents.
use Rattle.std.proofs.Common.{◌≡◌, ◌∙◌, ℕ, ◌≤◌, length, ap, subst, sym, inl, inr, arith}
use Rattle.std.specs.Prelude.{Some, IsSomeAnd, ⊤}
use Rattle.std.proofs.lemmas.Bool.{cases_eq, cases_lt}
use Rattle.km_course.specs.Carries.{Carries, HasRoomFor, outcome_status, whole_acts}
use Rattle.km_course.specs.Course.{Stage}
use Rattle.km_course.specs.World.{World, Shown, Tells, done}
use Rattle.kmod_cli.specs.CameTo.{CameTo}
use Rattle.kmod_cli.proofs.ActsLeft.{Cut, Shows, cut-at, part-closed}

pub came-to : (course : Stage ⊤) (old new : World) (status : ℕ) → Carries course old new status
    → (shown : Shown) → Tells old shown → (expected : ℕ) (told : Shown)
    → Shows (done (whole_acts (course.run shown.files)) shown) told.files told.out told.err
    → expected ≤ 2 → outcome_status (course.run shown.files).outcome ≡ expected
    → {IsPart : World → Type 0} → (Cut (course.run shown.files).acts shown new → IsPart new)
    → CameTo expected told IsPart old new status
came-to course old new status c shown tells expected told all low is parts =
    let run = course.run shown.files in
    record {
      ended = elim (cases_lt 2 status) [
        | inr less ↦ inl ((c.ended less shown tells).status_is ∙ is)
        | inl high ↦ elim (cases_eq status 3) [
          | inl three ↦ inr (inl three)
          | inr other ↦ let most = c.statuses in inr (inr (omega (arith, high, other, most)))
        ]
      ];
      whole = λ same.
          let now = (c.ended (omega (arith, same, low)) shown tells).tells in (
            (done (whole_acts run) shown).calls,
            record {
              files = now.files ∙ ap Some all.files;
              calls = now.calls;
              out = now.out ∙ ap Some all.out;
              err = now.err ∙ ap Some all.err;
            },
          );
      part = λ which. parts (elim which [
        | inl three ↦
            let cut = cut-at (whole_acts run) (c.faulted three shown tells) in
            record {
              held = cut.held;
              printed = cut.printed;
              part = part-closed run.acts run.outcome shown cut.held cut.printed cut.part;
              files = cut.files;
              out = cut.out;
            }
        | inr four ↦ cut-at run.acts (c.wanting four shown tells)
      ]);
      complete = λ sure room.
          let fits : HasRoomFor old (done (whole_acts run) shown) = record {
            out
                = subst (λ out. IsSomeAnd old.out.room (λ n. length out ≤ n)) (sym all.out)
                room.out;
            err
                = subst (λ err. IsSomeAnd old.err.room (λ n. length err ≤ n)) (sym all.err)
                room.err;
          } in
          elim (c.complete shown tells sure fits)
          [ inl whole ↦ inl (whole ∙ is) | inr four ↦ inr four ];
    }
