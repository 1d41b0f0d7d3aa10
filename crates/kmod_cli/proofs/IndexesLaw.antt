-- depmod's half of the headline, by the course of a depmod and what a call that carries a course
-- did.
use Rattle.std.proofs.Common.{◌≡◌, ◌∙◌, ℕ, ◌≤◌, List, [], ◌++◌, None, refl, sym, ap, subst, arith}
use Rattle.std.proofs.Common.{append-nil}
use Rattle.std.specs.Prelude.{Option, Some, ⊤}
use Rattle.km_course.specs.Carries.{Carries, outcome_status, whole_acts}
use Rattle.km_course.specs.Course.{Outcome, Run, ends, if_understood}
use Rattle.km_course.specs.Course.Outcome.{value, end}
use Rattle.km_course.specs.Lines.{end_status, usage}
use Rattle.km_course.specs.World.{World, Shown, Tells, done}
use Rattle.km_course.specs.declared.end.End.{End}
use Rattle.km_course.specs.declared.end.End.TheVariants.{Refused, NotUnderstood, NoFile, TooLarge}
use Rattle.km_course.specs.declared.end.End.TheVariants.{Inner}
use Rattle.kmod_words.specs.declared.depmod.DepmodWords.{DepmodWords}
use Rattle.kmod_words.specs.Depmod.{depmod_request}
use Rattle.command_depmod.specs.Depmod.{indexes, depmod_course}
use Rattle.laws_planned_loads.proofs.RunLemmas.{run-given, run_of}
use Rattle.laws_depmod_leaves.specs.Comes.{IndexedTree}
use Rattle.laws_depmod_leaves.specs.Course.{IsIndexingCourse, closes}
use Rattle.laws_depmod_leaves.proofs.CourseLemmas.{courses-index}
use Rattle.kmod_cli.specs.Indexes.{Indexes, IsPartOf, told_of}
use Rattle.kmod_cli.specs.Plans.{IsPrintedPart}
use Rattle.kmod_cli.proofs.ActsLeft.{Cut, Shows}
use Rattle.kmod_cli.proofs.CameLemmas.{came-to}
use Rattle.kmod_cli.proofs.IndexLeft.{index-left, index-part}

pub end-low : (e : End) → end_status e ≤ 2
end-low (Refused refusal) = omega arith
end-low NotUnderstood = omega arith
end-low (NoFile path) = omega arith
end-low (TooLarge path) = omega arith
end-low (Inner line) = omega arith

status-low : (o : Outcome IndexedTree) → outcome_status o ≤ 2
status-low (value i) = omega arith
status-low (end e) = end-low e

closes-status : (o : Outcome IndexedTree) → outcome_status (closes o) ≡ outcome_status o
closes-status (value i) = refl
closes-status (end e) = refl

-- words that aren't understood have no act
none-asked : (words : List (List ℕ)) (shown : Shown) → depmod_request words ≡ None
    → (depmod_course words).run shown.files ≡ run_of [] (end NotUnderstood)
none-asked words shown none =
    ap (λ request. (if_understood indexes request).run shown.files) none
    ∙ run-given (end NotUnderstood) shown.files

pub indexes-law : (words : List (List ℕ)) (old new : World) (status : ℕ)
    → Carries (depmod_course words) old new status → Indexes words old new status
indexes-law words old new status c = record {
  understood = λ shown tells asked is.
      let course = depmod_course words in
      let run : Run ⊤ = course.run shown.files in
      let h : IsIndexingCourse shown.files asked run =
      subst (λ request. IsIndexingCourse shown.files asked
      ((if_understood indexes request).run shown.files)) (sym is) (courses-index shown.files asked)
      in
      let left : Shows (done (whole_acts run) shown) (told_of asked h.outcome shown).files
      (told_of asked h.outcome shown).out (told_of asked h.outcome shown).err
      =
      index-left asked h.outcome h.before run.acts run.outcome shown h.reads h.acts h.ends in
      let part : Cut run.acts shown new → IsPartOf asked h.outcome shown new =
      index-part asked h.outcome h.before run.acts shown new h.reads h.acts in
      record {
        outcome = h.outcome;
        comes = h.comes;
        call =
            came-to course old new status c shown tells (outcome_status h.outcome)
            (told_of asked h.outcome shown) left
            (status-low h.outcome) (ap outcome_status h.ends ∙ closes-status h.outcome) part;
      };
  not_understood = λ shown tells none.
      let course = depmod_course words in
      let run : Run ⊤ = course.run shown.files in
      let is : run ≡ run_of [] (end NotUnderstood) = none-asked words shown none in
      let left : Shows (done (whole_acts run) shown) shown.files shown.out (shown.err ++ usage) =
      subst (λ (r : Run ⊤). Shows (done (whole_acts r) shown) shown.files shown.out
      (shown.err ++ usage)) (sym is) (record { files = refl; out = refl; err = refl }) in
      came-to course old new status c shown tells 2 (record shown { err = shown.err ++ usage }) left
      (omega arith) (ap (λ (r : Run ⊤). outcome_status r.outcome) is)
      (λ cut. none-part shown new (subst (λ (r : Run ⊤). Cut r.acts shown new) is cut));
}
  where
    none-part : (shown : Shown) (new : World) → Cut [] shown new → IsPrintedPart [] shown new
    none-part shown new cut = record {
      bytes = 0;
      files = cut.files ∙ ap Some (sym cut.part.0);
      out = cut.out ∙ ap Some (sym cut.part.1 ∙ sym (append-nil shown.out));
    }
