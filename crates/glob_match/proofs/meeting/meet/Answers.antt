use Rattle.std.proofs.Common.{◌≡◌, [], refl, arith}
use Rattle.std.proofs.lemmas.Bool.{false≢true}
use Rattle.std.proofs.lemmas.Bool.Decides.{nat_tests}
use Rattle.std.proofs.lemmas.List.{nil_from_length}
use Rattle.glob_match.specs.Front.{IsFirst}
use Rattle.glob_pattern.specs.Pattern.{empty}
use Rattle.glob_match.proofs.Rules.{is_run, is_taken, none_at_end, not_met}
use Rattle.glob_match.proofs.meeting.meet.Goals as goal
use Rattle.glob_match.proofs.meeting.meet.Goals.{in_default-split_first-via-in-Some-split_first+else-is_met}
use Rattle.glob_match.proofs.meeting.meet.Goals.{in_default-split_first-via-in_default-split_first}

pub returns-then-is_empty : goal.returns-then-is_empty
returns-then-is_empty c =
    let no_pattern : c.args.pattern.now ≡ [] = nil_from_length _ c.in_default.ensures.cases in
    let no_text : c.args.text.now ≡ [] = nil_from_length _ (grind (arith, nat_tests)) in
    rw (no_pattern, no_text) empty

pub returns-in-Run : goal.returns-in-Run
returns-in-Run c =
    rw (c.in-Some.ensures.cases.0) (is_run _ _ _ c.in-Run.is c.in-Some-first_element.ensures)

pub returns-in-Some-split_first : goal.returns-in-Some-split_first
returns-in-Some-split_first c =
    rw (c.in-Some.ensures.cases.0)
    (is_taken _ _ _ _ c.in-Some-first_element.element _ c.in-Some-first_element.ensures
    (c.in_default-element.not-Run) c.in-Some-split_first.ensures.cases.0
    (c.if-is_met.ensures.0 refl))

pub returns-in_default-split_first : goal.returns-in_default-split_first
returns-in_default-split_first c =
    let first : IsFirst c.args.pattern.now c.in-Some-first_element.element
    c.in-Some-first_element.after.now
    = rw (c.in-Some.ensures.cases.0) c.in-Some-first_element.ensures in
    elim c.in_default-split_first.branch [
      | in_default-split_first-via-in-Some-split_first+else-is_met w ↦
          not_met _ _ _ _ c.in-Some-first_element.element _ first c.in_default-element.not-Run
          w.in-Some-split_first.ensures.cases.0 (λ h. false≢true (w.if-is_met.ensures.1 h))
      | in_default-split_first-via-in_default-split_first w ↦ none_at_end _ _ _
          c.in-Some-first_element.element first c.in_default-element.not-Run
          (nil_from_length _ w.in_default-split_first.ensures.cases)
    ]
