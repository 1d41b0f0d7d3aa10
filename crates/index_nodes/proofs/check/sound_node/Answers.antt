use Rattle.std.proofs.Common.{sym, ap, ◌∙◌, inl, inr, arith}
use Rattle.std.proofs.lemmas.Bool.{or_left, or_right}
use Rattle.index_format.specs.Check.{values_fit}
use Rattle.index_nodes.specs.Pending.{arrival_of}
use Rattle.index_nodes.proofs.ChildLemmas.{unsound_place, unsound_field, unsound_parts}
use Rattle.index_nodes.proofs.ChildLemmas.{unsound_values, sound_from}
use Rattle.index_nodes.proofs.check.sound_node.Goals as goal
use Rattle.index_nodes.proofs.check.sound_node.Goals.{then-at-lt-FIRST_PLACE-via-then-at-lt-FIRST_PLACE}
use Rattle.index_nodes.proofs.check.sound_node.Goals.{then-at-lt-FIRST_PLACE-via-else-at-lt-FIRST_PLACE+then-at-bytes}
use Rattle.index_nodes.proofs.check.sound_node.Goals.{else-not-visit-via-then-not-visit+else-not-has_field}
use Rattle.index_nodes.proofs.check.sound_node.Goals.{else-not-visit-via-else-not-visit}

pub returns-then-at-lt-FIRST_PLACE-clause-sound :
    goal.returns-then-at-lt-FIRST_PLACE-clause-sound
returns-then-at-lt-FIRST_PLACE-clause-sound c =
    let place = c.place-at.ensures.place in
    unsound_place c.args.bytes.now (arrival_of c.args.visit.now)
    (elim c.then-at-lt-FIRST_PLACE.branch [
      | then-at-lt-FIRST_PLACE-via-then-at-lt-FIRST_PLACE w ↦ inl
          (omega (arith, w.if-at-lt-FIRST_PLACE.true, place))
      | then-at-lt-FIRST_PLACE-via-else-at-lt-FIRST_PLACE+then-at-bytes w ↦ inr
          (omega (arith, w.if-at-bytes.true, place))
    ])

pub returns-then-not-has_field-clause-sound : goal.returns-then-not-has_field-clause-sound
returns-then-not-has_field-clause-sound c =
    unsound_field c.args.bytes.now (arrival_of c.args.visit.now) c.if-not-visit.true
    (sym c.has_field.ensures ∙ c.if-not-has_field.true)

pub returns-in_default-clause-sound : goal.returns-in_default-clause-sound
returns-in_default-clause-sound c =
    unsound_parts c.args.bytes.now (arrival_of c.args.visit.now) c.in_default.ensures

pub returns-then-branch-clause-sound : goal.returns-then-branch-clause-sound
returns-then-branch-clause-sound c =
    let b = c.args.bytes.now in
    let a = arrival_of c.args.visit.now in
    let place = c.place-at.ensures.place in
    let link = c.in-Some.ensures.1 in (
      sound_from b a (omega (arith, c.if-at-lt-FIRST_PLACE.false, place))
          (omega (arith, c.if-at-bytes.false, place)) c.in-Some.ensures.0
          (ap (values_fit b) (sym link) ∙ sym c.in_ok-has_whole_values.ensures.whole
          ∙ c.if-branch.true)
          (elim c.else-not-visit.branch [
            | else-not-visit-via-then-not-visit+else-not-has_field w ↦ or_right a.is_root _
                (sym w.has_field.ensures ∙ w.if-not-has_field.false)
            | else-not-visit-via-else-not-visit w ↦ or_left a.is_root _ w.if-not-visit.false
          ]),
      link,
      c.in-Some.ensures.2,
    )

pub returns-else-branch-clause-sound : goal.returns-else-branch-clause-sound
returns-else-branch-clause-sound c =
    unsound_values c.args.bytes.now (arrival_of c.args.visit.now)
    (ap (values_fit c.args.bytes.now) (sym c.in-Some.ensures.1)
    ∙ sym c.in_ok-has_whole_values.ensures.whole ∙ c.if-branch.false)
