use Rattle.std.proofs.Common.{◌+◌, ◌∙◌, ap, arith, sym, refl, eqb-true}
use Rattle.km_names.specs.Lines.{lines_of, joined_lines, onto_line}
use Rattle.km_names.proofs.LineSteps.{onto-start, onto-end, onto-last}
use Rattle.km_names.proofs.lines.first_joined.Goals as goal
use Rattle.km_names.proofs.lines.first_joined.Goals.{else-loop-rest-test}
use Rattle.km_names.proofs.lines.first_joined.Goals.{then-loop-rest-test+then-not-goes_on+in_ok-extend}

pub loop-rest-init : goal.loop-rest-init
loop-rest-init c = (
  λ number. onto-start c.args.text.now number c.requires.some
      ∙ ap (λ front. onto_line number front
      (joined_lines (number + 0) (lines_of c.args.text.now)))
      (sym c.new-joined.ensures),
  omega arith,
)

pub returns-clause-lines : goal.returns-clause-lines
returns-clause-lines c = λ number.
    elim c.loop-rest-test.branch [
      | else-loop-rest-test w ↦
          c.loop-rest.invariant.0 number
          ∙ onto-end number c.loop-rest.count c.loop-rest.joined c.loop-rest.rest.now
          (eqb-true _ _ (sym w.loop-rest-test.ensures))
          ∙ (rw (w.joined-is, w.count-is, w.rest-is) refl)
      | then-loop-rest-test+then-not-goes_on+in_ok-extend w ↦
          c.loop-rest.invariant.0 number
          ∙ ap (λ ls. onto_line number c.loop-rest.joined
          (joined_lines (number + c.loop-rest.count) ls)) w.first_line.ensures.lines
          ∙ onto-last number c.loop-rest.count c.loop-rest.joined w.first_line.result.0.now
          (lines_of w.first_line.result.1.now)
          (sym w.goes_on.ensures.goes_on ∙ w.if-not-goes_on.true)
          ∙ (rw (w.joined-is, w.count-is, w.rest-is, w.in_ok-extend.ensures.ok) refl)
    ]
