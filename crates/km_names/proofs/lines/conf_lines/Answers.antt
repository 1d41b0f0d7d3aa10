use Rattle.std.proofs.Common.{◌+◌, ◌++◌, ◌∷◌, sym, ap, ◌∙◌, arith, eqb-true}
use Rattle.km_names.specs.Lines.{lines_of, joined_lines, statements, conf_lines}
use Rattle.km_names.proofs.LineSteps.{statements-more, statements-end}
use Rattle.km_names.proofs.lines.conf_lines.Goals as goal

pub loop-rest-init : goal.loop-rest-init
unfolding conf_lines
loop-rest-init c = (
  ap (λ ls. ls ++ statements (joined_lines 1 (lines_of c.args.bytes.now))) c.new-lines.ensures,
  omega arith,
  omega arith,
)

pub first_joined-requires-clause-few : goal.first_joined-requires-clause-few
first_joined-requires-clause-few c = omega arith

pub loop-rest-preserved : goal.loop-rest-preserved
loop-rest-preserved c =
    let i = c.loop-rest.invariant in
    let j = c.in_ok-joined.joined in (
      ap (λ ls. ls
          ++ statements (joined_lines (c.loop-rest.number + j.count) (lines_of j.rest.now)))
          c.in_ok-push_statement.ensures.ok
          ∙ statements-more c.loop-rest.lines
          (record { number = c.loop-rest.number; text = c.as_bytes.result.now }) _ _
          (c.in_ok-joined.ensures.lines c.loop-rest.number
          ∙ ap (λ t. record { number = c.loop-rest.number; text = t }
          ∷ joined_lines (c.loop-rest.number + j.count) (lines_of j.rest.now))
          (sym c.as_bytes.ensures))
          ∙ i.0,
      omega (arith, c.in_ok-joined.ensures.count),
      omega arith,
    )

pub returns : goal.returns
returns c =
    let l = c.loop-rest in
    statements-end l.lines l.number l.rest.now (eqb-true _ _ (sym c.loop-rest-test.ensures))
    ∙ l.invariant.0
