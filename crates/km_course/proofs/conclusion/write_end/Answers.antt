use Rattle.std.proofs.Common.{◌++◌, ◌∙◌, ap, subst, sym}
use Rattle.std.specs.Prelude.{codes}
use Rattle.outside_calls.specs.OutSeen.{WriteAnswers}
use Rattle.km_course.specs.Lines.{end_line}
use Rattle.km_course.proofs.Writes.{too_large-pieces}
use Rattle.km_course.proofs.conclusion.write_end.Goals as goal

pub returns-in-TooLarge : goal.returns-in-TooLarge
returns-in-TooLarge g c =
    let answer = c.write_around-in-TooLarge.result in
    let old = g.E.Out.seen c.args.err.now in
    let new = g.E.Out.seen c.write_around-in-TooLarge.new.err in
    subst (λ e. WriteAnswers (end_line e) old new answer) (sym c.in-TooLarge.is)
    (subst (λ text. WriteAnswers text old new answer)
    (ap (λ p. (codes "kmod: " ++ p) ++ codes ": too large\n") c.as_bytes-in-TooLarge.ensures
    ∙ too_large-pieces c.in-TooLarge.path)
    c.write_around-in-TooLarge.ensures)
