use Rattle.std.proofs.Common.{◌∙◌, length, arith}
use Rattle.std.proofs.lemmas.List.{take_rest, drop_all}
use Rattle.km_names.proofs.LineSteps.{lines-found, lines-none}
use Rattle.km_names.proofs.lines.first_line.Goals as goal

pub returns-in-Some-clause-lines : goal.returns-in-Some-clause-lines
returns-in-Some-clause-lines c = lines-found _ _ c.in-Some.ensures

pub returns-in-None-clause-lines : goal.returns-in-None-clause-lines
returns-in-None-clause-lines c =
    let text = c.args.text.now in
    lines-none text _ c.requires c.in-None.ensures
    (take_rest text (length text) ∙ drop_all (length text) text (omega arith))
