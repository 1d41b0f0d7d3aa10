use Rattle.std.proofs.Common.{◌∙◌, ap, arith, take_all}
use Rattle.image_layout.specs.Offsets.{end_of, of_class}
use Rattle.image_layout.proofs.ends.end_of_class.Goals as goal

pub returns-clause-end : goal.returns-clause-end
returns-clause-end c =
    let xs = c.args.object.now.sections in
    c.end_of_first.ensures.end
    ∙ ap (λ ys. end_of c.args.start (of_class c.args.class ys)) (take_all _ xs (omega arith))
