use Rattle.std.proofs.Common.{◌∙◌, ap, sym}
use Rattle.image_layout.specs.Offsets.{end_of, class_start}
use Rattle.image_layout.proofs.layout.start_of.Goals as goal

pub returns-in-Code-clause-start : goal.returns-in-Code-clause-start
unfolding end_of
returns-in-Code-clause-start c =
    c.class_starts-starts.ensures.starts.code
    ∙ ap (class_start c.args.object.now.sections) (sym c.in-Code.is)

pub returns-in-Fixed-clause-start : goal.returns-in-Fixed-clause-start
unfolding end_of
returns-in-Fixed-clause-start c =
    c.class_starts-starts.ensures.starts.fixed
    ∙ ap (class_start c.args.object.now.sections) (sym c.in-Fixed.is)

pub returns-in-Variable-clause-start : goal.returns-in-Variable-clause-start
unfolding end_of
returns-in-Variable-clause-start c =
    c.class_starts-starts.ensures.starts.variable
    ∙ ap (class_start c.args.object.now.sections) (sym c.in-Variable.is)
