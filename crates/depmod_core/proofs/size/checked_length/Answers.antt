use Rattle.std.proofs.Common.{◌∙◌}
use Rattle.stated_texts.proofs.TextSteps.{measured-length}
use Rattle.depmod_core.proofs.SizeSteps.{named-too-long, not-too-long}
use Rattle.depmod_core.proofs.size.checked_length.Goals as goal

pub returns-then-length-clause-err : goal.returns-then-length-clause-err
returns-then-length-clause-err c bytes is =
    named-too-long c.args.file bytes c.length-length.result c.too_large.result
    (c.length-length.ensures ∙ measured-length c.args.measured.now bytes is) c.if-length.true
    c.too_large.ensures

pub returns-clause-ok : goal.returns-clause-ok
returns-clause-ok c bytes is =
    not-too-long c.args.file bytes c.length-length.result
    (c.length-length.ensures ∙ measured-length c.args.measured.now bytes is) c.if-length.false
