use Rattle.std.proofs.Common.{sym, ◌∙◌}
use Rattle.depmod_core.proofs.MakingSteps.{index-made, index-fault, text-made, text-fault}
use Rattle.depmod_core.proofs.making.Making.make.Goals as goal

pub returns-in-Some-clause-ok : goal.returns-in-Some-clause-ok
returns-in-Some-clause-ok c =
    index-made c.args.self.now c.args.file c.in-Some.map c.index.result
    (sym c.in-Some.is ∙ c.in_ok-map.ensures) c.index.ensures.ok c.index.ensures.holds
    c.index.ensures.passed

pub returns-in-Some-clause-err : goal.returns-in-Some-clause-err
returns-in-Some-clause-err c =
    index-fault c.args.self.now c.args.file c.in-Some.map c.index.result
    (sym c.in-Some.is ∙ c.in_ok-map.ensures) c.index.ensures.err

pub returns-in-None-clause-ok : goal.returns-in-None-clause-ok
returns-in-None-clause-ok c =
    text-made c.args.self.now c.args.file c.text.result (sym c.in-None.is ∙ c.in_ok-map.ensures)
    c.text.ensures.ok c.text.ensures.passed

pub returns-in-None-clause-err : goal.returns-in-None-clause-err
returns-in-None-clause-err c =
    text-fault c.args.self.now c.args.file c.text.result (sym c.in-None.is ∙ c.in_ok-map.ensures)
    c.text.ensures.err
