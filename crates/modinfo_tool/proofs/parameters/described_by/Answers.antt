use Rattle.std.proofs.Common.{◌∙◌}
use Rattle.std.proofs.lemmas.Result.{IfOk-weaker}
use Rattle.modinfo_tool.specs.Parameters.{first_told}
use Rattle.modinfo_tool.specs.Tables.{told_in}
use Rattle.modinfo_tool.proofs.ParameterSteps.{all-described}
use Rattle.modinfo_tool.proofs.parameters.described_by.Goals as goal

pub returns : goal.returns
returns c =
    IfOk-weaker c.described_all.result _ _ (λ values is.
    is
    ∙ all-described c.args.names.now (told_in c.in_ok-texts.texts) (told_in c.in_ok-kinds.kinds)
    (first_told c.args.parms.now) (first_told c.args.types.now)
    c.in_ok-texts.ensures c.in_ok-kinds.ensures)
    c.described_all.ensures
