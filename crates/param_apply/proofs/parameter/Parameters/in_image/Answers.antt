use Rattle.std.proofs.Common.{◌∙◌, List, ℕ, ap, map}
use Rattle.param_apply.specs.declared.table.ParamTable.{ParamTable}
use Rattle.param_apply.specs.Table.{entries}
use Rattle.param_apply.specs.Words.{parameter, parameters, type_texts}
use Rattle.param_apply.proofs.parameter.Parameters.in_image.Goals as goal

pub returns-clause-params : goal.returns-clause-params
unfolding parameters
returns-clause-params c =
    let image = c.args.image.now in
    ap (λ (texts : List (List ℕ)).
    map (parameter texts) (entries image c.args.base c.args.table)) c.in_ok-types.ensures
    ∙ ap (λ (t : ParamTable).
    map (parameter (type_texts c.args.object.now)) (entries image c.args.base t))
    c.requires.table
