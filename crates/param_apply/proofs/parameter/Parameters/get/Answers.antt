use Rattle.std.proofs.Common.{◌∙◌, Some, ap, arith}
use Rattle.param_apply.proofs.TableLemmas.{parameter-at, parameter-count, parameter-made}
use Rattle.param_apply.proofs.parameter.Parameters.get.Goals as goal

pub entry_at-entry-requires-clause-entry : goal.entry_at-entry-requires-clause-entry
entry_at-entry-requires-clause-entry c =
    omega (arith, c.requires, parameter-count c.args.self.now)

pub returns : goal.returns
returns c =
    parameter-at c.args.self.now c.args.number c.requires
    ∙ ap Some
    (parameter-made c.args.self.now.types.texts _ c.entry.inside.name.now c.entry.inside.at
    c.in_ok-kind.kind (c.entry.view_is ∙ c.entry_at-entry.ensures) c.in_ok-kind.ensures)
