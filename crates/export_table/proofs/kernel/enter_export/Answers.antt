use Rattle.std.proofs.Common.{◌∙◌, inr, ap, None, Some, cond}
use Rattle.std.specs.Prelude.{is_none}
use Rattle.std.specs.Option.{option_or}
use Rattle.std.specs.Str.{bytes_eq}
use Rattle.export_table.specs.Exports.{kernel_placed, standing}
use Rattle.export_table.proofs.KernelLemmas.{entered-export}
use Rattle.export_table.proofs.kernel.enter_export.Goals as goal

pub returns-in_default-clause-fault : goal.returns-in_default-clause-fault
returns-in_default-clause-fault c = inr (c.in_default.is, c.in_ok-without_address.ensures)

pub returns-clause-table : goal.returns-clause-table
returns-clause-table c = λ x.
    let e = c.args.export.now in
    entered-export c.reserve.new.self c.enter.new.self e c.in_ok-named.named c.in_ok-named.ensures
    c.enter.ensures.at x
    ∙ ap (λ o. option_or o (cond (bytes_eq e.name x) (Some (standing None (kernel_placed e))) None))
    (c.reserve.ensures.same x)

pub returns-clause-passed : goal.returns-clause-passed
returns-clause-passed c = ap is_none c.in-Some.is
