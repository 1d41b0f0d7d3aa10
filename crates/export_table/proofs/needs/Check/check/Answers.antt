use Rattle.std.proofs.Common.{◌∙◌, inr, ap, Some, sym}
use Rattle.std.specs.Prelude.{option_map}
use Rattle.module_symbols.specs.declared.needs.Need.{Need as FactsNeed}
use Rattle.export_table.specs.NeedTests.{fault_of}
use Rattle.export_table.proofs.needs.Check.check.Goals as goal

pub returns-in-None-clause-passed : goal.returns-in-None-clause-passed
returns-in-None-clause-passed c =
    ap (option_map (λ (n : FactsNeed). fault_of c.args.self n.name)) (sym c.in-None.ensures)

pub returns-in_ok-name-in-Some-clause-fault : goal.returns-in_ok-name-in-Some-clause-fault
returns-in_ok-name-in-Some-clause-fault c =
    inr (ap (option_map (λ (n : FactsNeed). fault_of c.args.self n.name))
    (sym c.in-Some.ensures)
    ∙ ap Some (ap (fault_of c.args.self)
    (sym (c.in_ok-name-in-Some.ensures ∙ c.as_bytes.ensures))
    ∙ sym c.fault.ensures))
