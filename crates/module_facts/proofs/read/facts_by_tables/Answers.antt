use Rattle.std.proofs.Common.{ap, sym, ◌∙◌, inl, inr}
use Rattle.std.proofs.lemmas.Result.{err_from_is_err_and}
use Rattle.km_names.specs.First.{first}
use Rattle.module_facts.specs.declared.facts.Facts.{Facts}
use Rattle.module_facts.specs.Faults.{facts_tests}
use Rattle.module_facts.proofs.FaultLemmas.{object_facts-exports}
use Rattle.module_facts.proofs.read.facts_by_tables.Goals as goal

pub returns-in_err-check_facts-clause-fault : goal.returns-in_err-check_facts-clause-fault
returns-in_err-check_facts-clause-fault c =
    let p
    = err_from_is_err_and c.from_residual-in_err-check_facts.result
    c.from_residual-in_err-check_facts.ensures.1 in
    rw (p.1, p.2)
    (elim c.in_err-check_facts.ensures.fault [
      | inl memory ↦ inl memory
      | inr failed ↦ inr
          (ap (λ f. first (facts_tests c.args.object.now f)) (sym c.in_ok-facts.ensures) ∙ failed)
    ])

pub check_facts-requires : goal.check_facts-requires
check_facts-requires c =
    let exports
    = ap (λ (f : Facts). f.exports) c.in_ok-facts.ensures
    ∙ object_facts-exports c.args.path.now c.args.object.now in
    rw exports c.requires
