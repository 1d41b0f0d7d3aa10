use Rattle.std.proofs.Common.{◌≡◌, ◌∙◌, ◌<◌, inl, inr, ⊎_elim, length, get_or, sym, ap, Some}
use Rattle.std.proofs.lemmas.Result.{err_from_is_err_and}
use Rattle.export_table.proofs.KernelLemmas.{kernel-more, addressed-more, without-address}
use Rattle.export_table.proofs.kernel.kernel_table.Goals as goal

pub returns-in_err-enter_export-clause-fault : goal.returns-in_err-enter_export-clause-fault
returns-in_err-enter_export-clause-fault c =
    let es = c.args.kernel.now.exports in
    let same = c.as_slice-export-items.ensures in
    let inside : c.loop-export.export-index < length es = rw (← same) c.loop-export-test.true in
    let e = c.export-item.result in
    let is : e ≡ get_or es c.loop-export.export-index e = rw same at c.export-item.is in
    let p = err_from_is_err_and c.from_residual.result c.from_residual.ensures.1 in
    rw (p.1, p.2)
    (⊎_elim (λ memory. inl memory)
    (λ lacks. inr
    (without-address es c.loop-export.export-index e inside is lacks.0
    c.loop-export.invariant.addressed
    ∙ ap Some (sym lacks.1))) c.in_err-enter_export.ensures.fault)

pub loop-export-preserved : goal.loop-export-preserved
loop-export-preserved c =
    let es = c.args.kernel.now.exports in
    let i = c.loop-export.export-index in
    let same = c.as_slice-export-items.ensures in
    let inside : i < length es = rw (← same) c.loop-export-test.true in
    let e = c.export-item.result in
    let is : e ≡ get_or es i e = rw same at c.export-item.is in
    record {
      kept
          = kernel-more c.loop-export.table c.enter_export.new.table es i e inside is
          c.loop-export.invariant.kept c.in_ok-enter_export.ensures.table;
      addressed
          = addressed-more es i e inside is c.in_ok-enter_export.ensures.passed
          c.loop-export.invariant.addressed;
    }
