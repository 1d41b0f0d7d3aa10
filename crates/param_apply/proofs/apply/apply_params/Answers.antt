use Rattle.std.proofs.Common.{inl, inr, refl, arith}
use Rattle.std.proofs.lemmas.Result.{err_from_is_err_and}
use Rattle.param_apply.specs.Naming.{parameters_of}
use Rattle.param_apply.specs.Words.{settings}
use Rattle.param_apply.proofs.ApplyLemmas.{count-is, fault-table, fault-words, finished-is}
use Rattle.param_apply.proofs.apply.apply_params.Goals as goal

pub table_of-table-requires : goal.table_of-table-requires
table_of-table-requires c = omega (arith, c.requires)

pub in_image-requires-clause-within : goal.in_image-requires-clause-within
in_image-requires-clause-within c = omega (arith, c.requires, c.table_of-table.ensures.within)

pub in_image-requires-clause-short : goal.in_image-requires-clause-short
in_image-requires-clause-short c = c.table_of-table.ensures.short

pub returns-in_err-params-clause-fault : goal.returns-in_err-params-clause-fault
returns-in_err-params-clause-fault c =
    let p = err_from_is_err_and c.from_residual.result c.from_residual.ensures.1 in
    rw (p.1, p.2)
    (elim c.in_err-params.ensures.fault [
      | inl memory ↦ inl memory
      | inr failed ↦ inr
          (fault-table c.args.«module».now.object c.args.base c.args.image.now c.args.options.now
          c.table_of-table.result _ c.table_of-table.ensures.table failed)
    ])

pub with_options-requires-clause-fits : goal.with_options-requires-clause-fits
with_options-requires-clause-fits c = omega (arith, c.requires)

pub returns-clause-image : goal.returns-clause-image
returns-clause-image c =
    let ps = parameters_of c.in_ok-params.params in
    rw
    (finished-is c.args.«module».now.object c.args.base c.args.image.now c.args.options.now ps
    (settings ps c.args.options.now) c.in_ok-params.ensures.params refl)
    c.with_options.ensures.image

pub returns-clause-count : goal.returns-clause-count
returns-clause-count c =
    let ps = parameters_of c.in_ok-params.params in
    rw
    (count-is c.args.«module».now.object c.args.base c.args.image.now c.args.options.now ps
    (settings ps c.args.options.now) c.in_ok-params.ensures.params refl)
    c.with_options.ensures.count

pub returns-clause-passed : goal.returns-clause-passed
returns-clause-passed c =
    let ps = parameters_of c.in_ok-params.params in
    rw
    (fault-words c.args.«module».now.object c.args.base c.args.image.now c.args.options.now
    c.table_of-table.result ps (settings ps c.args.options.now) c.table_of-table.ensures.table
    c.in_ok-params.ensures.params refl c.in_ok-params.ensures.passed)
    c.with_options.ensures.passed

pub returns-clause-fault : goal.returns-clause-fault
returns-clause-fault c =
    let ps = parameters_of c.in_ok-params.params in
    rw
    (fault-words c.args.«module».now.object c.args.base c.args.image.now c.args.options.now
    c.table_of-table.result ps (settings ps c.args.options.now) c.table_of-table.ensures.table
    c.in_ok-params.ensures.params refl c.in_ok-params.ensures.passed)
    c.with_options.ensures.fault
