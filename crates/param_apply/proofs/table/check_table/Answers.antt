use Rattle.std.proofs.Common.{◌≡◌, ℕ, true, false, Some, None, arith, below_more}
use Rattle.std.proofs.lemmas.Bool.{le-leb, lt-leb}
use Rattle.param_apply.specs.declared.fault.ParamFault.TheVariants.{BadParamTable}
use Rattle.param_apply.specs.Table.{entry_count, entry_fault}
use Rattle.param_apply.proofs.TableLemmas.{end-part, end-whole, entry-tested, table-end}
use Rattle.param_apply.proofs.TableLemmas.{table-failed}
use Rattle.param_apply.proofs.table.check_table.Goals as goal

pub returns-then-strings-name_place-clause-fault :
    goal.returns-then-strings-name_place-clause-fault
returns-then-strings-name_place-clause-fault c =
    table-failed c.args.image.now c.args.base c.args.table c.loop-k.k _ (omega arith)
    c.loop-k.invariant
    (entry-tested c.args.image.now c.args.base c.args.table c.loop-k.k
    c.strings_size-strings.result true c.strings_size-strings.ensures
    (le-leb c.strings_size-strings.result _
    (omega (arith, c.if-strings-name_place.true, c.name_place.ensures))))

pub loop-k-preserved : goal.loop-k-preserved
loop-k-preserved c =
    below_more (λ (j : ℕ). entry_fault c.args.image.now c.args.base c.args.table j ≡ None)
    c.loop-k.k c.loop-k.invariant
    (entry-tested c.args.image.now c.args.base c.args.table c.loop-k.k
    c.strings_size-strings.result false c.strings_size-strings.ensures
    (lt-leb c.strings_size-strings.result _
    (omega (arith, c.if-strings-name_place.false, c.name_place.ensures))))

pub returns-then-size-ne0-clause-fault : goal.returns-then-size-ne0-clause-fault
returns-then-size-ne0-clause-fault c =
    table-end c.args.image.now c.args.base c.args.table
    (λ j less. c.loop-k.invariant j (omega arith))
    (Some (BadParamTable (entry_count c.args.table))) (end-part c.args.table c.if-size-ne0.true)

pub returns-clause-passed : goal.returns-clause-passed
returns-clause-passed c =
    table-end c.args.image.now c.args.base c.args.table
    (λ j less. c.loop-k.invariant j (omega arith)) None
    (end-whole c.args.table c.if-size-ne0.false)
