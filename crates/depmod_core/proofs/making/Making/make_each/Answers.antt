use Rattle.std.proofs.Common.{subst, arith}
use Rattle.std.proofs.lemmas.List.{take_all}
use Rattle.std.proofs.lemmas.Result.{err_from_is_err_and}
use Rattle.depmod_core.specs.declared.file.OutputFile.TheVariants.{Dep}
use Rattle.depmod_core.specs.Making.{AreMade}
use Rattle.depmod_core.proofs.MakingSteps.{none-made, made-next, fault-found}
use Rattle.depmod_core.proofs.making.Making.make_each.Goals as goal

pub loop-file-init : goal.loop-file-init
loop-file-init c = none-made c.args.self.now c.args.made.now

pub loop-file-preserved : goal.loop-file-preserved
loop-file-preserved c =
    made-next c.args.self.now c.args.made.now c.loop-file.made c.set.new.self c.args.which.now
    c.loop-file.file-index Dep c.in_ok-bytes.bytes c.loop-file-test.true c.loop-file.invariant
    c.in_ok-bytes.ensures.ok c.set.ensures

pub returns-in_err-bytes-clause-err : goal.returns-in_err-bytes-clause-err
returns-in_err-bytes-clause-err c =
    let p = err_from_is_err_and c.from_residual.result c.from_residual.ensures.1 in
    rw (p.1, p.2)
    (fault-found c.args.self.now c.args.made.now c.loop-file.made c.args.which.now
    c.loop-file.file-index Dep _ c.loop-file-test.true c.loop-file.invariant
    c.in_err-bytes.ensures.err)

pub returns-clause-ok : goal.returns-clause-ok
returns-clause-ok c =
    subst (AreMade c.args.self.now c.args.made.now c.loop-file.made)
    (take_all c.loop-file.file-index c.args.which.now (omega (arith, c.loop-file-test.false)))
    c.loop-file.invariant
