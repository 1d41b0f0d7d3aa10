use Rattle.std.proofs.Common.{subst}
use Rattle.std.specs.Prelude.{Ok}
use Rattle.index_read.specs.declared.index.Index.{Index}
use Rattle.std.proofs.lemmas.Result.{err_from_is_err_and}
use Rattle.km_course.specs.Course.{◌>>=◌}
use Rattle.km_course.specs.World.{world}
use Rattle.km_course.specs.Follows.{Follows}
use Rattle.km_course.proofs.Steps.{next, exits, wants, gave}
use Rattle.stages_files.specs.declared.kernel_modules.KernelModules.{KernelModules}
use Rattle.stages_files.specs.IndexFile.{reads_index}
use Rattle.stages_files.proofs.FileSteps.{listed}
use Rattle.stages_files.proofs.kernel_modules.read_modules.Goals as goal

pub returns-in_err-file : goal.returns-in_err-file
returns-in_err-file g c = λ out err.
    let p = err_from_is_err_and c.from_residual.result c.from_residual.ensures.1 in
    wants _ _ _ _ p.1 p.2

pub returns-in_err-index : goal.returns-in_err-index
returns-in_err-index g c = λ out err.
    let p
    = err_from_is_err_and c.from_residual-in_err-index.result
    c.from_residual-in_err-index.ensures.1 in
    subst (λ file. Follows (λ (x : KernelModules). x) (reads_index file >>= listed c.args.folder)
    (world (g.F.Reads.seen c.args.files.now) out err)
    (world (g.F.Reads.seen c.read_index.new.files) out err) c.from_residual-in_err-index.result)
    c.in_ok-file.ensures
    (exits _ _ (listed c.args.folder) p.1 p.2 (c.in_err-index.ensures out err))

pub returns : goal.returns
returns g c = λ out err.
    next (listed c.args.folder)
    (subst (λ file. Follows (λ (x : Index). x) (reads_index file)
    (world (g.F.Reads.seen c.args.files.now) out err)
    (world (g.F.Reads.seen c.read_index.new.files) out err) (Ok c.in_ok-index.index))
    c.in_ok-file.ensures (c.in_ok-index.ensures out err))
    (gave (λ (x : KernelModules). x) _
    (record { folder = c.args.folder; index = c.in_ok-index.index }))
