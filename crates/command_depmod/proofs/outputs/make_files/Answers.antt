use Rattle.std.specs.Prelude.{Ok, Err, Option}
use Rattle.std.proofs.lemmas.Result.{err_from_is_err_and}
use Rattle.depmod_core.specs.declared.files.OutputFiles.{OutputFiles}
use Rattle.depmod_core.specs.Files.{files}
use Rattle.km_course.specs.Course.{◌>>=◌, reads_any}
use Rattle.km_course.proofs.Following.{along}
use Rattle.km_course.proofs.Steps.{next, exits, wants, answered, gave}
use Rattle.command_depmod.specs.declared.files.DepmodFiles.{DepmodFiles}
use Rattle.command_depmod.specs.declared.files.ExtraFiles.{ExtraFiles}
use Rattle.command_depmod.specs.Extra.{extra_outcome}
use Rattle.command_depmod.specs.Outputs.{outputs_outcome}
use Rattle.command_depmod.specs.Related.{seen_tree}
use Rattle.command_depmod.specs.Relation.{KernelTree}
use Rattle.command_depmod.proofs.OutputSteps.{builtin_read, info_read, usual_made, all_made}
use Rattle.command_depmod.proofs.outputs.make_files.Goals as goal

pub returns-in_err-file : goal.returns-in_err-file
returns-in_err-file g c = λ out err.
    let p = err_from_is_err_and c.from_residual.result c.from_residual.ensures.1 in
    wants _ _ _ _ p.1 p.2

pub returns-in_err-builtin : goal.returns-in_err-builtin
returns-in_err-builtin g c = λ out err.
    let p
    = err_from_is_err_and c.from_residual-in_err-builtin.result
    c.from_residual-in_err-builtin.ensures.1 in
    let later = builtin_read c.args.extra c.args.folder.now (seen_tree c.args.tree.now) in
    along (λ file. reads_any file >>= later) _ _ c.in_ok-file.ensures
    (exits _ _ later p.1 p.2 (c.in_err-builtin.ensures.follows out err))

pub returns-in_err-info : goal.returns-in_err-info
returns-in_err-info g c = λ out err.
    let p
    = err_from_is_err_and c.from_residual-in_err-info.result
    c.from_residual-in_err-info.ensures.1 in
    let tree : KernelTree = seen_tree c.args.tree.now in
    let later = builtin_read c.args.extra c.args.folder.now tree in
    along (λ file. reads_any file >>= later) _ _ c.in_ok-file.ensures
    (next later (c.in_ok-builtin.ensures.follows out err)
    (exits _ _ (info_read tree c.in_ok-builtin.builtin) p.1 p.2
    (c.in_err-info.ensures.follows out err)))

pub returns-in_err-usual : goal.returns-in_err-usual
returns-in_err-usual g c = λ out err.
    let p
    = err_from_is_err_and c.from_residual-in_err-usual.result
    c.from_residual-in_err-usual.ensures.1 in
    let tree : KernelTree = seen_tree c.args.tree.now in
    let later = builtin_read c.args.extra c.args.folder.now tree in
    along (λ file. reads_any file >>= later) _ _ c.in_ok-file.ensures
    (next later (c.in_ok-builtin.ensures.follows out err)
    (next (info_read tree c.in_ok-builtin.builtin) (c.in_ok-info.ensures.follows out err)
    (exits _ _ (usual_made tree c.in_ok-info.info) p.1 p.2
    (answered (λ (x : OutputFiles). x)
    (outputs_outcome (files tree.facts tree.kernel c.in_ok-builtin.builtin)) _ (Err _)
    c.in_err-usual.ensures))))

pub returns-in_err-extra : goal.returns-in_err-extra
returns-in_err-extra g c = λ out err.
    let p
    = err_from_is_err_and c.from_residual-in_err-extra.result
    c.from_residual-in_err-extra.ensures.1 in
    let tree : KernelTree = seen_tree c.args.tree.now in
    let later = builtin_read c.args.extra c.args.folder.now tree in
    along (λ file. reads_any file >>= later) _ _ c.in_ok-file.ensures
    (next later (c.in_ok-builtin.ensures.follows out err)
    (next (info_read tree c.in_ok-builtin.builtin) (c.in_ok-info.ensures.follows out err)
    (next (usual_made tree c.in_ok-info.info)
    (answered (λ (x : OutputFiles). x)
    (outputs_outcome (files tree.facts tree.kernel c.in_ok-builtin.builtin)) _
    (Ok c.in_ok-usual.usual) c.in_ok-usual.ensures)
    (exits _ _ (all_made c.in_ok-usual.usual) p.1 p.2
    (answered (λ (x : Option ExtraFiles). x) (extra_outcome tree.facts c.in_ok-info.info) _ (Err _)
    c.in_err-extra.ensures)))))

pub returns : goal.returns
returns g c = λ out err.
    let tree : KernelTree = seen_tree c.args.tree.now in
    let later = builtin_read c.args.extra c.args.folder.now tree in
    let usual : OutputFiles = c.in_ok-usual.usual in
    let added : Option ExtraFiles = c.in_ok-extra.extra in
    along (λ file. reads_any file >>= later) _ _ c.in_ok-file.ensures
    (next later (c.in_ok-builtin.ensures.follows out err)
    (next (info_read tree c.in_ok-builtin.builtin) (c.in_ok-info.ensures.follows out err)
    (next (usual_made tree c.in_ok-info.info)
    (answered (λ (x : OutputFiles). x)
    (outputs_outcome (files tree.facts tree.kernel c.in_ok-builtin.builtin)) _ (Ok usual)
    c.in_ok-usual.ensures)
    (next (all_made usual)
    (answered (λ (x : Option ExtraFiles). x) (extra_outcome tree.facts c.in_ok-info.info) _
    (Ok added) c.in_ok-extra.ensures)
    (gave (λ (x : DepmodFiles). x) _ (record { usual = usual; extra = added }))))))
