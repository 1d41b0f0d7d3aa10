use Rattle.std.proofs.lemmas.Result.{err_from_is_err_and}
use Rattle.provider_rel.specs.Faces.{kernel_of}
use Rattle.km_course.proofs.Steps.{next, exits, answered}
use Rattle.stages_files.specs.KernelTable.{table_of}
use Rattle.command_depmod.specs.Related.{seen_tree}
use Rattle.command_depmod.specs.Relation.{relation_outcome}
use Rattle.km_course.proofs.Following.{along}
use Rattle.command_depmod.proofs.IndexSteps.{with_search, with_paths, with_kernel, related}
use Rattle.command_depmod.proofs.course.read_related.Goals as goal

pub returns-in_err-search-clause-follows : goal.returns-in_err-search-clause-follows
returns-in_err-search-clause-follows g c = λ out err.
    let p = err_from_is_err_and c.from_residual.result c.from_residual.ensures.1 in
    exits _ _ (with_search c.args.folder.now c.args.map c.args.symvers) p.1 p.2
    (c.in_err-search.ensures out err)

pub returns-in_err-paths-clause-follows : goal.returns-in_err-paths-clause-follows
returns-in_err-paths-clause-follows g c = λ out err.
    let p
    = err_from_is_err_and c.from_residual-in_err-paths.result
    c.from_residual-in_err-paths.ensures.1 in
    next (with_search c.args.folder.now c.args.map c.args.symvers) (c.in_ok-search.ensures out err)
    (exits _ _ (with_paths c.args.folder.now c.args.map c.args.symvers) p.1 p.2
    (c.in_err-paths.ensures.follows out err))

pub returns-in_err-kernel-clause-follows : goal.returns-in_err-kernel-clause-follows
returns-in_err-kernel-clause-follows g c = λ out err.
    let p
    = err_from_is_err_and c.from_residual-in_err-kernel.result
    c.from_residual-in_err-kernel.ensures.1 in
    next (with_search c.args.folder.now c.args.map c.args.symvers) (c.in_ok-search.ensures out err)
    (next (with_paths c.args.folder.now c.args.map c.args.symvers)
    (c.in_ok-paths.ensures.follows out err)
    (exits _ _ (with_kernel c.args.folder.now c.in_ok-paths.paths) p.1 p.2
    (c.in_err-kernel.ensures out err)))

pub returns-in_err-facts-clause-follows : goal.returns-in_err-facts-clause-follows
returns-in_err-facts-clause-follows g c = λ out err.
    let p
    = err_from_is_err_and c.from_residual-in_err-facts.result
    c.from_residual-in_err-facts.ensures.1 in
    next (with_search c.args.folder.now c.args.map c.args.symvers) (c.in_ok-search.ensures out err)
    (next (with_paths c.args.folder.now c.args.map c.args.symvers)
    (c.in_ok-paths.ensures.follows out err)
    (next (with_kernel c.args.folder.now c.in_ok-paths.paths) (c.in_ok-kernel.ensures out err)
    (along (λ paths. with_kernel c.args.folder.now paths (table_of c.in_ok-kernel.kernel)) _ _
    c.as_slice.ensures
    (exits _ _ (related (table_of c.in_ok-kernel.kernel)) p.1 p.2
    (c.in_err-facts.ensures.follows out err)))))

pub returns-clause-follows : goal.returns-clause-follows
returns-clause-follows g c = λ out err.
    let kernel = c.in_ok-kernel.kernel in
    let facts = c.in_ok-facts.facts in
    next (with_search c.args.folder.now c.args.map c.args.symvers) (c.in_ok-search.ensures out err)
    (next (with_paths c.args.folder.now c.args.map c.args.symvers)
    (c.in_ok-paths.ensures.follows out err)
    (next (with_kernel c.args.folder.now c.in_ok-paths.paths) (c.in_ok-kernel.ensures out err)
    (along (λ paths. with_kernel c.args.folder.now paths (table_of kernel)) _ _ c.as_slice.ensures
    (next (related (table_of kernel)) (c.in_ok-facts.ensures.follows out err)
    (answered seen_tree (relation_outcome (record { facts = facts; kernel = kernel_of kernel })) _
    c.relate.result c.relate.ensures.answers)))))
