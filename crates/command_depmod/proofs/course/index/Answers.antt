use Rattle.std.proofs.Common.{ap}
use Rattle.std.proofs.lemmas.Result.{err_from_is_err_and}
use Rattle.km_course.specs.Course.{◌>>=◌}
use Rattle.km_course.proofs.Steps.{next, exits, wants}
use Rattle.command_depmod.specs.declared.course.Wanted.{Wanted}
use Rattle.command_depmod.specs.Depmod.{modules_of_request, target_of_request, wanted_of}
use Rattle.command_depmod.specs.Depmod.{reads_related, indexes_tree}
use Rattle.command_depmod.specs.Related.{seen_tree}
use Rattle.km_course.proofs.Following.{along}
use Rattle.command_depmod.proofs.IndexSteps.{indexed}
use Rattle.command_depmod.proofs.course.index.Goals as goal

pub returns-in_err-folders : goal.returns-in_err-folders
returns-in_err-folders g c =
    let p = err_from_is_err_and c.from_residual.result c.from_residual.ensures.1 in
    wants _ _ _ _ p.1 p.2

pub returns-in_err-tree : goal.returns-in_err-tree
returns-in_err-tree g c =
    let p
    = err_from_is_err_and c.from_residual-in_err-tree.result
    c.from_residual-in_err-tree.ensures.1 in
    let asked = c.args.asked in
    let later = indexed (wanted_of asked) (modules_of_request asked) (target_of_request asked) in
    along (λ folder. reads_related folder asked.config asked.filesyms asked.symvers >>= later) _ _
    c.in_ok-folders.ensures.source
    (exits _ _ later p.1 p.2
    (c.in_err-tree.ensures.follows (g.O.Out.seen c.args.out.now)
    (g.E.Out.seen c.args.err.now)))

pub returns : goal.returns
returns g c =
    let asked = c.args.asked in
    let folders = c.in_ok-folders.folders in
    let tree = seen_tree c.in_ok-tree.tree in
    next (indexed (wanted_of asked) (modules_of_request asked) (target_of_request asked))
    (along (λ folder. reads_related folder asked.config asked.filesyms asked.symvers) _ _
    c.in_ok-folders.ensures.source
    (c.in_ok-tree.ensures.follows (g.O.Out.seen c.args.out.now) (g.E.Out.seen c.args.err.now)))
    (along (λ folder. indexes_tree (wanted_of asked) folder (target_of_request asked) tree) _ _
    c.in_ok-folders.ensures.source
    (along (λ target. indexes_tree (wanted_of asked) folders.source target tree) _ _
    c.in_ok-folders.ensures.target
    (along (λ (wanted : Wanted). indexes_tree wanted folders.source folders.target tree) _ _
    (ap (λ versions. record {
      dry_run = asked.dry_run;
      errsyms = asked.errsyms;
      extra = asked.extra;
      versions = versions;
    }) c.is_some.ensures)
    c.index_tree.ensures)))
