use Rattle.std.proofs.Common.{◌+◌, drop, List, sym, subst}
use Rattle.std.specs.Prelude.{Ok}
use Rattle.std.proofs.lemmas.List.{drop_all}
use Rattle.std.proofs.lemmas.Result.{err_from_is_err_and}
use Rattle.km_course.specs.World.{world}
use Rattle.km_course.specs.Follows.{Follows}
use Rattle.km_course.proofs.Steps.{next, exits, gave}
use Rattle.stages_files.specs.declared.configuration.ListedFolder.{ListedFolder}
use Rattle.stages_files.specs.Configuration.{folder_name}
use Rattle.km_course.proofs.Following.{next-item}
use Rattle.stages_files.proofs.ConfigurationSteps.{folders_rest, named-folder}
use Rattle.stages_files.proofs.configuration.list_folders.Goals as goal

pub returns-in_err-listed : goal.returns-in_err-listed
returns-in_err-listed g c = λ out err.
    let p = err_from_is_err_and c.from_residual.result c.from_residual.ensures.1 in
    let roots = c.args.roots.now in
    let i = c.loop-root.root-index in
    let name = folder_name c.args.tool in
    c.loop-root.invariant out err _ _
    (subst (λ rest. Follows (λ (x : List ListedFolder). x)
    (folders_rest name rest c.loop-root.listed)
    (world (g.F.Reads.seen c.loop-root.files) out err)
    (world (g.F.Reads.seen c.with_folder.new.files) out err) c.from_residual.result)
    (sym (next-item roots i c.root-item.result c.loop-root-test.true c.root-item.is))
    (named-folder name _ _ _ _ _ _ _ c.folder_name-name.ensures
    (exits _ _ (folders_rest name (drop (i + 1) roots)) p.1 p.2 (c.in_err-listed.ensures out err))))

pub loop-root-preserved : goal.loop-root-preserved
loop-root-preserved g c = λ out err new r after.
    let roots = c.args.roots.now in
    let i = c.loop-root.root-index in
    let name = folder_name c.args.tool in
    c.loop-root.invariant out err new r
    (subst (λ rest. Follows (λ (x : List ListedFolder). x)
    (folders_rest name rest c.loop-root.listed)
    (world (g.F.Reads.seen c.loop-root.files) out err) new r)
    (sym (next-item roots i c.root-item.result c.loop-root-test.true c.root-item.is))
    (named-folder name _ _ _ _ _ _ _ c.folder_name-name.ensures
    (next (folders_rest name (drop (i + 1) roots)) (c.in_ok-listed.ensures out err) after)))

pub returns : goal.returns
returns g c = λ out err.
    c.loop-root.invariant out err _ _
    (subst (λ rest. Follows (λ (x : List ListedFolder). x)
    (folders_rest (folder_name c.args.tool) rest c.loop-root.listed)
    (world (g.F.Reads.seen c.loop-root.files) out err)
    (world (g.F.Reads.seen c.loop-root.files) out err) (Ok c.loop-root.listed))
    (sym (drop_all c.loop-root.root-index c.args.roots.now c.loop-root-test.false))
    (gave (λ (x : List ListedFolder). x) _ c.loop-root.listed))
