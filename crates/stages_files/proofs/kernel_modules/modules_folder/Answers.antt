use Rattle.std.proofs.Common.{◌≡◌, subst}
use Rattle.std.specs.Prelude.{IfOk}
use Rattle.km_names.specs.Path.{path_below}
use Rattle.stages_files.proofs.kernel_modules.modules_folder.Goals as goal

pub returns : goal.returns
returns c =
    subst (λ folder. IfOk c.join-2.result (λ path. path ≡ path_below folder c.args.version.now))
    c.in_ok-folder.ensures
    (subst (λ version. IfOk c.join-2.result
    (λ path. path ≡ path_below c.in_ok-folder.folder version)) c.as_bytes.ensures
    c.join-2.ensures)
