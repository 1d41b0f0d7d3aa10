use Rattle.std.proofs.Common.{◌∙◌, ap}
use Rattle.std.specs.Prelude.{codes}
use Rattle.std.proofs.lemmas.Result.{IfOk-weaker}
use Rattle.model_loader.specs.declared.entry.LoadedModule.{LoadedModule}
use Rattle.stages_loads.specs.Loads.{entry_line}
use Rattle.command_remove.proofs.LineLemmas.{image-at, loaded-at}
use Rattle.command_remove.proofs.lines.left_line.Goals as goal

pub returns : goal.returns
returns c =
    let machine = c.args.machine.now in
    IfOk-weaker c.entry_line.result _ _ (λ line is e at.
    is
    ∙ ap (λ (l : LoadedModule). entry_line (codes "left") l c.image_at.result.now)
    (loaded-at machine c.args.i e c.module_at.result.now at c.module_at.ensures)
    ∙ ap (entry_line (codes "left") e.loaded)
    (image-at machine c.args.i e c.image_at.result.now at c.image_at.ensures))
    c.entry_line.ensures
