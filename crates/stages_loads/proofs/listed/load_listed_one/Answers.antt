use Rattle.std.proofs.Common.{ap, ◌∙◌}
use Rattle.km_course.proofs.Following.{along}
use Rattle.stages_files.specs.KernelModules.{path_listed}
use Rattle.stages_loads.specs.Listed.{loads_listed_at}
use Rattle.stages_loads.proofs.listed.load_listed_one.Goals as goal

pub returns : goal.returns
returns g c = λ out err.
    along (loads_listed_at c.args.folder.now c.args.machine c.args.name.now) _ _
    (c.path_listed-found.ensures ∙ ap (path_listed c.args.index.now) c.as_bytes.ensures)
    (c.load_listed_at.ensures out err)
