use Rattle.std.proofs.Common.{◌∙◌}
use Rattle.command_depmod.specs.Warnings.{warns_unmet}
use Rattle.km_course.proofs.Following.{along}
use Rattle.command_depmod.proofs.course.warn_of_tree.Goals as goal

pub returns : goal.returns
returns g c = λ files out.
    along (warns_unmet c.args.wanted.errsyms c.args.wanted.versions) _ _
    (c.as_slice-obstacles.ensures ∙ c.obstacles.ensures ∙ c.requires.relation.obstacles)
    (c.warn_unmet.ensures files out)
