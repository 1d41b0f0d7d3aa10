use Rattle.std.proofs.Common.{sym}
use Rattle.std.specs.Prelude.{⊤}
use Rattle.km_course.proofs.Steps.{chosen, passed_over, gave}
use Rattle.command_depmod.proofs.warnings.warn_unmet.Goals as goal

pub returns-then-errsyms : goal.returns-then-errsyms
returns-then-errsyms g c = λ files out.
    chosen (λ (x : ⊤). x) _ _ _ _ _ _ (sym c.if-errsyms.true) (c.warn_each.ensures files out)

pub returns : goal.returns
returns g c = λ files out.
    passed_over (λ (x : ⊤). x) _ _ _ _ _ _ (sym c.if-errsyms.false) (gave (λ (x : ⊤). x) _ tt)
