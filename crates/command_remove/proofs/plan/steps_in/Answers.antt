use Rattle.std.proofs.Common.{List, sym, subst}
use Rattle.std.specs.Prelude.{Err}
use Rattle.remove_plan.specs.declared.step.RemoveStep.{RemoveStep}
use Rattle.remove_plan.specs.Steps.{removal_fault}
use Rattle.km_course.specs.Follows.{Answers}
use Rattle.command_remove.specs.Remove.{steps_outcome}
use Rattle.command_remove.proofs.RemoveSteps.{fault-of, steps-given, steps-refused}
use Rattle.command_remove.proofs.plan.steps_in.Goals as goal

pub returns-in-Ok : goal.returns-in-Ok
returns-in-Ok c =
    steps-given c.args.machine.now c.args.rules.now c.args.ignore_remove c.args.names.now
    c.in-Ok.steps c.in-Ok.ensures.passed c.in-Ok.ensures.plan

pub returns-in-InUse : goal.returns-in-InUse
returns-in-InUse c =
    let machine = c.args.machine.now in
    let names = c.args.names.now in
    subst (λ stop. Answers (λ (x : List RemoveStep). x)
    (steps_outcome machine c.args.rules.now c.args.ignore_remove names) (Err stop))
    (sym c.from.ensures)
    (steps-refused machine c.args.rules.now c.args.ignore_remove names c.in-InUse.name
    c.in-InUse.user
    (fault-of c.in-Err.fault (removal_fault machine names) c.in-InUse.name c.in-InUse.user
    c.in-InUse.is c.in-Err.ensures.fault))
