use Rattle.std.proofs.Common.{subst, sym, arith}
use Rattle.std.specs.Prelude.{Err}
use Rattle.model_loader.specs.Machine.{Machine}
use Rattle.km_course.specs.Follows.{Answers}
use Rattle.stages_loads.specs.Loads.{load_outcome}
use Rattle.stages_loads.proofs.LoadSteps.{refused_as}
use Rattle.stages_loads.proofs.load.load_stop.Goals as goal

pub returns-in-Ok : goal.returns-in-Ok
returns-in-Ok c =
    let cause = c.args.cause in
    let name = c.args.name.now in
    let fault = c.args.fault.now in record {
      memory = λ ran_out. let is = c.in-AlreadyLoaded.is in absurd (grind arith);
      refused =
          subst (λ stop. Answers (λ (x : Machine). x) (load_outcome cause name (Err fault))
          (Err stop)) (sym c.from.ensures)
          (refused_as cause name fault c.in-Ok.refusal c.in-Ok.ensures);
    }
