use Rattle.std.proofs.Common.{refl, sym, subst, arith}
use Rattle.std.specs.Prelude.{Err}
use Rattle.module_facts.specs.declared.module.Module.{Module}
use Rattle.km_course.specs.Follows.{Answers}
use Rattle.stages_loads.specs.Modules.{file_outcome}
use Rattle.stages_loads.proofs.ModuleSteps.{checked_ok, checked_not}
use Rattle.stages_loads.proofs.module.check_module.Goals as goal

pub returns-in-Ok : goal.returns-in-Ok
returns-in-Ok c =
    checked_ok c.args.file c.args.path.now c.args.bytes c.in-Ok.module _ refl c.in-Ok.ensures.object
    c.in-Ok.ensures.facts c.in-Ok.ensures.passed

pub returns-in_ok-text-in-Compressed : goal.returns-in_ok-text-in-Compressed
returns-in_ok-text-in-Compressed c =
    let path = c.args.path.now in
    subst (λ stop. Answers (λ (x : Module). x) (file_outcome c.args.file path c.args.bytes)
    (Err stop)) (sym c.from.ensures)
    (checked_not c.args.file path c.args.bytes c.in_ok-text-in-Compressed.text _ refl c.in-Err.fault
    c.in-Err.ensures.fault (λ ran_out. let is = c.in-Compressed.is in grind arith)
    c.in_ok-text-in-Compressed.ensures)
