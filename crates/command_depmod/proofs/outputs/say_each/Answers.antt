use Rattle.std.proofs.Common.{◌+◌, drop}
use Rattle.std.specs.Prelude.{⊤}
use Rattle.std.proofs.lemmas.Result.{err_from_is_err_and}
use Rattle.depmod_core.specs.declared.file.OutputFile.TheVariants.{Dep}
use Rattle.km_course.proofs.Steps.{exits, leads-on}
use Rattle.km_course.proofs.Following.{leads-at, leads-done}
use Rattle.command_depmod.specs.declared.files.DepmodFile.TheVariants.{Usual}
use Rattle.command_depmod.proofs.OutputSteps.{say_one, say_others}
use Rattle.command_depmod.proofs.outputs.say_each.Goals as goal

pub returns-in_err-say_file : goal.returns-in_err-say_file
returns-in_err-say_file g c = λ files err.
    let p = err_from_is_err_and c.from_residual.result c.from_residual.ensures.1 in
    let step = say_one c.args.made.now in
    let which = c.args.which.now in
    leads-at (λ (x : ⊤). x) _ _ _ step tt which c.loop-file.file-index (Usual Dep)
    c.loop-file-test.true (c.loop-file.invariant files err) _ _
    (exits _ _ (say_others c.args.made.now (drop (c.loop-file.file-index + 1) which)) p.1 p.2
    (c.in_err-say_file.ensures files err))

pub loop-file-preserved : goal.loop-file-preserved
loop-file-preserved g c = λ files err.
    let step = say_one c.args.made.now in
    let which = c.args.which.now in
    leads-on (λ (x : ⊤). x) _ _ _ _ step tt _ (drop (c.loop-file.file-index + 1) which) tt
    (leads-at (λ (x : ⊤). x) _ _ _ step tt which c.loop-file.file-index (Usual Dep)
    c.loop-file-test.true (c.loop-file.invariant files err))
    (c.in_ok-say_file.ensures files err)

pub returns : goal.returns
returns g c = λ files err.
    leads-done (λ (x : ⊤). x) _ _ _ (say_one c.args.made.now) tt c.args.which.now
    c.loop-file.file-index c.loop-file-test.false (c.loop-file.invariant files err)
