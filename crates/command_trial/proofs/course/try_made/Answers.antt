use Rattle.std.proofs.Common.{List, ℕ, ap, subst, ◌∙◌}
use Rattle.std.specs.Prelude.{Ok, Err, ⊤}
use Rattle.std.proofs.lemmas.Result.{err_from_is_err_and}
use Rattle.outside_calls.specs.MemOutSeen.{MemOutSeen}
use Rattle.km_course.specs.Course.{says}
use Rattle.km_course.specs.World.{world}
use Rattle.km_course.specs.Follows.{Follows}
use Rattle.km_course.specs.Inner.{Left}
use Rattle.km_course.proofs.Steps.{next, exits, wants}
use Rattle.command_trial.specs.Summary.{dependencies_left, summary}
use Rattle.command_trial.proofs.CourseSteps.{indexed, loaded, loads_after, says_after}
use Rattle.command_trial.proofs.course.try_made.Goals as goal

pub returns-in_err-files : goal.returns-in_err-files
returns-in_err-files g c = λ files err.
    let p = err_from_is_err_and c.from_residual.result c.from_residual.ensures.1 in
    wants _ _ _ _ p.1 p.2

pub returns-in_err-index_made : goal.returns-in_err-index_made
returns-in_err-index_made g c = λ files err.
    let p
    = err_from_is_err_and c.from_residual-in_err-index_made.result
    c.from_residual-in_err-index_made.ensures.1 in
    let w = world files (g.O.Out.seen c.args.out.now) err in
    let tree : MemOutSeen → Left
    = λ out. record { files = c.index_made.new.files.contents; out = out.bytes } in
    exits _ _ (loads_after c.args.asked) p.1 p.2
    (indexed tree c.args.asked c.in_ok-files.files w (Err _) c.in_ok-files.ensures
    c.in_err-index_made.ensures.left)

pub returns-in_err-dependencies : goal.returns-in_err-dependencies
returns-in_err-dependencies g c = λ files err.
    let p
    = err_from_is_err_and c.from_residual-in_err-dependencies.result
    c.from_residual-in_err-dependencies.ensures.1 in
    let w = world files (g.O.Out.seen c.args.out.now) err in
    let tree : MemOutSeen → Left
    = λ out. record { files = c.index_made.new.files.contents; out = out.bytes } in
    next (loads_after c.args.asked)
    (indexed tree c.args.asked c.in_ok-files.files w (Ok c.in_ok-index_made.field-0)
    c.in_ok-files.ensures c.in_ok-index_made.ensures.left)
    (wants _ _ _ _ p.1 p.2)

pub returns-in_err-output : goal.returns-in_err-output
returns-in_err-output g c = λ files err.
    let p
    = err_from_is_err_and c.from_residual-in_err-output.result
    c.from_residual-in_err-output.ensures.1 in
    let w = world files (g.O.Out.seen c.args.out.now) err in
    let tree : MemOutSeen → Left
    = λ out. record { files = c.index_made.new.files.contents; out = out.bytes } in
    let left : MemOutSeen → Left
    = λ out. record { files = c.load_made.new.files.contents; out = out.bytes } in
    next (loads_after c.args.asked)
    (indexed tree c.args.asked c.in_ok-files.files w (Ok c.in_ok-index_made.field-0)
    c.in_ok-files.ensures c.in_ok-index_made.ensures.left)
    (exits _ _ (says_after c.args.asked (tree c.in_ok-index_made.field-0)) p.1 p.2
    (loaded left c.args.asked (tree c.in_ok-index_made.field-0) w (Err _) c.in_err-output.ensures))

pub returns-in_err-text : goal.returns-in_err-text
returns-in_err-text g c = λ files err.
    let p
    = err_from_is_err_and c.from_residual-in_err-text.result
    c.from_residual-in_err-text.ensures.1 in
    let w = world files (g.O.Out.seen c.args.out.now) err in
    let tree : MemOutSeen → Left
    = λ out. record { files = c.index_made.new.files.contents; out = out.bytes } in
    let left : MemOutSeen → Left
    = λ out. record { files = c.load_made.new.files.contents; out = out.bytes } in
    next (loads_after c.args.asked)
    (indexed tree c.args.asked c.in_ok-files.files w (Ok c.in_ok-index_made.field-0)
    c.in_ok-files.ensures c.in_ok-index_made.ensures.left)
    (next (says_after c.args.asked (tree c.in_ok-index_made.field-0))
    (loaded left c.args.asked (tree c.in_ok-index_made.field-0) w (Ok c.in_ok-output.output)
    c.in_ok-output.ensures)
    (wants _ _ _ _ p.1 p.2))

pub returns : goal.returns
returns g c = λ files err.
    let w = world files (g.O.Out.seen c.args.out.now) err in
    let tree : MemOutSeen → Left
    = λ out. record { files = c.index_made.new.files.contents; out = out.bytes } in
    let left : MemOutSeen → Left
    = λ out. record { files = c.load_made.new.files.contents; out = out.bytes } in
    next (loads_after c.args.asked)
    (indexed tree c.args.asked c.in_ok-files.files w (Ok c.in_ok-index_made.field-0)
    c.in_ok-files.ensures c.in_ok-index_made.ensures.left)
    (next (says_after c.args.asked (tree c.in_ok-index_made.field-0))
    (loaded left c.args.asked (tree c.in_ok-index_made.field-0) w (Ok c.in_ok-output.output)
    c.in_ok-output.ensures)
    (subst (λ text. Follows (λ (x : ⊤). x) (says text) w
    (world files (g.O.Out.seen c.say.new.out) err) c.say.result)
    (c.as_bytes.ensures ∙ c.in_ok-text.ensures
    ∙ ap (λ (n : ℕ). summary c.args.asked.count n
    (record { files = c.load_made.new.files.contents; out = c.bytes.result.now }))
    c.in_ok-dependencies.ensures
    ∙ ap (λ (b : List ℕ). summary c.args.asked.count
    (dependencies_left c.index_made.new.files.contents)
    (record { files = c.load_made.new.files.contents; out = b })) c.bytes.ensures)
    (c.say.ensures files err)))
