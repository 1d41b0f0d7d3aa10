use Rattle.std.proofs.Common.{subst, ◌∙◌}
use Rattle.std.specs.Prelude.{⊤}
use Rattle.std.proofs.lemmas.Result.{err_from_is_err_and}
use Rattle.km_course.specs.World.{world}
use Rattle.km_course.specs.Course.{says_any}
use Rattle.km_course.specs.Follows.{Follows}
use Rattle.km_course.proofs.Steps.{next, exits, wants}
use Rattle.command_static_nodes.proofs.NodeSteps.{said, at-asked}
use Rattle.command_static_nodes.proofs.course.show_nodes.Goals as goal

pub returns-in_err-folder : goal.returns-in_err-folder
returns-in_err-folder g c = λ err.
    let p = err_from_is_err_and c.from_residual.result c.from_residual.ensures.1 in
    wants _ _ _ _ p.1 p.2

pub returns-in_err-file : goal.returns-in_err-file
returns-in_err-file g c = λ err.
    let p
    = err_from_is_err_and c.from_residual-in_err-file.result
    c.from_residual-in_err-file.ensures.1 in
    wants _ _ _ _ p.1 p.2

pub returns-in_err-nodes : goal.returns-in_err-nodes
returns-in_err-nodes g c = λ err.
    let p
    = err_from_is_err_and c.from_residual-in_err-nodes.result
    c.from_residual-in_err-nodes.ensures.1 in
    at-asked c.args.asked c.in_ok-folder.folder c.in_ok-file.file _ _ _ c.in_ok-folder.ensures
    c.in_ok-file.ensures
    (exits _ _ said p.1 p.2 (c.in_err-nodes.ensures (g.O.Out.seen c.args.out.now) err))

pub returns-in_err-text : goal.returns-in_err-text
returns-in_err-text g c = λ err.
    let p
    = err_from_is_err_and c.from_residual-in_err-text.result
    c.from_residual-in_err-text.ensures.1 in
    at-asked c.args.asked c.in_ok-folder.folder c.in_ok-file.file _ _ _ c.in_ok-folder.ensures
    c.in_ok-file.ensures
    (next said (c.in_ok-nodes.ensures (g.O.Out.seen c.args.out.now) err) (wants _ _ _ _ p.1 p.2))

pub returns : goal.returns
returns g c = λ err.
    at-asked c.args.asked c.in_ok-folder.folder c.in_ok-file.file _ _ _ c.in_ok-folder.ensures
    c.in_ok-file.ensures
    (next said (c.in_ok-nodes.ensures (g.O.Out.seen c.args.out.now) err)
    (subst (λ bytes. Follows (λ (x : ⊤). x) (says_any bytes)
    (world (g.F.Reads.seen c.read_list.new.files) (g.O.Out.seen c.args.out.now) err)
    (world (g.F.Reads.seen c.read_list.new.files) (g.O.Out.seen c.say_any.new.out) err)
    c.say_any.result)
    (c.as_bytes.ensures ∙ c.in_ok-text.ensures)
    (c.say_any.ensures (g.F.Reads.seen c.read_list.new.files) err)))
