use Rattle.std.proofs.Common.{ℕ, List, subst}
use Rattle.std.specs.Prelude.{Ok, Err, ⊤}
use Rattle.std.proofs.lemmas.Result.{err_from_is_err_and}
use Rattle.km_course.specs.World.{world}
use Rattle.km_course.specs.Course.{says_any}
use Rattle.km_course.specs.Follows.{Follows}
use Rattle.km_course.proofs.Steps.{next, exits, wants, answered}
use Rattle.command_builtin_alias.specs.BuiltinAlias.{found_outcome}
use Rattle.command_builtin_alias.proofs.NameSteps.{found_in, at-asked}
use Rattle.command_builtin_alias.proofs.course.show_names.Goals as goal

pub returns-in_err-folder : goal.returns-in_err-folder
returns-in_err-folder g c = λ err.
    let p = err_from_is_err_and c.from_residual.result c.from_residual.ensures.1 in
    wants _ _ _ _ p.1 p.2

pub returns-in_err-file : goal.returns-in_err-file
returns-in_err-file g c = λ err.
    let p
    = err_from_is_err_and c.from_residual-in_err-file.result
    c.from_residual-in_err-file.ensures.1 in
    wants _ _ _ _ p.1 p.2

pub returns-in_err-index : goal.returns-in_err-index
returns-in_err-index g c = λ err.
    let p
    = err_from_is_err_and c.from_residual-in_err-index.result
    c.from_residual-in_err-index.ensures.1 in
    at-asked c.args.asked c.in_ok-folder.folder c.in_ok-file.file _ _ _ c.in_ok-folder.ensures
    c.in_ok-file.ensures
    (exits _ _ (found_in c.args.asked.name) p.1 p.2
    (c.in_err-index.ensures (g.O.Out.seen c.args.out.now) err))

pub returns-in_err-text : goal.returns-in_err-text
returns-in_err-text g c = λ err.
    let p
    = err_from_is_err_and c.from_residual-in_err-text.result
    c.from_residual-in_err-text.ensures.1 in
    at-asked c.args.asked c.in_ok-folder.folder c.in_ok-file.file _ _ _ c.in_ok-folder.ensures
    c.in_ok-file.ensures
    (next (found_in c.args.asked.name) (c.in_ok-index.ensures (g.O.Out.seen c.args.out.now) err)
    (exits _ _ (λ text. says_any text) p.1 p.2
    (answered (λ (x : List ℕ). x) (found_outcome c.in_ok-index.index c.args.asked.name) _ (Err _)
    c.in_err-text.ensures)))

pub returns : goal.returns
returns g c = λ err.
    at-asked c.args.asked c.in_ok-folder.folder c.in_ok-file.file _ _ _ c.in_ok-folder.ensures
    c.in_ok-file.ensures
    (next (found_in c.args.asked.name) (c.in_ok-index.ensures (g.O.Out.seen c.args.out.now) err)
    (next (λ text. says_any text)
    (answered (λ (x : List ℕ). x) (found_outcome c.in_ok-index.index c.args.asked.name) _
    (Ok c.in_ok-text.text) c.in_ok-text.ensures)
    (subst (λ bytes. Follows (λ (x : ⊤). x) (says_any bytes)
    (world (g.F.Reads.seen c.read_index.new.files) (g.O.Out.seen c.args.out.now) err)
    (world (g.F.Reads.seen c.read_index.new.files) (g.O.Out.seen c.say_any.new.out) err)
    c.say_any.result)
    c.as_bytes.ensures (c.say_any.ensures (g.F.Reads.seen c.read_index.new.files) err))))
