use Rattle.std.proofs.Common.{ℕ, List}
use Rattle.std.proofs.lemmas.Result.{err_from_is_err_and}
use Rattle.km_course.specs.Course.{◌>>=◌, reads_any}
use Rattle.km_course.proofs.Steps.{next, exits, wants, answered}
use Rattle.command_depmod.specs.Tree.{tree_outcome}
use Rattle.km_course.proofs.Following.{along}
use Rattle.command_depmod.proofs.TreeSteps.{listed, ordered}
use Rattle.command_depmod.proofs.tree.read_tree.Goals as goal

pub returns-in_err-listed-clause-follows : goal.returns-in_err-listed-clause-follows
returns-in_err-listed-clause-follows g c = λ out err.
    let p = err_from_is_err_and c.from_residual.result c.from_residual.ensures.1 in
    let later = listed c.args.folder.now c.args.search.now in
    exits _ _ later p.1 p.2 (c.in_err-listed.ensures out err)

pub returns-in_err-order_file-clause-follows : goal.returns-in_err-order_file-clause-follows
returns-in_err-order_file-clause-follows g c = λ out err.
    let p
    = err_from_is_err_and c.from_residual-in_err-order_file.result
    c.from_residual-in_err-order_file.ensures.1 in
    let later = listed c.args.folder.now c.args.search.now in
    next later (c.in_ok-listed.ensures out err) (wants _ _ _ _ p.1 p.2)

pub returns-in_err-order-clause-follows : goal.returns-in_err-order-clause-follows
returns-in_err-order-clause-follows g c = λ out err.
    let p
    = err_from_is_err_and c.from_residual-in_err-order.result
    c.from_residual-in_err-order.ensures.1 in
    let later = listed c.args.folder.now c.args.search.now in
    let last = ordered c.args.search.now c.in_ok-listed.listed in
    next later (c.in_ok-listed.ensures out err)
    (along (λ file. reads_any file >>= last) _ _ c.in_ok-order_file.ensures
    (exits _ _ last p.1 p.2 (c.in_err-order.ensures.follows out err)))

pub returns-clause-follows : goal.returns-clause-follows
returns-clause-follows g c = λ out err.
    let later = listed c.args.folder.now c.args.search.now in
    let last = ordered c.args.search.now c.in_ok-listed.listed in
    next later (c.in_ok-listed.ensures out err)
    (along (λ file. reads_any file >>= last) _ _ c.in_ok-order_file.ensures
    (next last (c.in_ok-order.ensures.follows out err)
    (answered (λ (x : List (List ℕ)). x)
    (tree_outcome c.in_ok-listed.listed c.in_ok-order.order c.args.search.now) _
    c.choose_tree.result c.choose_tree.ensures.answers)))
