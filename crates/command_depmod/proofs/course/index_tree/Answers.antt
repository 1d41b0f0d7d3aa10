use Rattle.std.proofs.lemmas.Result.{err_from_is_err_and}
use Rattle.km_course.proofs.Steps.{next, exits}
use Rattle.command_depmod.specs.Related.{seen_tree}
use Rattle.command_depmod.proofs.IndexSteps.{made, warned}
use Rattle.command_depmod.proofs.course.index_tree.Goals as goal

pub returns-in_err-made : goal.returns-in_err-made
returns-in_err-made g c =
    let p = err_from_is_err_and c.from_residual.result c.from_residual.ensures.1 in
    exits _ _ (made c.args.wanted c.args.target.now (seen_tree c.args.tree.now)) p.1 p.2
    (c.in_err-made.ensures (g.O.Out.seen c.args.out.now) (g.E.Out.seen c.args.err.now))

pub returns-in_err-warn_of_tree : goal.returns-in_err-warn_of_tree
returns-in_err-warn_of_tree g c =
    let p
    = err_from_is_err_and c.from_residual-in_err-warn_of_tree.result
    c.from_residual-in_err-warn_of_tree.ensures.1 in
    next (made c.args.wanted c.args.target.now (seen_tree c.args.tree.now))
    (c.in_ok-made.ensures (g.O.Out.seen c.args.out.now) (g.E.Out.seen c.args.err.now))
    (exits _ _ (warned c.args.wanted c.args.target.now c.in_ok-made.made) p.1 p.2
    (c.in_err-warn_of_tree.ensures (g.F.Reads.seen c.make_files.new.files)
    (g.O.Out.seen c.args.out.now)))

pub returns : goal.returns
returns g c =
    next (made c.args.wanted c.args.target.now (seen_tree c.args.tree.now))
    (c.in_ok-made.ensures (g.O.Out.seen c.args.out.now) (g.E.Out.seen c.args.err.now))
    (next (warned c.args.wanted c.args.target.now c.in_ok-made.made)
    (c.in_ok-warn_of_tree.ensures (g.F.Reads.seen c.make_files.new.files)
    (g.O.Out.seen c.args.out.now))
    (c.hand_out.ensures (g.E.Out.seen c.warn_of_tree.new.err)))
