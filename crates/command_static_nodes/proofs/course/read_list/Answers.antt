use Rattle.std.proofs.Common.{List, subst}
use Rattle.std.proofs.lemmas.Result.{err_from_is_err_and}
use Rattle.km_course.specs.Follows.{Answers}
use Rattle.km_course.proofs.Steps.{next, exits, answered}
use Rattle.devname_nodes.specs.declared.node.Node.{Node}
use Rattle.devname_nodes.specs.File.{read_of}
use Rattle.stages_files.specs.Configuration.{stated_outcome}
use Rattle.command_static_nodes.proofs.NodeSteps.{nodes_stated}
use Rattle.command_static_nodes.proofs.course.read_list.Goals as goal

pub returns-in_err-bytes : goal.returns-in_err-bytes
returns-in_err-bytes g c = λ out err.
    let p = err_from_is_err_and c.from_residual.result c.from_residual.ensures.1 in
    exits _ _ (nodes_stated c.args.file.now) p.1 p.2 (c.in_err-bytes.ensures.follows out err)

pub returns : goal.returns
returns g c = λ out err.
    let bytes = c.in_ok-bytes.bytes in
    next (nodes_stated c.args.file.now) (c.in_ok-bytes.ensures.follows out err)
    (answered (λ (x : List Node). x) (stated_outcome (read_of c.args.file.now bytes)) _
    c.nodes_in.result
    (subst (λ text. Answers (λ (x : List Node). x) (stated_outcome (read_of c.args.file.now text))
    c.nodes_in.result) c.as_bytes.ensures c.nodes_in.ensures))
