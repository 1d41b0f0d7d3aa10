use Rattle.std.proofs.Common.{ap, ◌∙◌, sym, ◌++◌, take, drop}
use Rattle.std.proofs.lemmas.List.{append-nil}
use Rattle.index_format.specs.Tree.{common}
use Rattle.index_write.proofs.NodeLemmas.{common-nil, drop_all}
use Rattle.index_write.proofs.node.common_length.Goals as goal

pub returns-else-n-b-clause-common : goal.returns-else-n-b-clause-common
returns-else-n-b-clause-common c =
    let a = c.args.a.now in
    let n = c.loop-n.n in
    sym (c.loop-n.invariant.split
    ∙ ap (λ ys. take n a ++ common (drop n a) ys) (drop_all n c.args.b.now c.if-n-b.false)
    ∙ ap (λ ys. take n a ++ ys) (common-nil (drop n a))
    ∙ append-nil (take n a))
