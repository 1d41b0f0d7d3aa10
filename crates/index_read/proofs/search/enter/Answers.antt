use Rattle.std.proofs.Common.{subst, ◌++◌, ◌∷◌, []}
use Rattle.std.proofs.lemmas.Result.{IfOk-weaker}
use Rattle.index_format.specs.Node.{prefix}
use Rattle.index_read.specs.Searches.{Enters}
use Rattle.index_read.proofs.ReadLemmas.{lost_more}
use Rattle.index_read.proofs.search.enter.Goals as goal

pub returns-then-not-branch-clause-enters : goal.returns-then-not-branch-clause-enters
returns-then-not-branch-clause-enters g c text pattern o h =
    lost_more text (pattern ++ c.args.child.0 ∷ []) (prefix c.args.nodes.now c.args.child.1)
    (rw (c.if-not-branch.true) at (c.in_ok-read_byte.ensures.read text pattern o h))

pub returns-clause-enters : goal.returns-clause-enters
returns-clause-enters g c =
    let b = c.args.nodes.now in
    let read = c.in_ok-read_byte.ensures in
    IfOk-weaker c.read_prefix.result _ _
    (λ found enters text pattern o h.
    let front = pattern ++ c.args.child.0 ∷ [] in
    subst (λ link. Enters b text (front ++ prefix b link) link c.read_prefix.new.progress found)
    c.node-node.ensures.name
    (enters text front (read.over text o)
    (rw (c.if-not-branch.false) at (read.read text pattern o h))))
    c.read_prefix.ensures.enters
