use Rattle.std.proofs.Common.{ap, ◌∙◌, ◌++◌, ◌∷◌, [], None}
use Rattle.index_read.specs.Walks.{level_of}
use Rattle.index_read.proofs.KeyLemmas.{root_items}
use Rattle.index_read.proofs.walk.KeyWalk.start.Goals as goal

pub returns-clause-still : goal.returns-clause-still
returns-clause-still g c =
    root_items c.args.nodes.now c.root.ensures.accepted c.node-node.result c.push.new.self.items
    (c.node-node.ensures.name ∙ c.root.ensures.root)
    (c.in_ok-push.ensures.items
    ∙ ap (λ ls. ls ++ level_of c.node-node.result None ∷ []) c.new-levels.ensures.items)
