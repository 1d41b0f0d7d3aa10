use Rattle.std.proofs.Common.{sym, ap, subst, ◌∙◌, length, arith}
use Rattle.km_names.specs.Number.{be}
use Rattle.index_format.specs.Node.{root}
use Rattle.index_format.specs.Nodes.{IsNode, top}
use Rattle.index_nodes.proofs.SoundNodes.{long_enough}
use Rattle.index_nodes.proofs.nodes.Nodes.root.Goals as goal

pub be_u32_at-requires : goal.be_u32_at-requires
be_u32_at-requires c =
    let size = ap length c.as_bytes.ensures in
    omega (arith, size, long_enough c.self.inside.bytes c.self.invariant.0)

pub returns-clause-root : goal.returns-clause-root
unfolding root
returns-clause-root c =
    c.be_u32_at.ensures ∙ ap (λ b. be b 8 4) (c.as_bytes.ensures ∙ c.self.view_is)

pub returns-clause-node : goal.returns-clause-node
unfolding root
returns-clause-node c =
    let it : IsNode c.args.self.now (root c.args.self.now) = top in
    subst (IsNode c.args.self.now)
    (sym (c.be_u32_at.ensures ∙ ap (λ b. be b 8 4) (c.as_bytes.ensures ∙ c.self.view_is))) it
