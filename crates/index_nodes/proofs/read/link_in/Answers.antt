use Rattle.std.proofs.Common.{◌≡◌, refl, sym, ap, ◌∙◌, ◌+◌, ◌-◌, ◌*◌, arith}
use Rattle.km_names.specs.Number.{be}
use Rattle.index_format.specs.Node.{present, last_byte}
use Rattle.index_nodes.proofs.ArrivalLemmas.{link_present, link_absent}
use Rattle.index_nodes.proofs.ChildLemmas.{range_of}
use Rattle.index_nodes.proofs.ReadLemmas.{child_in_range}
use Rattle.index_nodes.proofs.read.link_in.Goals as goal

pub be_u32_at-link-requires : goal.be_u32_at-link-requires
be_u32_at-link-requires c =
    let b = c.args.bytes.now in
    let n = c.args.node.now in
    let r
    = range_of b n.link n.children c.requires.children c.requires.fields.children.within
    c.requires.fields.children.rest c.requires.fit in
    let at : c.from.result ≡ c.args.byte - c.args.first = c.from.ensures in
    omega (arith, at, r.room, r.first, r.last, c.requires.first, c.requires.from, c.requires.to)

pub returns-then-place-eq0 : goal.returns-then-place-eq0
returns-then-place-eq0 c =
    let b = c.args.bytes.now in
    let n = c.args.node.now in
    let at : c.from.result ≡ c.args.byte - c.args.first = c.from.ensures in
    sym (child_in_range b n.link n.children c.args.first (last_byte b n.link) c.args.byte
    c.requires.children c.requires.fields.children.rest c.requires.first refl c.requires.from
    c.requires.to
    ∙ ap present (ap (λ k. be b (n.children + 2 + 4 * k) 4) (sym at) ∙ sym c.be_u32_at-link.ensures)
    ∙ link_absent c.be_u32_at-link.result (sym c.place.ensures.place ∙ c.if-place-eq0.true))

pub returns-else-place-eq0 : goal.returns-else-place-eq0
returns-else-place-eq0 c =
    let b = c.args.bytes.now in
    let n = c.args.node.now in
    let at : c.from.result ≡ c.args.byte - c.args.first = c.from.ensures in
    sym (child_in_range b n.link n.children c.args.first (last_byte b n.link) c.args.byte
    c.requires.children c.requires.fields.children.rest c.requires.first refl c.requires.from
    c.requires.to
    ∙ ap present (ap (λ k. be b (n.children + 2 + 4 * k) 4) (sym at) ∙ sym c.be_u32_at-link.ensures)
    ∙ link_present c.be_u32_at-link.result (λ z. c.if-place-eq0.false (c.place.ensures.place ∙ z)))
