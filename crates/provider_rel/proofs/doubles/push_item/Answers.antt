use Rattle.std.proofs.Common.{◌≡◌, ◌≤◌, ◌+◌, ◌∷◌, [], length, set, sym, subst, append-nil, arith}
use Rattle.provider_rel.specs.Sharing.{AreLinked, IsChain, last_of}
use Rattle.provider_rel.proofs.LinkSteps.{head, none-before, linked-first, linked-more, lines-more}
use Rattle.provider_rel.proofs.doubles.push_item.Goals as goal

pub returns-in_ok-last-clause-linked : goal.returns-in_ok-last-clause-linked
returns-in_ok-last-clause-linked c =
    let is = c.args.items.now in
    let names = c.args.names.now in
    let next = c.args.next.now.items in
    let k = c.args.k in
    let i = c.index-items-k.result in
    let p = c.first_at-first.result in
    let at = c.first_at-first.ensures.first in
    let linked = c.requires.linked in
    let short : k ≤ length is = omega (arith, c.requires.place) in
    let w = head names is c.requires.names i.export.name p i at k c.if-first-k.true short in
    let chain
    = subst (λ n. IsChain n p w.0) (sym c.as_slice.ensures.value) (linked.chains p w.0 w.1) in
    let last : c.in_ok-last.last ≡ last_of p w.0 = c.in_ok-last.ensures.last w.0 chain in
    subst (λ e. AreLinked is names (k + 1) (set next e k)) (sym last)
    (linked-more names is c.requires.names k p i w.0 next c.requires.place c.index-items-k.is at
    w.1 linked)

pub returns-in_ok-last-clause-lines : goal.returns-in_ok-last-clause-lines
returns-in_ok-last-clause-lines c before so_far =
    let is = c.args.items.now in
    let names = c.args.names.now in
    let k = c.args.k in
    let i = c.index-items-k.result in
    let p = c.first_at-first.result in
    let at = c.first_at-first.ensures.first in
    let short : k ≤ length is = omega (arith, c.requires.place) in
    let w = head names is c.requires.names i.export.name p i at k c.if-first-k.true short in
    let chain
    = subst (λ n. IsChain n p w.0) (sym c.as_slice.ensures.value)
    (c.requires.linked.chains p w.0 w.1) in
    lines-more names is c.requires.names k p i (p ∷ w.0) before c.args.lines.now
    c.push_chain.new.lines c.requires.place c.index-items-k.is at w.1
    (c.in_ok-last.ensures.lines w.0 chain) so_far

pub returns-else-first-k-clause-linked : goal.returns-else-first-k-clause-linked
returns-else-first-k-clause-linked c =
    linked-first c.args.names.now c.args.items.now c.requires.names c.args.k c.first_at-first.result
    c.index-items-k.result c.args.next.now.items c.requires.place c.index-items-k.is
    c.first_at-first.ensures.first
    c.if-first-k.false c.requires.linked

pub returns-else-first-k-clause-lines : goal.returns-else-first-k-clause-lines
returns-else-first-k-clause-lines c before so_far =
    let is = c.args.items.now in
    let names = c.args.names.now in
    let k = c.args.k in
    let i = c.index-items-k.result in
    let p = c.first_at-first.result in
    let at = c.first_at-first.ensures.first in
    let short : k ≤ length is = omega (arith, c.requires.place) in
    lines-more names is c.requires.names k p i [] before c.args.lines.now c.args.lines.now
    c.requires.place c.index-items-k.is at
    (none-before names is c.requires.names p i k c.if-first-k.false short)
    (sym (append-nil c.args.lines.now)) so_far
