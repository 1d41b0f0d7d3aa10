use Rattle.std.proofs.Common.{refl, [], ◌∷◌}
use Rattle.glob_pattern.specs.Pattern.{dash}
use Rattle.glob_match.proofs.ReadLemmas.{pend, low_decided, range_decided}
use Rattle.glob_match.proofs.reading.add_item.Goals as goal

pub returns-in-Nothing-clause-items : goal.returns-in-Nothing-clause-items
returns-in-Nothing-clause-items c text negated items t o =
    let s = c.args.state.now in
    pend text c.args.bytes.now t.same negated s.first items s.listed.items c.args.byte []
    (c.args.byte ∷ []) refl (rw (c.in-Nothing.is) at o)

pub returns-then-byte-eq45-clause-items : goal.returns-then-byte-eq45-clause-items
returns-then-byte-eq45-clause-items c text negated items t o =
    let s = c.args.state.now in
    let low = c.in-Low.low in
    rw (c.if-byte-eq45.true)
    (pend text c.args.bytes.now t.same negated s.first items s.listed.items dash (low ∷ [])
    (low ∷ dash ∷ []) refl (rw (c.in-Low.is) at o))

pub returns-else-byte-eq45-clause-items : goal.returns-else-byte-eq45-clause-items
returns-else-byte-eq45-clause-items c text negated items t o =
    let s = c.args.state.now in
    low_decided text c.args.bytes.now t.same negated s.first items s.listed.items c.in-Low.low
    c.args.byte c.list.new.self.listed.items c.if-byte-eq45.false c.list.ensures.listed
    (rw (c.in-Low.is) at o)

pub returns-in-Dash-clause-items : goal.returns-in-Dash-clause-items
returns-in-Dash-clause-items c text negated items t o =
    let s = c.args.state.now in
    range_decided text c.args.bytes.now t.same negated s.first items s.listed.items c.in-Dash.low
    c.args.byte c.list-in-Dash.new.self.listed.items c.list-in-Dash.ensures.listed
    (rw (c.in-Dash.is) at o)
