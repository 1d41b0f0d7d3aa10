use Rattle.std.proofs.Common.{◌≡◌, refl, sym, subst, [], Some, slice_get}
use Rattle.km_names.specs.Number.{be}
use Rattle.std.specs.Prelude.{IfNone, IfSome}
use Rattle.index_format.specs.declared.numbers.TheConstants.{HAS_VALUES}
use Rattle.index_nodes.specs.Places.{values_left, value_at}
use Rattle.index_nodes.proofs.FieldLemmas.{bit_set, bit_clear}
use Rattle.index_nodes.proofs.ReadLemmas.{no_values, the_values, whole_count, room_for}
use Rattle.index_nodes.proofs.read.first_place.Goals as goal

pub returns-then-node-eq0-clause-none : goal.returns-then-node-eq0-clause-none
returns-then-node-eq0-clause-none c =
    no_values c.args.bytes.now c.args.node.now.link
    (bit_clear c.args.node.now.link HAS_VALUES c.if-node-eq0.true)

pub be_u32_at-count-requires : goal.be_u32_at-count-requires
be_u32_at-count-requires c =
    let b = c.args.bytes.now in
    let n = c.args.node.now in
    room_for b n.values
    (whole_count b n.link n.values (be b n.values 4)
    (bit_set n.link HAS_VALUES c.if-node-eq0.false) c.requires.fields.values.rest refl
    c.requires.fit).0

pub place_at-requires-clause-within : goal.place_at-requires-clause-within
place_at-requires-clause-within c =
    let b = c.args.bytes.now in
    let n = c.args.node.now in
    let whole
    = whole_count b n.link n.values c.be_u32_at-count.result
    (bit_set n.link HAS_VALUES c.if-node-eq0.false) c.requires.fields.values.rest
    c.be_u32_at-count.ensures c.requires.fit in
    room_for b n.values whole.0

pub place_at-requires-clause-whole : goal.place_at-requires-clause-whole
place_at-requires-clause-whole c =
    let b = c.args.bytes.now in
    let n = c.args.node.now in
    (whole_count b n.link n.values c.be_u32_at-count.result
    (bit_set n.link HAS_VALUES c.if-node-eq0.false) c.requires.fields.values.rest
    c.be_u32_at-count.ensures c.requires.fit).1

pub returns-clause-none : goal.returns-clause-none
returns-clause-none c =
    let b = c.args.bytes.now in
    let n = c.args.node.now in
    let same
    = the_values b n.link n.values c.be_u32_at-count.result
    (bit_set n.link HAS_VALUES c.if-node-eq0.false) c.requires.fields.values.rest
    c.be_u32_at-count.ensures in
    subst (λ vs. IfNone c.place_at.result (vs ≡ [])) (sym same) c.place_at.ensures.none

pub returns-clause-some : goal.returns-clause-some
returns-clause-some c =
    let b = c.args.bytes.now in
    let n = c.args.node.now in
    let same
    = the_values b n.link n.values c.be_u32_at-count.result
    (bit_set n.link HAS_VALUES c.if-node-eq0.false) c.requires.fields.values.rest
    c.be_u32_at-count.ensures in
    subst (λ vs. IfSome c.place_at.result (λ at. values_left b at ≡ vs)) (sym same)
    c.place_at.ensures.some

pub returns-clause-first : goal.returns-clause-first
returns-clause-first c =
    let b = c.args.bytes.now in
    let n = c.args.node.now in
    let same
    = the_values b n.link n.values c.be_u32_at-count.result
    (bit_set n.link HAS_VALUES c.if-node-eq0.false) c.requires.fields.values.rest
    c.be_u32_at-count.ensures in
    subst (λ vs. IfSome c.place_at.result (λ at. slice_get vs 0 ≡ Some (value_at b at))) (sym same)
    c.place_at.ensures.first
