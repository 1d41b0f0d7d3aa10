use Rattle.std.proofs.Common.{◌≡◌, sym, ap, ◌∙◌, suc, ◌+◌, ◌-◌, drop, Some, slice_get, arith}
use Rattle.index_format.specs.Node.{values_in, text}
use Rattle.index_format.specs.Check.{whole_values}
use Rattle.index_format.specs.Nodes.{values_from}
use Rattle.index_format.proofs.BigEndian.{be-at}
use Rattle.index_nodes.proofs.ReadLemmas.{whole_value, values-step}
use Rattle.index_nodes.proofs.read.place_at.Goals as goal

pub returns-then-left-eq0-clause-none : goal.returns-then-left-eq0-clause-none
unfolding values_in
returns-then-left-eq0-clause-none c =
    ap (values_from c.args.bytes.now c.args.start) c.if-left-eq0.true

pub be_u32_at-requires : goal.be_u32_at-requires
be_u32_at-requires c =
    let one : c.args.left ≡ suc (c.args.left - 1) = omega (arith, c.if-left-eq0.false) in
    (whole_value c.args.bytes.now c.args.start (c.args.left - 1)
    (sym (ap (λ n. whole_values n (drop c.args.start c.args.bytes.now)) one)
    ∙ c.requires.whole)).four

pub returns-clause-first : goal.returns-clause-first
returns-clause-first c =
    let b = c.args.bytes.now in
    let one : c.args.left ≡ suc (c.args.left - 1) = omega (arith, c.if-left-eq0.false) in
    ap (λ vs. slice_get vs 0)
    (ap (values_from b c.args.start) one ∙ values-step b c.args.start (c.args.left - 1))
    ∙ ap (λ n. Some (n, text (drop (c.args.start + 4) b))) (sym c.be_u32_at.ensures)

pub returns-clause-place : goal.returns-clause-place
returns-clause-place c = record {
  place = record { some = omega (arith, c.if-left-eq0.false); whole = c.requires.whole };
  priority = c.be_u32_at.ensures ∙ be-at c.args.bytes.now c.args.start 4;
}
