use Rattle.std.proofs.Common.{◌+◌, ◌-◌, ◌/◌, ◌<◌, [], length, sym, ap, ◌∙◌, arith}
use Rattle.std.specs.Ordering.{is_eq}
use Rattle.std.proofs.lemmas.List.{get_or_default}
use Rattle.index_format.specs.Listing.{KeyValue}
use Rattle.index_format.proofs.TreeLemmas.{R}
use Rattle.index_read.proofs.OrderLemmas.{equal_keys}
use Rattle.dependency_lines.specs.Modules.{name_at}
use Rattle.dependency_lines.proofs.Kept.{part-up, part-down, parted-none}
use Rattle.dependency_lines.proofs.order.number_of.Goals as goal

pub loop-low-preserved-in-Less : goal.loop-low-preserved-in-Less
loop-low-preserved-in-Less c =
    let name = c.args.name.now in
    let low = c.loop-low.low in
    let high = c.loop-low.high in
    part-up c.args.lines.now c.requires name low high (low + (high - low) / 2) c.loop-low.invariant
    (omega arith) (omega (arith, c.loop-low-test.true))
    (ap (λ n. R n name) (sym c.name.ensures) ∙ sym c.cmp.ensures ∙ c.in-Less.is)

pub loop-low-preserved : goal.loop-low-preserved
loop-low-preserved c =
    let name = c.args.name.now in
    let low = c.loop-low.low in
    let high = c.loop-low.high in
    part-down c.args.lines.now c.requires name low high (low + (high - low) / 2)
    c.loop-low.invariant (omega arith) (omega (arith, c.loop-low-test.true))
    (ap (λ n. R n name) (sym c.name.ensures) ∙ sym c.cmp.ensures ∙ c.in-Greater.is)

pub returns-in-Equal : goal.returns-in-Equal
returns-in-Equal c =
    let ms = c.args.lines.now in
    let name = c.args.name.now in
    let low = c.loop-low.low in
    let high = c.loop-low.high in
    let middle = low + (high - low) / 2 in
    let under : low + (high - low) / 2 < length ms
    = omega (arith, c.loop-low-test.true, c.loop-low.invariant.within) in (
      middle,
      under,
      equal_keys (name_at ms middle) name
          (ap is_eq (ap (λ n. R n name) (sym c.name.ensures) ∙ sym c.cmp.ensures ∙ c.in-Equal.is)),
      λ other. ap (λ (m : KeyValue). m.1.0) (get_or_default ms middle other ([], (0, [])) under)
          ∙ sym c.number.ensures,
    )

pub returns : goal.returns
returns c =
    parted-none c.args.lines.now c.requires c.args.name.now c.loop-low.low c.loop-low.high
    c.loop-low.invariant (omega (arith, c.loop-low-test.false))
