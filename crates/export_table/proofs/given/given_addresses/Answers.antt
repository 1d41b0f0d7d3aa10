use Rattle.std.proofs.Common.{◌≡◌, ◌<◌, ◌-◌, arith, length, get_or, subst, sym, ap}
use Rattle.module_symbols.specs.declared.needs.Need.{Need}
use Rattle.export_table.proofs.GivenLemmas.{given-none, given-next, given-all}
use Rattle.export_table.proofs.given.given_addresses.Goals as goal

pub loop-done-init : goal.loop-done-init
loop-done-init c =
    given-none c.args.table.now c.args.facts.now c.args.count c.in_ok-given.given.items
    c.in_ok-given.ensures

pub loop-done-preserved : goal.loop-done-preserved
loop-done-preserved c =
    let f = c.args.facts.now in
    let need = c.index-needs-needs.result in
    let done = c.loop-done.done in
    let same = c.as_slice-needs.ensures in
    let less : done < length f.needs = rw (← same) c.loop-done-test.true in
    let p = length f.needs - 1 - done in
    let here : need ≡ get_or f.needs p need = rw same at c.index-needs-needs.is in
    let inside : need.symbol < c.args.count
    = subst (λ (n : Need). n.symbol < c.args.count) (sym here)
    (c.requires p need (omega (arith, less))) in
    given-next c.args.table.now f c.args.count done p c.loop-done.given.items need
    c.address_of.result c.loop-done.invariant (omega (arith, less)) here inside
    c.address_of.ensures

pub returns : goal.returns
returns c =
    given-all c.args.table.now c.args.facts.now c.args.count c.loop-done.done
    c.loop-done.given.items c.loop-done.invariant
    (omega (arith, ap length c.as_slice-needs.ensures))
