use Rattle.std.proofs.Common.{◌≡◌, ◌∙◌, ◌⊎◌, length, ap, sym, subst, Some}
use Rattle.std.proofs.lemmas.List.FromFn.{length-map-range_with_len}
use Rattle.image_layout.specs.Laid.{laid}
use Rattle.load_fault.specs.declared.fault.LoadFault.{LoadFault}
use Rattle.load_fault.specs.declared.fault.LoadFault.TheVariants.{Memory}
use Rattle.export_table.specs.NeedTests.{given_by}
use Rattle.model_loader.specs.Step.{symbol_addresses, overflow_fault}
use Rattle.model_loader.proofs.EntryLemmas.{length-addresses, entry-is, addresses-are, fits-is}
use Rattle.model_loader.proofs.EntryLemmas.{fault-is}
use Rattle.model_loader.proofs.prepare.entry_of.Goals as goal

pub addresses-requires-clause-given : goal.addresses-requires-clause-given
addresses-requires-clause-given c =
    let m = c.args.module.now in
    ap length (c.deref.ensures.value ∙ c.in_ok-given.ensures)
    ∙ length-map-range_with_len (given_by c.args.table.now m.facts m.facts.needs) 0
    c.symbol_count.result
    ∙ c.symbol_count.ensures

pub image_at-requires-clause-addresses : goal.image_at-requires-clause-addresses
image_at-requires-clause-addresses c =
    ap length (c.deref-2.ensures.value ∙ c.in_ok-addresses.ensures)
    ∙ length-addresses c.args.module.now.object c.args.base c.deref.result.now

pub entry_with-requires : goal.entry_with-requires
entry_with-requires c =
    ap length (c.deref-3.ensures.value ∙ c.in_ok-addresses.ensures)
    ∙ length-addresses c.args.module.now.object c.args.base c.deref.result.now

pub returns-in-Err-clause-fault : goal.returns-in-Err-clause-fault
returns-in-Err-clause-fault c = λ machine keeps.
    let m = c.args.module.now in
    let addrs = c.deref-2.result.now in
    let are : addrs ≡ symbol_addresses machine m c.args.base
    = c.deref-2.ensures.value
    ∙ addresses-are machine c.args.table.now keeps m c.args.base c.deref.result.now
    c.in_ok-addresses.addresses.items c.symbol_count.result
    (c.deref.ensures.value ∙ c.in_ok-given.ensures) c.symbol_count.ensures
    c.in_ok-addresses.ensures in
    subst (λ (e : LoadFault). (e ≡ Memory) ⊎ (overflow_fault machine m c.args.base ≡ Some e))
    (sym c.from.ensures)
    (fault-is machine m c.args.base addrs c.in-Err.fault are c.in-Err.ensures.fault)

pub returns-clause-entry : goal.returns-clause-entry
returns-clause-entry c = λ machine keeps.
    let m = c.args.module.now in
    let addrs = c.deref-3.result.now in
    let are : addrs ≡ symbol_addresses machine m c.args.base
    = c.deref-3.ensures.value
    ∙ addresses-are machine c.args.table.now keeps m c.args.base c.deref.result.now
    c.in_ok-addresses.addresses.items c.symbol_count.result
    (c.deref.ensures.value ∙ c.in_ok-given.ensures) c.symbol_count.ensures
    c.in_ok-addresses.ensures in
    let image_is
    = c.in-Ok.ensures.image
    ∙ ap (laid m.object c.args.base) (c.deref-2.ensures.value ∙ sym c.deref-3.ensures.value)
    in
    c.in_ok-entry_with.ensures
    ∙ entry-is machine m c.args.base c.in-Ok.image addrs are image_is c.in-Ok.ensures.length

pub returns-clause-fits : goal.returns-clause-fits
returns-clause-fits c = λ machine keeps.
    let m = c.args.module.now in
    let addrs = c.deref-2.result.now in
    let are : addrs ≡ symbol_addresses machine m c.args.base
    = c.deref-2.ensures.value
    ∙ addresses-are machine c.args.table.now keeps m c.args.base c.deref.result.now
    c.in_ok-addresses.addresses.items c.symbol_count.result
    (c.deref.ensures.value ∙ c.in_ok-given.ensures) c.symbol_count.ensures
    c.in_ok-addresses.ensures in
    fits-is machine m c.args.base addrs are c.in-Ok.ensures.fits
