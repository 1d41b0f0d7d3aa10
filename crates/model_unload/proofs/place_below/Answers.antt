use Rattle.std.proofs.Common.{◌≡◌, ◌∙◌, ◌-◌, arith, false, length, sym, ap}
use Rattle.std.specs.Str.{bytes_eq}
use Rattle.model_unload.specs.Unload.{is_named_at}
use Rattle.model_unload.proofs.BelowLemmas.{found-below, named-place, not-at}
use Rattle.model_unload.proofs.UnloadLemmas.{named-at}
use Rattle.model_unload.proofs.place_below.Goals as goal

pub loop-k-init : goal.loop-k-init
loop-k-init c = found-below c.args.machine.now c.args.end c.args.name.now c.requires

pub loop-k-preserved : goal.loop-k-preserved
loop-k-preserved c = λ j found.
    let machine = c.args.machine.now in
    let name = c.args.name.now in
    let k = c.loop-k.k - 1 in
    let differs : bytes_eq c.module_at.result.now.name name ≡ false
    = ap (λ l. bytes_eq l name) (sym c.as_bytes.ensures) ∙ sym c.eq.ensures ∙ c.if-eq.false in
    let other : is_named_at machine name k ≡ false
    = sym (named-at machine name k c.module_at.result.now c.module_at.ensures) ∙ differs in
    not-at (is_named_at machine name) (length machine.entries) j c.loop-k.k found
    (c.loop-k.invariant j found) other

pub returns-then-eq : goal.returns-then-eq
returns-then-eq c =
    let machine = c.args.machine.now in
    let name = c.args.name.now in
    named-place machine name (c.loop-k.k - 1) c.module_at.result.now c.requires.names
    (omega (arith, c.loop-k-test.true, c.loop-k.auto.k, c.requires.within)) c.module_at.ensures
    (ap (λ l. bytes_eq l name) (sym c.as_bytes.ensures) ∙ sym c.eq.ensures ∙ c.if-eq.true)
