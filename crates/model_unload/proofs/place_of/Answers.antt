use Rattle.std.proofs.Common.{◌≡◌, ◌∙◌, ◌<◌, false, length, sym, ap, subst}
use Rattle.std.specs.Str.{bytes_eq}
use Rattle.model_unload.specs.Unload.{is_named_at}
use Rattle.model_loader.proofs.PlaceLemmas.{find-later}
use Rattle.model_unload.proofs.UnloadLemmas.{named-at}
use Rattle.model_unload.proofs.place_of.Goals as goal

pub loop-k-preserved : goal.loop-k-preserved
loop-k-preserved c =
    let machine = c.args.machine.now in
    let name = c.args.name.now in
    let k = c.loop-k.k in
    let less : k < length machine.entries
    = subst (λ n. k < n) c.module_count-k-end.ensures c.loop-k-test.true in
    let differs : bytes_eq c.module_at.result.now.name name ≡ false
    = ap (λ l. bytes_eq l name) (sym c.as_bytes.ensures) ∙ sym c.eq.ensures ∙ c.if-eq.false in
    let other : is_named_at machine name k ≡ false
    = sym (named-at machine name k c.module_at.result.now c.module_at.ensures) ∙ differs in
    find-later (is_named_at machine name) k (length machine.entries) less other c.loop-k.invariant
