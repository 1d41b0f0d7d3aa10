use Rattle.std.proofs.Common.{◌≡◌, ◌∙◌, ◌<◌, length, sym, subst, false}
use Rattle.model_loader.specs.Use.{binds}
use Rattle.model_loader.proofs.PlaceLemmas.{find-later}
use Rattle.test_machine.proofs.user_calls.first_user.Goals as goal

pub loop-k-preserved : goal.loop-k-preserved
loop-k-preserved c =
    let machine = c.args.machine.now in
    let k = c.loop-k.k in
    let less : k < length machine.entries
    = subst (λ n. k < n) c.module_count-k-end.ensures c.loop-k-test.true in
    let other : binds machine k c.args.j ≡ false = sym c.binds.ensures ∙ c.if-binds.false in
    find-later (λ k. binds machine k c.args.j) k (length machine.entries) less other
    c.loop-k.invariant
