use Rattle.std.proofs.Common.{◌≡◌, ◌∙◌, ◌<◌, ◌+◌, ◌++◌, ◌∷◌, [], ℕ, Bool, inl, inr, ap, sym, arith}
use Rattle.std.proofs.Common.{length}
use Rattle.remove_plan.specs.Marks.{is_marked}
use Rattle.remove_plan.specs.Removal.{is_asked}
use Rattle.model_loader.proofs.PlaceLemmas.{length-pushed}
use Rattle.remove_plan.proofs.MarkLemmas.{asked-by, asked-end, asked-more}
use Rattle.remove_plan.proofs.asked.asked.Goals as goal

pub loop-k-preserved : goal.loop-k-preserved
loop-k-preserved c =
    let machine = c.args.machine.now in
    let names = c.args.names.now in
    let k = c.loop-k.k in
    let inv = c.loop-k.invariant in
    record {
      counted
          = ap length c.in_ok-push.ensures.items
          ∙ length-pushed c.loop-k.marks.items c.is_asked.result ∙ ap (λ n. n + 1) inv.counted;
      at
          = asked-more machine names k c.loop-k.marks.items _ c.is_asked.result inv.counted
          c.in_ok-push.ensures.items
          (c.is_asked.ensures ∙ asked-by machine c.in_ok-set.set names c.in_ok-set.ensures k)
          inv.at;
    }

pub returns : goal.returns
returns c =
    let machine = c.args.machine.now in
    let inv = c.loop-k.invariant in
    let counted : length c.loop-k.marks.items ≡ length machine.entries
    = omega (
      arith,
      inv.counted,
      c.loop-k-test.false,
      c.loop-k.auto.k-end,
      c.module_count-k-end.ensures,
    ) in
    record {
      counted = counted;
      at
          = asked-end machine c.args.names.now c.loop-k.marks.items counted
          (λ i less. inv.at i (omega (arith, less, inv.counted)));
    }
