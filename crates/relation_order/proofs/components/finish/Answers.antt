use Rattle.std.proofs.Common.{◌≡◌, ◌<◌, ◌≤◌, ◌-◌, ◌+◌, length, get_or, take, drop, sym, ap, ◌∙◌}
use Rattle.std.proofs.Common.{arith}
use Rattle.std.proofs.lemmas.List.{length-take, length-drop, length-set}
use Rattle.std.specs.Prelude.{◌||◌, nat_lt}
use Rattle.std.proofs.lemmas.Bool.Decides.{nat_tests}
use Rattle.relation_order.specs.Sets.{goes, has}
use Rattle.relation_order.specs.declared.components.State.TheVariants.{Done}
use Rattle.relation_order.proofs.Lists.{goes-at}
use Rattle.relation_order.proofs.FinishSteps.{rest-at, first-true, first-false, finished-more}
use Rattle.relation_order.proofs.FinishSteps.{rest-same}
use Rattle.relation_order.proofs.components.finish.Goals as goal
use Rattle.relation_order.proofs.components.finish.Goals.{then-many, else-many}

pub loop-item-preserved : goal.loop-item-preserved
loop-item-preserved c =
    let l = c.loop-item in
    let stack = c.args.stack.now in
    let from = c.args.from in
    let x = get_or (take (length stack - from) (drop from stack)) l.item-index 0 in
    let few : l.item-index < length stack - from
    = omega (arith, c.loop-item-test.true, length-take (length stack - from) (drop from stack))
    in
    let at = rest-at stack from l.item-index few in
    let low : x < length c.args.lists.now
    = rw at (c.requires.within (from + l.item-index) 0 (omega arith)) in
    let inside : x < length l.states.items = omega (arith, l.invariant.long) in
    let is : c.if-many.value ≡ (nat_lt (from + 1) (length stack) || goes c.args.lists.now x x)
    = elim c.if-many.branch [
      | then-many w ↦ w.value-is
          ∙ first-true (nat_lt (from + 1) (length stack)) (goes c.args.lists.now x x)
          (let more = w.if-many.true in grind (arith, nat_tests))
      | else-many w ↦
          w.value-is ∙ w.stands_in.ensures ∙ ap (λ ys. has ys x) w.deref.ensures.value
          ∙ sym (goes-at c.args.lists.now x x w.index-lists-item.result low w.index-lists-item.is)
          ∙ first-false (nat_lt (from + 1) (length stack)) (goes c.args.lists.now x x)
          (let no = w.if-many.false in grind (arith, nat_tests))
    ] in
    record {
      long = length-set l.states.items x (Done c.if-many.value) ∙ l.invariant.long;
      finished
          = finished-more (goes c.args.lists.now) (nat_lt (from + 1) (length stack)) c.if-many.value
          l.states.items stack from l.item-index x at inside is l.invariant.finished;
      rest
          = rest-same (goes c.args.lists.now) (nat_lt (from + 1) (length stack)) c.if-many.value
          l.states.items stack from l.item-index x at inside is c.args.states.now.items
          (omega arith) l.invariant.rest;
    }

pub returns-clause-finished : goal.returns-clause-finished
returns-clause-finished c =
    let stack = c.args.stack.now in
    let from = c.args.from in
    let l = c.loop-item in
    let end : length stack - from ≤ l.item-index
    = omega (
      arith,
      c.loop-item-test.false,
      length-take (length stack - from) (drop from stack),
      length-drop from stack,
    ) in
    record {
      finished = λ p above low. l.invariant.finished p above (omega arith);
      rest = l.invariant.rest;
    }

pub bounds-lists-item : goal.bounds-lists-item
bounds-lists-item c =
    let stack = c.args.stack.now in
    let from = c.args.from in
    let k = c.loop-item.item-index in
    let few : k < length stack - from
    = omega (arith, c.loop-item-test.true, length-take (length stack - from) (drop from stack))
    in
    rw (rest-at stack from k few) (c.requires.within (from + k) 0 (omega arith))

pub index_mut-requires : goal.index_mut-requires
index_mut-requires c =
    let stack = c.args.stack.now in
    let from = c.args.from in
    let k = c.loop-item.item-index in
    let few : k < length stack - from
    = omega (arith, c.loop-item-test.true, length-take (length stack - from) (drop from stack))
    in
    let low : get_or (take (length stack - from) (drop from stack)) k 0 < length c.args.lists.now
    = rw (rest-at stack from k few) (c.requires.within (from + k) 0 (omega arith)) in
    omega (arith, c.loop-item.invariant.long, c.loop-item.states.ok.0, low)
