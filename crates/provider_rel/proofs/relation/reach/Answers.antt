use Rattle.std.proofs.Common.{◌≡◌, ℕ, List, length, map, sym, ap, subst, ◌∙◌, inr, arith}
use Rattle.std.specs.Global.{Vec}
use Rattle.std.proofs.lemmas.List.{length-map}
use Rattle.relation_order.specs.Sets.{goes, below, marked}
use Rattle.relation_order.specs.Cycle.{cycle}
use Rattle.relation_order.specs.Closures.{closures}
use Rattle.relation_order.specs.Search.{Inside}
use Rattle.relation_order.specs.Answer.{IsAnswer}
use Rattle.provider_rel.specs.Faces.{module_of, modules_of, kernel_of}
use Rattle.provider_rel.specs.Relation.{uses_at, name_at, cycle_fault, dependencies}
use Rattle.provider_rel.proofs.UseLaw.{lists-are}
use Rattle.provider_rel.proofs.MakeSteps.{fault-of-cycle}
use Rattle.provider_rel.proofs.relation.reach.Goals as goal

pub order_or_cycle-requires-clause-inside : goal.order_or_cycle-requires-clause-inside
order_or_cycle-requires-clause-inside c =
    let b = c.args.bindings.now in
    let ls = c.in_ok-lists.lists.items in
    let made = c.in_ok-lists.ensures in
    let facts
    = lists-are c.args.tree.now (kernel_of c.args.kernel.now) b.names b.items.items
    b.bound.items ls c.requires.tree c.requires.bindings.items_are
    c.requires.bindings.names_are c.requires.bindings.bound_are
    (rw (← c.deref.ensures.value, ← c.deref-2.ensures.value) made) in
    let P : List (Vec ℕ) → Type 0 = λ xs. Inside (length xs) xs in
    subst P (sym c.deref-3.ensures.value) facts.inside

pub new-requires-clause-inside : goal.new-requires-clause-inside
new-requires-clause-inside c =
    let b = c.args.bindings.now in
    let ls = c.in_ok-lists.lists.items in
    let facts
    = lists-are c.args.tree.now (kernel_of c.args.kernel.now) b.names b.items.items
    b.bound.items ls c.requires.tree c.requires.bindings.items_are
    c.requires.bindings.names_are c.requires.bindings.bound_are
    (rw (← c.deref.ensures.value, ← c.deref-2.ensures.value) c.in_ok-lists.ensures) in
    let P : List (Vec ℕ) → Type 0 = λ xs. Inside (length xs) xs in
    subst P (sym c.deref-in-Order.ensures.value) facts.inside

pub returns-in-Order-clause-ok : goal.returns-in-Order-clause-ok
unfolding dependencies
returns-in-Order-clause-ok c =
    let b = c.args.bindings.now in
    let T = modules_of c.args.tree.now in
    let K = kernel_of c.args.kernel.now in
    let ls = c.in_ok-lists.lists.items in
    let facts
    = lists-are c.args.tree.now K b.names b.items.items b.bound.items ls c.requires.tree
    c.requires.bindings.items_are c.requires.bindings.names_are
    c.requires.bindings.bound_are
    (rw (← c.deref.ensures.value, ← c.deref-2.ensures.value) c.in_ok-lists.ensures) in
    c.in_ok-new-in-Order.ensures
    ∙ ap (λ xs. closures (goes xs) (length xs)) c.deref-in-Order.ensures.value
    ∙ ap (λ r. closures r (length ls)) facts.goes_is
    ∙ ap (closures (uses_at T K)) (facts.long ∙ sym (length-map c.args.tree.now module_of))

pub returns-in-Order-clause-passed : goal.returns-in-Order-clause-passed
returns-in-Order-clause-passed c =
    let b = c.args.bindings.now in
    let T = modules_of c.args.tree.now in
    let K = kernel_of c.args.kernel.now in
    let ls = c.in_ok-lists.lists.items in
    let facts
    = lists-are c.args.tree.now K b.names b.items.items b.bound.items ls c.requires.tree
    c.requires.bindings.items_are c.requires.bindings.names_are
    c.requires.bindings.bound_are
    (rw (← c.deref.ensures.value, ← c.deref-2.ensures.value) c.in_ok-lists.ensures) in
    let count : c.len.result ≡ length c.args.tree.now
    = omega (arith, c.len.ensures, c.in_ok-lists.lists.ok.0, facts.long) in
    let answer
    = subst (IsAnswer (goes c.deref-3.result.now) (marked c.deref-4.result.now)) c.in-Order.is
    c.in_ok-order.ensures in
    ap (λ r. cycle r (below (length c.args.tree.now))) (sym facts.goes_is)
    ∙ ap (λ xs. cycle (goes xs) (below (length c.args.tree.now))) (sym c.deref-3.ensures.value)
    ∙ ap (cycle (goes c.deref-3.result.now))
    (sym (ap marked c.deref-4.ensures.value ∙ c.in_ok-members.ensures.members ∙ ap below count))
    ∙ answer.0

pub returns-clause-err : goal.returns-clause-err
returns-clause-err c =
    let b = c.args.bindings.now in
    let T = modules_of c.args.tree.now in
    let K = kernel_of c.args.kernel.now in
    let ls = c.in_ok-lists.lists.items in
    let facts
    = lists-are c.args.tree.now K b.names b.items.items b.bound.items ls c.requires.tree
    c.requires.bindings.items_are c.requires.bindings.names_are
    c.requires.bindings.bound_are
    (rw (← c.deref.ensures.value, ← c.deref-2.ensures.value) c.in_ok-lists.ensures) in
    let count : c.len.result ≡ length c.args.tree.now
    = omega (arith, c.len.ensures, c.in_ok-lists.lists.ok.0, facts.long) in
    let answer
    = subst (IsAnswer (goes c.deref-3.result.now) (marked c.deref-4.result.now)) c.in-Cycle.is
    c.in_ok-order.ensures in
    inr (ap (cycle_fault T)
    (ap (λ r. cycle r (below (length c.args.tree.now))) (sym facts.goes_is)
    ∙ ap (λ xs. cycle (goes xs) (below (length c.args.tree.now))) (sym c.deref-3.ensures.value)
    ∙ ap (cycle (goes c.deref-3.result.now))
    (sym (ap marked c.deref-4.ensures.value ∙ c.in_ok-members.ensures.members ∙ ap below count))
    ∙ sym answer.0)
    ∙ fault-of-cycle T (goes c.deref-3.result.now) c.in-Cycle.cycle.items
    c.in_ok-names_at-in-Cycle.field-0 answer.1
    (c.in_ok-names_at-in-Cycle.ensures ∙ ap (map (name_at T)) c.deref-in-Cycle.ensures.value))
