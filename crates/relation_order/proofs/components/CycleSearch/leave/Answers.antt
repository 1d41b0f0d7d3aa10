use Rattle.std.proofs.Common.{arith, sym, ◌∙◌, subst}
use Rattle.relation_order.specs.Sets.{goes}
use Rattle.relation_order.specs.Components.{Finishes}
use Rattle.relation_order.proofs.ComponentSearch.{left-later, left-whole}
use Rattle.relation_order.proofs.components.CycleSearch.leave.Goals as goal

pub returns-then-ends_in-clause-search : goal.returns-then-ends_in-clause-search
returns-then-ends_in-clause-search c = λ looked all seen s.
    left-whole (goes c.args.lists.now) looked all c.args.self.now.states.items
    c.finish.new.states.items c.args.self.now.stack.items c.truncate.new.self.items
    c.args.self.now.starts.items c.pop.new.self.items c.deref.result.now
    c.args.self.now.path.items c.args.at c.args.self.now.starts.len c.pop.result
    c.deref.ensures.value (omega (arith, c.args.self.now.starts.ok.0))
    (sym c.ends_in.ensures ∙ c.if-ends_in.true) c.pop.ensures.items (c.pop.ensures.value 0)
    c.truncate.ensures.items
    (subst (λ xs. Finishes (goes c.args.lists.now) xs c.args.at c.args.self.now.states.items
    c.finish.new.states.items) c.deref-then-ends_in.ensures.value c.finish.ensures.finished)
    seen s

pub returns-else-ends_in-clause-search : goal.returns-else-ends_in-clause-search
returns-else-ends_in-clause-search c = λ looked all seen s.
    left-later (goes c.args.lists.now) looked all c.args.self.now.states.items
    c.args.self.now.stack.items c.args.self.now.starts.items c.deref.result.now
    c.args.self.now.path.items c.args.at c.deref.ensures.value
    (sym c.ends_in.ensures ∙ c.if-ends_in.false) seen s
