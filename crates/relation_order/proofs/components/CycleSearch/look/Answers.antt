use Rattle.std.proofs.Common.{sym, ◌∙◌, arith}
use Rattle.std.proofs.lemmas.List.{get_or_read}
use Rattle.relation_order.specs.Sets.{marked}
use Rattle.relation_order.specs.declared.components.State.TheVariants.{New}
use Rattle.relation_order.proofs.ComponentSearch.{looked-new, looked-open, looked-outside}
use Rattle.relation_order.proofs.components.CycleSearch.look.Goals as goal

pub returns-in_ok-enter-in-New-clause-search : goal.returns-in_ok-enter-in-New-clause-search
returns-in_ok-enter-in-New-clause-search c = λ r looked step s.
    looked-new r looked c.args.members.now c.args.self.now c.enter.new.self c.args.at c.args.target
    c.if-members-target.true (omega (arith, c.requires.long, c.requires.target))
    (sym (get_or_read c.args.self.now.states.items c.args.target c.index.result.now
    (omega (arith, c.requires.long, c.requires.target)) c.index.ensures New)
    ∙ c.in-New.is) c.requires.last c.requires.at c.in_ok-enter-in-New.ensures step s

pub returns-in-Open-clause-search : goal.returns-in-Open-clause-search
returns-in-Open-clause-search c = λ r looked step s.
    looked-open r looked (marked c.args.members.now) c.args.self.now.states.items
    c.args.self.now.stack.items c.args.self.now.starts.items c.drop_above.new.starts.items
    c.args.self.now.path.items c.args.at c.args.target c.in-Open.place
    (sym (get_or_read c.args.self.now.states.items c.args.target c.index.result.now
    (omega (arith, c.requires.long, c.requires.target)) c.index.ensures New)
    ∙ c.in-Open.is) c.requires.last c.requires.at c.drop_above.ensures step s

pub returns-else-members-target-clause-search : goal.returns-else-members-target-clause-search
returns-else-members-target-clause-search c = λ r looked step s.
    looked-outside r looked c.args.members.now c.args.self.now.states.items
    c.args.self.now.stack.items c.args.self.now.starts.items c.args.self.now.path.items
    c.args.at c.args.target c.if-members-target.false c.requires.at s
