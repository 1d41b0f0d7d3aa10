use Rattle.std.proofs.Common.{◌≡◌, false}
use Rattle.relation_order.specs.Components.{SearchOf, KeepsMet, state_of, is_new, work}
use Rattle.relation_order.proofs.components.CycleSearch.search_from.Given as goal

abbrev pub invariant-loop-at : goal.invariant-loop-at
invariant-loop-at l =
    record {
      search : SearchOf l.graph.lists.now l.graph.members.now l.self l.self.path.items;
      met : is_new (state_of l.self.states.items l.start) ≡ false;
      kept : KeepsMet l.fn.self.states.items l.self.states.items;
    }

abbrev pub decreases-loop-at : goal.decreases-loop-at
decreases-loop-at l = work l.graph.lists.now l.self
