use Rattle.std.proofs.Common.{◌≡◌, ◌+◌, ◌<◌, ◌≤◌, ℕ, length, get_or}
use Rattle.std.specs.Prelude.{◌||◌}
use Rattle.relation_order.specs.Sets.{goes}
use Rattle.relation_order.specs.Components.{state_of}
use Rattle.relation_order.specs.declared.components.State.TheVariants.{Done}
use Rattle.relation_order.proofs.components.finish.Given as goal

abbrev pub invariant-loop-item : goal.invariant-loop-item
invariant-loop-item l =
    record {
      long : length l.states.items ≡ length l.lists;
      finished : (p : ℕ) → l.from ≤ p → p < l.from + l.item-index
          → state_of l.states.items (get_or l.stack p 0)
          ≡ Done (l.many || goes l.lists (get_or l.stack p 0) (get_or l.stack p 0));
      rest : (x : ℕ) → ((p : ℕ) → l.from ≤ p → p < length l.stack → get_or l.stack p 0 ≡ x → ⊥)
          → state_of l.states.items x ≡ state_of l.fn.states.items x;
    }
