use Rattle.std.proofs.Common.{◌≡◌, ◌≤◌, ◌<◌, ◌-◌, ℕ, true, length}
use Rattle.std.specs.Prelude.{All, not}
use Rattle.remove_plan.specs.Marks.{AreUsed, is_marked}
use Rattle.remove_plan.specs.Removal.{among, members_below, removed}
use Rattle.remove_plan.proofs.members.removed.Given as goal

abbrev pub invariant-loop-done : goal.invariant-loop-done
invariant-loop-done l = record {
  counted : l.count ≡ length l.machine.entries;
  members : members_below l.machine (is_marked l.asked) (l.count - l.done) l.going.items
      ≡ removed l.machine (is_marked l.asked);
  above : (u : ℕ) → among l.going.items u ≡ true → l.count - l.done ≤ u;
  within : All (λ (j : ℕ). j < length l.machine.entries) l.going.items;
  used : AreUsed l.machine (among l.going.items) (l.count - l.done) l.used.items;
  kept : AreUsed l.machine (λ u. not (among l.going.items u)) (l.count - l.done) l.kept.items;
}
