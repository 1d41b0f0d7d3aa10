use Rattle.std.proofs.Common.{◌≡◌, ℕ, ◌+◌, List}
use Rattle.std.specs.List.{AllByRecursion}
use Rattle.glob_match.specs.Runs.{AreItems}
use Rattle.glob_match.specs.declared.set_items.Items.{Items}
use Rattle.glob_match.proofs.runs.find_items.Given as goal

-- the items from the places after one on are known
pub record Known (b : List ℕ) (items : List Items) (next second third : Items) (at : ℕ) : Type 0
  where
    pub next_is : AreItems b next
    pub next_start : next.start ≡ at
    pub second_is : AreItems b second
    pub second_start : second.start ≡ at + 1
    pub third_is : AreItems b third
    pub third_start : third.start ≡ at + 2
    pub all : AllByRecursion (AreItems b) items

abbrev pub invariant-loop-at : goal.invariant-loop-at
invariant-loop-at l = Known l.bytes l.items.items l.next l.second l.third l.at
