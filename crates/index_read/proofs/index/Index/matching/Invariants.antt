use Rattle.std.proofs.Common.{◌≡◌, ℕ, ◌+◌, ◌≤◌, List, length, Option, None}
use Rattle.index_format.specs.Check.{index_fault}
use Rattle.index_format.specs.Map.{Value}
use Rattle.index_read.specs.declared.search.FoundNode.{FoundNode}
use Rattle.index_read.specs.declared.search.Search.{Search}
use Rattle.index_read.specs.Keys.{Item, all_items}
use Rattle.index_read.specs.Values.{found_values}
use Rattle.index_read.proofs.GoingLemmas.{IsGoing, owed, to_do}
use Rattle.index_read.proofs.MatchLemmas.{Onward}
use Rattle.index_read.proofs.index.Index.matching.Given as goal

-- the values so far with those of the nodes that are left
pub record Matching (b text : List ℕ) (s : Search) (next : Option FoundNode) (found : List Value)
    (before now : ℕ) : Type 0 where
  pub accepted : index_fault b ≡ None
  pub is : List Item
  pub going : IsGoing b text s next is
  pub onward : Onward b text is found
  pub cost : now + owed b s next ≤ before + length (all_items b)

abbrev pub invariant-loop-next : goal.invariant-loop-next
invariant-loop-next g l =
    Matching l.self.nodes l.text l.search l.next (found_values l.found.items) l.fn.steps l.steps

abbrev pub decreases-loop-next : goal.decreases-loop-next
decreases-loop-next g l = to_do l.self.nodes l.search l.next
