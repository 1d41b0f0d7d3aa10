use Rattle.std.proofs.Common.{◌≡◌, ℕ, ◌+◌, ◌≤◌, List, length, ◌++◌, Option, None}
use Rattle.index_format.specs.Check.{index_fault}
use Rattle.index_format.specs.Listing.{KeyValue}
use Rattle.index_nodes.specs.declared.node.Node.{Node}
use Rattle.index_read.specs.declared.walk.KeyWalk.{KeyWalk}
use Rattle.index_read.specs.Keys.{all_items}
use Rattle.index_read.proofs.RoundLemmas.{to_do, owed, IsGoing}
use Rattle.index_read.specs.Values.{shown_pairs}
use Rattle.index_read.proofs.ListingLemmas.{Chosen}
use Rattle.index_read.proofs.index.Index.all.Given as goal

abbrev pub Every : List ℕ → Type 0
Every key = Unit {0}

-- the pairs so far with those of the nodes that are left are the pairs of all nodes
pub record Listing (b : List ℕ) (w : KeyWalk) (next : Option Node) (found : List KeyValue)
    (before now : ℕ) : Type 0 where
  pub accepted : index_fault b ≡ None
  pub going : IsGoing b w next
  pub onward : (ps : List KeyValue) → Chosen b Every (to_do b w next) ps
      → Chosen b Every (all_items b) (found ++ ps)
  pub cost : now + owed b w next ≤ before + length (all_items b)

abbrev pub invariant-loop-next : goal.invariant-loop-next
invariant-loop-next g l =
    Listing l.self.nodes l.walk l.next (shown_pairs l.found.items) l.fn.steps l.steps

abbrev pub decreases-loop-next : goal.decreases-loop-next
decreases-loop-next g l = length (to_do l.self.nodes l.walk l.next)
