use Rattle.std.proofs.Common.{◌+◌, ◌*◌, ◌≤◌, List, ℕ, vec_len}
use Rattle.index_read.specs.declared.search.Search.{Search}
use Rattle.index_read.specs.Keys.{Item}
use Rattle.index_read.specs.Searches.{IsSearching, count_left}
use Rattle.index_read.proofs.SearchLemmas.{Sought}
use Rattle.index_read.proofs.search.Search.next.Given as goal

-- the nodes so far were passed over, and each that was read is one of them
pub record Seeking (b : List ℕ) (start now : Search) (before steps : ℕ) : Type 0 where
  pub on : (text : List ℕ) (is : List Item) → IsSearching b text start is → Sought b text is now
  pub cost : steps + count_left b now.levels.items ≤ before + count_left b start.levels.items

abbrev pub invariant-loop-level : goal.invariant-loop-level
invariant-loop-level g l = Seeking l.nodes l.fn.self l.self l.fn.steps l.steps

abbrev pub decreases-loop-level : goal.decreases-loop-level
decreases-loop-level g l = 2 * count_left l.nodes l.self.levels.items + vec_len l.self.levels
