use Rattle.std.proofs.Common.{◌≡◌, ℕ, List, Option, None}
use Rattle.index_format.specs.Check.{index_fault}
use Rattle.index_format.specs.Map.{Value}
use Rattle.index_read.specs.declared.met.MetValues.{MetValues}
use Rattle.index_read.specs.declared.search.FoundNode.{FoundNode}
use Rattle.index_read.specs.declared.search.Search.{Search}
use Rattle.index_read.specs.Keys.{Item}
use Rattle.index_read.specs.Met.{HasRuns, StandFor, kept}
use Rattle.index_read.proofs.GoingLemmas.{IsGoing, to_do}
use Rattle.index_read.proofs.MatchLemmas.{Onward}
use Rattle.index_read.proofs.distinct.met_matching.Given as goal

-- what is kept stands for the values so far, which with those of the nodes that are left are all
pub record Meeting (b text : List ℕ) (s : Search) (next : Option FoundNode) (m : MetValues) : Type 0
  where
    pub accepted : index_fault b ≡ None
    pub is : List Item
    pub going : IsGoing b text s next is
    pub found : List Value
    pub onward : Onward b text is found
    pub stand : StandFor (kept m) found
    pub runs : HasRuns b m

abbrev pub invariant-loop-next : goal.invariant-loop-next
invariant-loop-next g l = Meeting l.nodes l.text l.search l.next l.met

abbrev pub decreases-loop-next : goal.decreases-loop-next
decreases-loop-next g l = to_do l.nodes l.search l.next
