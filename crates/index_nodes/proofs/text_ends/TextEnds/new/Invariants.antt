use Rattle.std.proofs.Common.{◌≡◌, ℕ, ◌<◌, ◌≤◌, List, length, get_or}
use Rattle.index_nodes.specs.TextEnds.{block_start, IsTextEnd}
use Rattle.index_nodes.proofs.text_ends.TextEnds.new.Given as goal

-- the ends of the blocks from one on are known
pub record Known (b ends : List ℕ) (block end count : ℕ) : Type 0 where
  pub size : length ends ≡ count
  pub here : IsTextEnd b (block_start b block) end
  pub each : (k : ℕ) → block ≤ k → k < count → IsTextEnd b (block_start b k) (get_or ends k 0)

abbrev pub invariant-loop-block : goal.invariant-loop-block
invariant-loop-block l = Known l.bytes l.ends.items l.block l.end l.count
