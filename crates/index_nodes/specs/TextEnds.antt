-- The ends of texts, by the blocks of a file: a part of the invariant of `Nodes`.
use Rattle.std.specs.Prelude.{◌≡◌, ◌≢◌, ℕ, ◌+◌, ◌*◌, ◌/◌, ◌<◌, ◌≤◌, List, length, vec_len, min}
use Rattle.std.specs.Prelude.{slice_index}
use Rattle.index_nodes.specs.declared.text_ends.TextEnds.{TextEnds}
use Rattle.index_nodes.specs.declared.text_ends.TheConstants.{BLOCK}

-- The text from a place on ends before this one: at the first NUL, or at the end of the file if
-- there is none.
pub record IsTextEnd (b : List ℕ) (start end : ℕ) : Type 0 where
  pub low : start ≤ end
  pub high : end ≤ length b
  pub clear : (k : ℕ) → start ≤ k → k < end → slice_index b k ≢ 0
  pub nul : end < length b → slice_index b end ≡ 0

-- The place of a block, or the end of the file if that is before it.
abbrev pub block_start : List ℕ → ℕ → ℕ
block_start b block = min (block * BLOCK) (length b)

-- Each entry is the end of the text that begins with its block, and the last block begins at the
-- end of the file.
pub record AreTextEnds (b : List ℕ) (t : TextEnds) : Type 0 where
  pub count : vec_len t.ends ≡ length b / BLOCK + 2
  pub each : (block : ℕ) → block < vec_len t.ends
      → IsTextEnd b (block_start b block) (slice_index t.ends.items block)
