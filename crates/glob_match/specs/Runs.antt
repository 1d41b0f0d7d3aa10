-- Runs of `*`, and of items of a set, in the bytes of a file.
-- The contract of `Progress` cites it; no lookup does.
use Rattle.std.specs.Prelude.{◌≡◌, ◌≢◌, ◌||◌, ℕ, ◌+◌, ◌*◌, ◌-◌, ◌<◌, ◌≤◌, Bool, List, ◌∷◌, ◌++◌}
use Rattle.std.specs.Prelude.{length, take, drop, slice_index, vec_len}
use Rattle.std.specs.List.{AllByRecursion}
use Rattle.glob_pattern.specs.Pattern.{star, closing}
use Rattle.glob_pattern.specs.Parts.{is_listed}
use Rattle.glob_match.specs.Words.{HasBits}
use Rattle.glob_match.specs.declared.set_items.Items.{Items}
use Rattle.glob_match.specs.declared.runs.Runs.{Runs}
use Rattle.glob_match.specs.declared.runs.TheConstants.{BLOCK}

-- There are only `*` from a place on up to another.
pub record IsRun (b : List ℕ) (start end : ℕ) : Type 0 where
  pub order : start ≤ end
  pub stars : (k : ℕ) → start ≤ k → k < end → slice_index b k ≡ star

-- The items from a place on up to another list these bytes, whatever follows the item there, and
-- no set ends between them.
pub record AreItems (b : List ℕ) (i : Items) : Type 0 where
  pub order : i.start ≤ i.end
  pub inside : (k : ℕ) → i.start < k → k ≤ i.end → slice_index b k ≢ closing
  pub test : ℕ → Bool
  pub words : length i.listed ≡ 4
  pub bits : HasBits i.listed test
  pub lists : (rest : List ℕ) (byte : ℕ)
      → is_listed (take (i.end - i.start) (drop i.start b) ++ slice_index b i.end ∷ rest) byte
      ≡ (test byte || is_listed (slice_index b i.end ∷ rest) byte)

-- What is known of the runs of a file: each end is one of a run that begins with its block.
pub record AreRuns (b : List ℕ) (r : Runs) : Type 0 where
  pub ends : (block : ℕ) → block < vec_len r.ends
      → IsRun b (block * BLOCK) (slice_index r.ends.items block)
  pub items : AllByRecursion (AreItems b) r.items.items

-- A byte was read as one that may begin a range, right before a place, and items from it on go up
-- to another place.
pub record GoOn (b : List ℕ) (from to low : ℕ) (i : Items) : Type 0 where
  pub items : AreItems b i
  pub start : i.start + 1 ≡ from
  pub begin : slice_index b i.start ≡ low
  pub some : from ≤ i.end
  pub high : i.end < to
