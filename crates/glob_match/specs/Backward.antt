-- A file that is read from its last byte to its first, as a pattern.
-- It belongs to the code: no public meaning rests on it.
use Rattle.std.specs.Prelude.{◌≡◌, ◌≢◌, ℕ, suc, ◌+◌, ◌/◌, ◌<◌, ◌≤◌, List, length, slice_index}
use Rattle.std.specs.Prelude.{vec_len}
use Rattle.glob_pattern.specs.Pattern.{closing}
use Rattle.glob_pattern.specs.Parts.{is_listed}
use Rattle.glob_match.specs.Words.{HasBits}
use Rattle.glob_match.specs.Ends.{is_end, part}
use Rattle.glob_match.specs.declared.ahead.Ahead.{Ahead}
use Rattle.glob_match.specs.declared.backward.Backward.{Backward}

-- The words have the places of the text whose bytes the items list, from a place of the file on up
-- to another.
abbrev pub AreListed : List ℕ → List ℕ → ℕ → ℕ → List ℕ → Type 0
AreListed file text at close words =
    HasBits words (λ t. is_listed (part file at close) (slice_index text t))

-- A bracket closes the set that is open at a place: what its items list from there on, and what
-- follows it.
pub record IsSetClosed (file text : List ℕ) (at to : ℕ) (a : Ahead) : Type 0 where
  pub bracket : slice_index file a.close ≡ closing
  pub after : HasBits a.after.items (λ t. is_end (part file (a.close + 1) to) text (suc t))
  pub first : AreListed file text at a.close a.first.items
  pub second : at + 1 ≤ a.close → AreListed file text (at + 1) a.close a.second.items
  pub third : at + 2 ≤ a.close → AreListed file text (at + 2) a.close a.third.items

-- What is ahead of a place, up to the end of the pattern.
pub record IsAhead (file text : List ℕ) (at to : ℕ) (a : Ahead) : Type 0 where
  pub low : at ≤ a.close
  pub high : a.close ≤ to
  pub items : (k : ℕ) → at ≤ k → k < a.close → slice_index file k ≢ closing
  pub closed : a.close < to → IsSetClosed file text at to a

-- There are so many words in each list.
pub record AreSized (count : ℕ) (a : Ahead) : Type 0 where
  pub after : vec_len a.after ≡ count
  pub first : vec_len a.first ≡ count
  pub second : vec_len a.second ≡ count
  pub third : vec_len a.third ≡ count

-- It stands at a place of the file, at most the end of the pattern, with its words.
pub record IsReady (size : ℕ) (file : List ℕ) (at : ℕ) (b : Backward) : Type 0 where
  pub low : at ≤ b.to
  pub within : b.to ≤ length file
  pub ends : vec_len b.ends ≡ size / 64 + 1
  pub ahead : AreSized (size / 64 + 1) b.ahead

-- It has the ends of the text that match the file from a place on.
pub record IsBackward (file text : List ℕ) (at : ℕ) (b : Backward) : Type 0 where
  pub ends : HasBits b.ends.items (is_end (part file at b.to) text)
  pub ahead : IsAhead file text at b.to b.ahead
