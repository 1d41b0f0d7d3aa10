-- A pattern that is read byte by byte, and the places of a text that it reaches.
-- The contract of `Progress` cites it; no lookup does.
use Rattle.std.specs.Prelude.{◌≡◌, ℕ, ◌+◌, ◌-◌, ◌/◌, ◌≤◌, ◌&&◌, ◌||◌, not, nat_le, Bool, List, []}
use Rattle.std.specs.Prelude.{◌∷◌, ◌++◌, length, take, drop, slice_index, vec_len, Option, Some}
use Rattle.std.specs.Prelude.{None, if◌then◌else◌}
use Rattle.std.specs.Option.{option_map}
use Rattle.glob_pattern.specs.Pattern.{dash}
use Rattle.glob_pattern.specs.Parts.{Part, parts_from, parts_take, is_listed, is_in_set}
use Rattle.glob_match.specs.Words.{HasBits, HasPlaces}
use Rattle.glob_match.specs.States.{IsKept}
use Rattle.glob_match.specs.declared.place.Place.{Place}
use Rattle.glob_match.specs.declared.place.Place.TheVariants.{Outside, Opened, Inside}
use Rattle.glob_match.specs.declared.place.Pending.{Pending}
use Rattle.glob_match.specs.declared.place.Pending.TheVariants.{Nothing, Low, Dash}
use Rattle.glob_match.specs.declared.progress.Progress.{Progress}
use Rattle.glob_match.specs.declared.progress.Saved.{Saved}

-- Whether the parts take the first bytes of the text, this many.
abbrev pub reaches : List Part → List ℕ → ℕ → Bool
reaches parts text n = nat_le n (length text) && parts_take parts (take n text)

-- The items of a set that aren't decided yet.
abbrev pub pending_items : Pending → List ℕ
pending_items Nothing = []
pending_items (Low low) = low ∷ []
pending_items (Dash low) = low ∷ dash ∷ []

-- The answer of a test, or of its negation.
abbrev pub flip : Bool → Bool → Bool
flip negated t = if negated then not t else t

-- The items of an open set so far: which places of the text they list, from the first one on, and
-- what is pending.
pub record IsOpen (text : List ℕ) (negated : Bool) (first : ℕ) (pending items listed : List ℕ) :
    Type 0 where
  pub test : ℕ → Bool
  pub tests : (rest : List ℕ) (byte : ℕ)
      → is_in_set (items ++ rest) byte
      ≡ flip negated (test byte || is_listed (pending ++ rest) byte)
  pub bits : HasBits listed (λ n. test (slice_index text (first + n)))

-- The set that is open at a place of the pattern, by its items so far.
abbrev pub IsAt : List ℕ → Place → Option (List ℕ) → ℕ → List ℕ → Type 0
IsAt text Outside open_set first listed = open_set ≡ None
IsAt text Opened open_set first listed = open_set ≡ Some []
IsAt text (Inside negated pending) open_set first listed =
    (items : List ℕ) × (open_set ≡ Some items)
    × IsOpen text negated first (pending_items pending) items listed

-- The pattern was read up to here: its parts, which places of the text they reach, and the set that
-- is open.
pub record Stands (text pattern : List ℕ) (place : Place) (first : ℕ) (reached listed : List ℕ) :
    Type 0 where
  pub parts : List Part
  pub open_set : Option (List ℕ)
  pub read : (rest : List ℕ)
      → parts_from None (pattern ++ rest)
      ≡ option_map (λ ps. parts ++ ps) (parts_from open_set rest)
  pub places : HasPlaces first reached (reaches parts text)
  pub set : IsAt text place open_set first listed

-- The text as it is kept: its bytes, and zeros after them.
pub record IsText (text bytes : List ℕ) (size : ℕ) : Type 0 where
  pub size_is : size ≡ length text
  pub same : (n : ℕ) → slice_index bytes n ≡ slice_index text n

-- Each place that may be kept has a byte.
pub record IsWhole (p : Progress) : Type 0 where
  pub kept : IsKept p.size p.state
  pub padded : p.size + 64 ≤ vec_len p.bytes

-- The progress is over this text.
abbrev pub IsOver : Progress → List ℕ → Type 0
IsOver p text = IsText text p.bytes.items p.size

-- The progress has read this pattern.
abbrev pub HasRead : Progress → List ℕ → List ℕ → Type 0
HasRead p text pattern =
    Stands text pattern p.place p.state.first p.state.reached.items p.state.listed.items

-- A progress that was saved with these words had read this pattern.
pub record WasRead (text pattern : List ℕ) (saved : Saved) (words : List ℕ) : Type 0 where
  pub size : length words ≡ saved.count + saved.count
  pub low : saved.first ≤ length text
  pub few : saved.count ≤ (length text - saved.first) / 64 + 1
  pub stands : Stands text pattern saved.place saved.first (take saved.count words)
      (drop saved.count words)

-- The words of the progress were added at the end.
pub record IsSaved (p : Progress) (saved : Saved) (old new : List ℕ) : Type 0 where
  pub words : List ℕ
  pub added : new ≡ old ++ words
  pub read : (text pattern : List ℕ) → IsOver p text → HasRead p text pattern
      → WasRead text pattern saved words
