-- What the front of a set's items, and of a pattern, means for the whole, as the code uses it.
-- It belongs to the code: no public meaning rests on it.
use Rattle.std.specs.Prelude.{◌≡◌, ◌≢◌, ◌≤◌, ◌<◌, ◌↔◌, ◌⊎◌, ℕ, List, ◌∷◌, ◌++◌, length, drop}
use Rattle.std.specs.Prelude.{Contains}
use Rattle.glob_pattern.specs.Pattern.{Lists, Has, Matches, star, question, bracket, closing}
use Rattle.glob_match.specs.declared.element.Element.{Element}
use Rattle.glob_match.specs.declared.element.Element.TheVariants.{Run, Any, Set, Byte}
use Rattle.glob_match.specs.declared.meeting.Meeting.{Meeting}
use Rattle.glob_match.specs.declared.meeting.Meeting.TheVariants.{End, Skips, Takes, Mismatch}
use Rattle.glob_match.specs.declared.meeting.Meeting.TheVariants.{Unclosed}

-- The items begin with this range, and these items follow.
pub record BeginsWith (items : List ℕ) (low high : ℕ) (after : List ℕ) : Type 0 where
  pub listed : (byte : ℕ) → Lists items byte ↔ (((low ≤ byte) × (byte ≤ high)) ⊎ Lists after byte)
  pub shorter : length after < length items

-- The bytes are the inside of a set, its closing bracket and what follows.
pub record Closes (bytes inside after : List ℕ) : Type 0 where
  pub parts : bytes ≡ inside ++ closing ∷ after
  pub first : ¬ Contains inside closing

-- The pattern is this element and what follows it.
abbrev pub IsFirst : List ℕ → Element → List ℕ → Type 0
IsFirst pattern Run after = pattern ≡ star ∷ after
IsFirst pattern Any after = pattern ≡ question ∷ after
IsFirst pattern (Set inside) after =
    (bytes : List ℕ) × (pattern ≡ bracket ∷ bytes) × Closes bytes inside.now after
IsFirst pattern (Byte byte) after =
    (pattern ≡ byte ∷ after) × (byte ≢ star) × (byte ≢ question) × (byte ≢ bracket)

-- The element matches this one byte, whatever follows.
abbrev pub IsMet : Element → ℕ → Type 0
IsMet Run byte = ⊥
IsMet Any byte = Unit {0}
IsMet (Set inside) byte = Has inside.now byte
IsMet (Byte own) byte = byte ≡ own

-- The pattern matches a text exactly if what follows matches some end of it.
pub record IsRun (pattern after : List ℕ) : Type 0 where
  pub shorter : length after < length pattern
  pub ends : (text : List ℕ) → Matches pattern text
      ↔ ((skipped : ℕ) × Matches after (drop skipped text))

-- The pattern matches this text if what follows matches the text's rest. It matches a text only if
-- what follows matches that text's rest.
pub record IsTaken (pattern text after rest : List ℕ) : Type 0 where
  pub shorter : length after < length pattern
  pub rest_is : rest ≡ drop 1 text
  pub rest_shorter : length rest < length text
  pub back : Matches after rest → Matches pattern text
  pub takes_one : (other : List ℕ) → Matches pattern other → Matches after (drop 1 other)

-- What the match of the pattern's first element means for the text.
abbrev pub IsMeeting : List ℕ → List ℕ → Meeting → Type 0
IsMeeting pattern text End = Matches pattern text
IsMeeting pattern text (Skips after) = IsRun pattern after.now
IsMeeting pattern text (Takes after rest) = IsTaken pattern text after.now rest.now
IsMeeting pattern text Mismatch = ¬ Matches pattern text
IsMeeting pattern text Unclosed = (other : List ℕ) → ¬ Matches pattern other
