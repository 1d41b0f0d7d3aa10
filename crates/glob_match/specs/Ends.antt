-- Which ends of a text match what stands in a file, as patterns.
-- The contract of `Progress` cites it; no lookup does.
use Rattle.std.specs.Prelude.{ℕ, ◌+◌, ◌-◌, ◌/◌, ◌≤◌, ◌&&◌, nat_le, Bool, false, List, length, take}
use Rattle.std.specs.Prelude.{drop, Option, None}
use Rattle.std.specs.List.{AllByRecursion}
use Rattle.std.specs.Option.{option_map_or}
use Rattle.glob_pattern.specs.Parts.{Part, parts_from, parts_take}
use Rattle.glob_match.specs.Words.{HasBits}
use Rattle.glob_match.specs.declared.ends.End.{End}
use Rattle.glob_match.specs.declared.ends.Ends.{Ends}

-- The bytes of a file from a place up to another.
abbrev pub part : List ℕ → ℕ → ℕ → List ℕ
part file at to = take (to - at) (drop at file)

-- Whether the parts, if there are any, take the text from a place on, which isn't past its end.
abbrev pub take_end : Option (List Part) → List ℕ → ℕ → Bool
take_end parts text t =
    nat_le t (length text) && option_map_or (λ ps. parts_take ps (drop t text)) parts false

-- Whether the text from a place on matches the pattern.
abbrev pub is_end : List ℕ → List ℕ → ℕ → Bool
is_end pattern text t = take_end (parts_from None pattern) text t

-- The words have a bit for each place of the text from which on it matches this part of the file.
pub record IsEnd (file text words : List ℕ) (e : End) : Type 0 where
  pub within : e.start + (length text / 64 + 1) ≤ length words
  pub bits : HasBits (take (length text / 64 + 1) (drop e.start words))
      (is_end (part file e.at e.to) text)

-- All parts that are known have their words.
abbrev pub AreEnds : List ℕ → List ℕ → Ends → Type 0
AreEnds file text e = AllByRecursion (IsEnd file text e.words.items) e.ends.items
