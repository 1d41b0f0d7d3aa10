-- The places of modules by their numbers.
-- It belongs to the code: no public meaning rests on it.
use Rattle.std.specs.Prelude.{◌≡◌, ℕ, ◌<◌, false, List, All, length, slice_index, slice_index_or}
use Rattle.std.specs.Prelude.{Option, Some, None, IfSome, IfNone}
use Rattle.std.specs.List.{list_any}
use Rattle.std.specs.Str.{bytes_eq}
use Rattle.name_table.specs.NameTable.{Table}
use Rattle.index_format.specs.Listing.{KeyValue}
use Rattle.dependency_lines.specs.Modules.{name_at}
use Rattle.dependency_lines.specs.Tables.{at_places, IsNamed, NamesRise}

-- The number of the module at a place.
abbrev pub number_at : List KeyValue → ℕ → KeyValue → ℕ
number_at lines place other = (slice_index_or lines place other).1.0

-- Under the number of each of the first modules, this many, is its place. What is under another
-- number is no place.
pub record ArePlaces (lines : List KeyValue) (places : List ℕ) (count : ℕ) : Type 0 where
  pub long : length places ≡ length lines
  pub back : (place : ℕ) (other : KeyValue) → place < count
      → (number_at lines place other < length lines)
      × (slice_index places (number_at lines place other) ≡ place)
  pub there : (number : ℕ) (other : KeyValue) → number < length lines
      → slice_index places number < length lines
      → (slice_index places number < count)
      × (number_at lines (slice_index places number) other ≡ number)

-- The places from 0 on, this many.
pub record AreFirst (count : ℕ) (places : List ℕ) : Type 0 where
  pub long : length places ≡ count
  pub each : (place : ℕ) → place < count → slice_index places place ≡ place

-- The number of the module of a name, or no module has the name.
abbrev pub IsNumberOf : List KeyValue → List ℕ → Option ℕ → Type 0
IsNumberOf lines name None = list_any (λ m. bytes_eq m.0 name) lines ≡ false
IsNumberOf lines name (Some number) =
    (place : ℕ) × (place < length lines) × (name_at lines place ≡ name)
    × ((other : KeyValue) → number_at lines place other ≡ number)

-- Lines, with the place of each module's line. Either a table has the names of the modules, or the
-- names of the lines rise and the numbers of modules are their places.
pub record IsKept (lines : List KeyValue) (places : List ℕ) (names : Option Table) : Type 0 where
  pub inside : All (λ place. place < length lines) places
  pub named : IfSome names (λ table. IsNamed table (at_places lines places))
  pub rise : IfNone names (NamesRise lines)
  pub are : IfNone names (ArePlaces lines places (length lines))
