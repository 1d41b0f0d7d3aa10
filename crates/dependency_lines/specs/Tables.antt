-- Modules as the code keeps them.
-- It belongs to the code: no public meaning rests on it.
use Rattle.std.specs.Prelude.{◌≡◌, ℕ, ◌+◌, ◌-◌, ◌^◌, ◌<◌, ◌≤◌, true, List, All, length, map, take}
use Rattle.std.specs.Prelude.{Some, drop, ◌==◌}
use Rattle.std.specs.List.{list_any}
use Rattle.std.specs.Cmp.Lexicographic.{slice_cmp}
use Rattle.std.specs.Ordering.{nat_cmp}
use Rattle.std.specs.declared.cmp.Ordering.TheVariants.{Less}
use Rattle.mod_tree.specs.DependencyLine.{own_path}
use Rattle.index_format.specs.Listing.{KeyValue}
use Rattle.name_table.specs.NameTable.{Table, IsTableOf}
use Rattle.dependency_lines.specs.declared.named_lines.Line.{Line}
use Rattle.dependency_lines.specs.GoodPaths.{begins_line}
use Rattle.dependency_lines.specs.Modules.{module_at, name_at}

-- A module whose name is in a buffer, as a key with its value.
abbrev pub line_in : List ℕ → Line → KeyValue
line_in names line =
    (take (line.end - line.start) (drop line.start names), (line.number, line.text.now))

-- Its name lies in the buffer, and a `:` follows its own path.
pub record IsInside (names : List ℕ) (line : Line) : Type 0 where
  pub order : line.start ≤ line.end
  pub within : line.end ≤ length names
  pub small : line.own < 2 ^ 32
  pub own : line.own ≡ length (own_path line.text.now)
  pub colon : list_any (λ b. b == 58) line.text.now ≡ true

-- A table has the names of modules.
abbrev pub IsNamed : Table → List KeyValue → Type 0
IsNamed names modules = IsTableOf names (map (λ m. Some m.0) modules)

-- The modules at some places.
abbrev pub at_places : List KeyValue → List ℕ → List KeyValue
at_places modules places = map (module_at modules) places

-- Each name is below the next, by their bytes.
abbrev pub NamesRise : List KeyValue → Type 0
NamesRise modules =
    (place : ℕ) → place + 1 < length modules
    → slice_cmp nat_cmp (name_at modules place) (name_at modules (place + 1)) ≡ Less

-- The names rise, and each line begins with the path of the module of its name.
pub record AreLines (modules : List KeyValue) : Type 0 where
  pub rise : NamesRise modules
  pub begin : All (λ m. begins_line m.0 m.1.1 ≡ true) modules
