-- modules.dep and its index: what each module of a tree depends on. modules.dep(5).
use Rattle.std.specs.Prelude.{ℕ, List, [], ◌∷◌, ◌++◌, map, flat_map, reverse, slice_get}
use Rattle.std.specs.List.{zip, enumerate_from}
use Rattle.std.specs.Option.{option_map_or}
use Rattle.index_format.specs.Map.{KeyValues}
use Rattle.index_format.specs.Listing.{KeyValue}
use Rattle.module_facts.specs.declared.facts.Facts.{Facts}
use Rattle.stated_texts.specs.Lines.{lines_text}
use Rattle.stated_texts.specs.Maps.{map_of}

-- A dependency line: the path of a module, a `:`, and the paths of the modules that it needs, each
-- after a space.
abbrev pub dependency_line : List ℕ → List (List ℕ) → List ℕ
dependency_line path needed = path ++ 58 ∷ flat_map (λ other. 32 ∷ other) needed

-- The path of the module at a place of a tree.
abbrev pub path_at : List Facts → ℕ → List ℕ
path_at tree place = option_map_or (λ (f : Facts). f.path) (slice_get tree place) []

-- A module of a tree, with the places of the modules that it depends on, each after those that it
-- depends on itself.
abbrev pub Dependent : Type 0
Dependent = Facts × List ℕ

-- The dependency line of a module. It names the modules that it depends on from the last to the
-- first: each comes before those that it depends on itself.
abbrev pub line_of : List Facts → Dependent → List ℕ
line_of tree m = dependency_line m.0.path (map (path_at tree) (reverse m.1))

-- The text of modules.dep: the dependency line of each module, in the order of the tree.
unfoldable pub dep_text : List Facts → List (List ℕ) → List ℕ
dep_text tree closures = lines_text (map (line_of tree) (zip tree closures))

-- The dependency line of a module under the module's name. Its priority is the module's place in
-- the tree.
abbrev pub dep_value : List Facts → ℕ × Dependent → KeyValue
dep_value tree (place, m) = (m.0.name, (place, line_of tree m))

-- The map of modules.dep.bin: from the name of each module to its dependency line.
unfoldable pub dep_map : List Facts → List (List ℕ) → KeyValues
dep_map tree closures = map_of (map (dep_value tree) (enumerate_from 0 (zip tree closures)))
