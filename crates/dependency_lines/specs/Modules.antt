-- The modules of a folder as modules.dep.bin has them: under the name of each its dependency line,
-- with its number in the tree as priority. modules.dep(5), depmod(8).
use Rattle.std.specs.Prelude.{ℕ, ◌&&◌, not, nat_le, Bool, false, List, [], ◌∷◌, map, if◌then◌else◌}
use Rattle.std.specs.Prelude.{slice_get, slice_index_or, Option, option_map}
use Rattle.std.specs.List.{find, flat_map, list_all, position}
use Rattle.std.specs.Option.{option_map_or, option_to_list}
use Rattle.std.specs.FinMap.{entries}
use Rattle.std.specs.Str.{bytes_eq}
use Rattle.km_names.specs.Path.{module_name}
use Rattle.mod_tree.specs.DependencyLine.{is_dependency_line, own_path, line_needs}
use Rattle.index_format.specs.Map.{Value, KeyValues, values_of}
use Rattle.index_format.specs.Listing.{KeyValue}
use Rattle.name_lookup.specs.Maps.{has_value}

-- A key with its first value, if it has one.
abbrev pub first_value : List ℕ → List Value → List KeyValue
first_value key [] = []
first_value key (v ∷ vs) = (key, v) ∷ []

-- Each key that has a value, with its first one, in the order of the keys' bytes.
abbrev pub first_values : KeyValues → List KeyValue
first_values dep = flat_map (λ e. first_value e.0 e.1) (entries dep)

-- Modules with one more, which goes before the first one whose number isn't less.
abbrev pub insert_module : KeyValue → List KeyValue → List KeyValue
insert_module m [] = m ∷ []
insert_module m (n ∷ ns) = if nat_le m.1.0 n.1.0 then m ∷ n ∷ ns else n ∷ insert_module m ns

-- The modules by their numbers in the tree. Modules of one number keep their order.
abbrev pub by_number : List KeyValue → List KeyValue
by_number [] = []
by_number (m ∷ ms) = insert_module m (by_number ms)

-- The modules of the map, by their numbers in the tree, and then by the bytes of their names.
unfoldable pub modules_of : KeyValues → List KeyValue
modules_of dep = by_number (first_values dep)

-- The module at a place. There is none past the last.
abbrev pub module_at : List KeyValue → ℕ → KeyValue
module_at modules x = slice_index_or modules x ([], (0, []))

-- The name of the module at a place.
abbrev pub name_at : List KeyValue → ℕ → List ℕ
name_at modules x = (module_at modules x).0

-- Its dependency line.
abbrev pub line_at : List KeyValue → ℕ → List ℕ
line_at modules x = (module_at modules x).1.1

-- Its path, the first of its dependency line.
abbrev pub path_at : List KeyValue → ℕ → List ℕ
path_at modules x = own_path (line_at modules x)

-- The place of the module of this name.
abbrev pub place_of : List KeyValue → List ℕ → Option ℕ
place_of modules name = position (λ m. bytes_eq m.0 name) modules

-- The places of the names that are modules.
abbrev pub places_of : List KeyValue → List (List ℕ) → List ℕ
places_of modules names = flat_map (λ name. option_to_list (place_of modules name)) names

-- The names of the modules that a dependency line needs.
abbrev pub needed_names : List ℕ → List (List ℕ)
needed_names line = map module_name (line_needs line)

-- The places of the modules that the dependency line of a module names after its `:`.
abbrev pub line_places : List KeyValue → ℕ → List ℕ
line_places ms x = places_of ms (needed_names (line_at ms x))

-- Whether a text is the dependency line of the module of this name, and each module that it needs
-- passes a test.
abbrev pub is_line_of : (List ℕ → Bool) → List ℕ → List ℕ → Bool
is_line_of has name line =
    is_dependency_line line
    && (bytes_eq (module_name (own_path line)) name && list_all has (needed_names line))

-- Whether a name has a value that is the dependency line of its module, and each module that the
-- line needs has a value.
abbrev pub is_well_formed : KeyValues → List ℕ → Bool
is_well_formed dep name =
    option_map_or (λ (v : Value). is_line_of (has_value dep) name v.1)
    (slice_get (values_of dep name) 0) false

-- The first of some modules, by the bytes of their names, whose value isn't such a line.
abbrev pub bad_among : (List ℕ → Bool) → List KeyValue → Option (List ℕ)
bad_among has ms = option_map (λ m. m.0) (find (λ m. not (is_line_of has m.0 m.1.1)) ms)

-- The first name whose value isn't such a line.
abbrev pub bad_name : KeyValues → Option (List ℕ)
bad_name dep = bad_among (has_value dep) (first_values dep)
