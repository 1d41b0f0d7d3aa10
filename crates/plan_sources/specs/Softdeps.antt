-- The modules that names of soft dependencies are resolved to, as the code keeps them.
-- It belongs to the code: no public meaning rests on it.
use Rattle.std.specs.Prelude.{◌≡◌, ℕ, Bool, List, [], filter, length, slice_index_or}
use Rattle.std.specs.Prelude.{Option, Some, None, option_map, Vec, if◌then◌else◌}
use Rattle.std.specs.Map.{lookup}
use Rattle.std.specs.Str.{bytes_eq}
use Rattle.std.specs.declared.alloc.Global.{Global}
use Rattle.name_table.specs.declared.key.NameKey.{NameKey}
use Rattle.name_table.specs.FirstSeen.{is_among}
use Rattle.relation_order.specs.Search.{with_items}
use Rattle.dependency_lines.specs.Modules.{places_of}
use Rattle.plan_sources.specs.Sources.{Sources, modules, is_available, found_names}

-- The modules that a name is resolved to and that can be loaded.
abbrev pub loadable_places : Sources → List ℕ → List ℕ
loadable_places s name =
    filter (is_available (modules s) s.unmet) (places_of (modules s) (found_names s name))

-- Lists of modules, each under a name.
abbrev pub PlaceLists : Type 0
PlaceLists = List (NameKey × Vec ℕ Global)

-- The modules that are kept under a name.
abbrev pub kept_places : PlaceLists → List ℕ → Option (List ℕ)
kept_places lists name =
    option_map (λ (v : Vec ℕ Global). v.items)
    (lookup (λ (k : NameKey). bytes_eq name k.bytes.now) lists)

-- Exactly these names have modules kept under them: the ones that they are resolved to and that can
-- be loaded.
abbrev pub IsSoftTable : Sources → List (List ℕ) → PlaceLists → Type 0
IsSoftTable s names lists =
    (name : List ℕ)
    → kept_places lists name
    ≡ (if is_among names name then Some (loadable_places s name) else None)

-- The names under which modules are kept have the modules that they are resolved to and that can be
-- loaded.
abbrev pub HasSoftTable : Sources → PlaceLists → Type 0
HasSoftTable s lists = (names : List (List ℕ)) × IsSoftTable s names lists

-- What is kept of whether modules can be loaded is right.
pub record KnowsAvailable (s : Sources) (known : List (Option Bool)) : Type 0 where
  pub long : length known ≡ length (modules s)
  pub right : (x : ℕ) (loadable : Bool) → slice_index_or known x None ≡ Some loadable
      → loadable ≡ is_available (modules s) s.unmet x

-- Modules without repeats: of equal ones the first is kept.
abbrev pub once : List ℕ → List ℕ
once xs = with_items [] xs
