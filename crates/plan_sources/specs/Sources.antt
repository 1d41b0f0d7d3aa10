-- What plans are made from, and the modules that names of soft dependencies stand for.
-- modules.dep(5), modprobe.d(5), "softdep".
use Rattle.std.specs.Prelude.{ℕ, ◌==◌, ◌&&◌, not, Bool, List, filter}
use Rattle.std.specs.List.{list_any, flat_map}
use Rattle.index_format.specs.Listing.{KeyValue}
use Rattle.modprobe_conf.specs.declared.rule.Rule.{Rule}
use Rattle.symbol_binding.specs.declared.unbound.Unbound.{Unbound}
use Rattle.symbol_binding.specs.Unmet.{belongs}
use Rattle.name_lookup.specs.Maps.{Maps}
use Rattle.name_lookup.specs.Found.{found}
use Rattle.dependency_lines.specs.Modules.{modules_of, path_at, places_of, line_places}

-- What plans are made from:
-- - the rules of the configuration;
-- - the maps of the index files;
-- - the lines of modules.unmet;
-- - the names of loaded modules;
-- - whether blacklisted names are dropped everywhere.
pub record Sources : Type 0 where
  pub rules : List Rule
  pub maps : Maps
  pub unmet : List Unbound
  pub loaded : List (List ℕ)
  pub use_blacklist : Bool

-- The modules, by their numbers in the tree.
abbrev pub modules : Sources → List KeyValue
modules s = modules_of s.maps.dep

-- Whether a line is on a need of the module at this path.
abbrev pub is_troubled : List Unbound → List ℕ → Bool
is_troubled unmet path = list_any (belongs path) unmet

-- Whether a module can be loaded: no line is on a need of it or of a module of its dependency line.
abbrev pub is_available : List KeyValue → List Unbound → ℕ → Bool
is_available ms unmet x =
    not (is_troubled unmet (path_at ms x))
    && not (list_any (λ y. is_troubled unmet (path_at ms y)) (line_places ms x))

-- The names that a name is resolved to.
abbrev pub found_names : Sources → List ℕ → List (List ℕ)
found_names s name = (found s.rules s.maps s.use_blacklist name).names

-- The modules that some names are resolved to, without those that can't be loaded and the module
-- itself.
abbrev pub soft_places : Sources → ℕ → List (List ℕ) → List ℕ
soft_places s x names =
    filter (λ y. not (y == x) && is_available (modules s) s.unmet y)
    (flat_map (λ name. places_of (modules s) (found_names s name)) names)
