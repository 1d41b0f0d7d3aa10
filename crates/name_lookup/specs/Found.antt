-- The modules that a name is resolved to: the first of six lists that isn't empty. modprobe(8),
-- modprobe.d(5).
use Rattle.std.specs.Prelude.{ℕ, ◌+◌, ◌==◌, ◌&&◌, ◌||◌, not, Bool, false, nat_eq, List, [], ◌∷◌}
use Rattle.std.specs.Prelude.{length, filter, filter_map, codes, Option, Some, None, if◌then◌else◌}
use Rattle.std.specs.List.{list_any, starts_with}
use Rattle.std.specs.Option.{option_map_or}
use Rattle.std.specs.Str.{bytes_eq}
use Rattle.km_names.specs.AliasForm.{normal_alias}
use Rattle.glob_match.specs.Decision.{is_match}
use Rattle.index_format.specs.Map.{values_of}
use Rattle.index_read.specs.Contents.{wild_values}
use Rattle.modprobe_conf.specs.declared.rule.Rule.{Rule}
use Rattle.modprobe_conf.specs.declared.rule.Rule.TheVariants.{Alias, Blacklist, Install}
use Rattle.name_table.specs.FirstSeen.{first_seen}
use Rattle.name_lookup.specs.Maps.{Maps, has_value, texts}
use Rattle.name_lookup.specs.declared.found.Found.{Found}

-- The name that an alias of the configuration gives for a name that matches its pattern.
abbrev pub alias_name : List ℕ → Rule → Option (List ℕ)
alias_name x (Alias pattern name) = if is_match pattern x then Some name else None
alias_name x _ = None

-- Whether the rule has a command that is run instead of loading this module.
abbrev pub installs : List ℕ → Rule → Bool
installs x (Install name command) = bytes_eq name x
installs x _ = false

-- Whether an install rule names the module.
abbrev pub has_install : List Rule → List ℕ → Bool
has_install rules x = list_any (installs x) rules

-- The module that the rule blacklists.
abbrev pub blacklisted_name : Rule → Option (List ℕ)
blacklisted_name (Blacklist name) = Some name
blacklisted_name _ = None

-- Whether the rule blacklists this module.
abbrev pub blacklists : List ℕ → Rule → Bool
blacklists x rule = option_map_or (bytes_eq x) (blacklisted_name rule) false

-- Whether a blacklist rule names the module.
abbrev pub is_blacklisted : List Rule → List ℕ → Bool
is_blacklisted rules x = list_any (blacklists x) rules

-- The name itself, if a test holds.
abbrev pub itself : Bool → List ℕ → List (List ℕ)
itself says x = if says then x ∷ [] else []

-- Whether a name asks for the module of a symbol.
abbrev pub asks_symbol : List ℕ → Bool
asks_symbol x = starts_with nat_eq x (codes "symbol:")

-- The six lists of a name in its normal form:
-- - the names of aliases of the configuration that match, in the order of the rules;
-- - the name, if it is a module's;
-- - the modules of the symbol that it asks for;
-- - the name, if an install rule names it;
-- - the modules with an alias that matches;
-- - the name, if it is a built-in module's.
abbrev pub lists : List Rule → Maps → List ℕ → List (List (List ℕ))
lists rules maps x =
    filter_map (alias_name x) rules
    ∷ itself (has_value maps.dep x) x
    ∷ (if asks_symbol x then texts (values_of maps.symbols x) else [])
    ∷ itself (has_install rules x) x
    ∷ texts (wild_values maps.alias x)
    ∷ itself (has_value maps.builtin x) x
    ∷ []

-- The first list that isn't empty, with its number, if the first list has this number. If all are
-- empty, the number is 0 and there is no name.
abbrev pub first_list : ℕ → List (List (List ℕ)) → Found
first_list number [] = record { list = 0; names = [] }
first_list number (names ∷ more) =
    if length names == 0
    then first_list (number + 1) more
    else record { list = number; names = names }

-- Whether a name is dropped: it is blacklisted, and is from the list of modules' own aliases, or
-- all lists count.
abbrev pub is_dropped : List Rule → Bool → ℕ → List ℕ → Bool
is_dropped rules everywhere number name = (everywhere || number == 5) && is_blacklisted rules name

-- What is left of a list: of equal names the first is kept, and then names that are dropped are
-- left out. The list keeps its number.
abbrev pub kept : List Rule → Bool → Found → Found
kept rules everywhere f = record {
  list = f.list;
  names = filter (λ name. not (is_dropped rules everywhere f.list name)) (first_seen f.names);
}

-- What is found for a name in its normal form.
abbrev pub found_normal : List Rule → Maps → Bool → List ℕ → Found
found_normal rules maps everywhere x = kept rules everywhere (first_list 1 (lists rules maps x))

-- What is found for a name. If a name has no normal form, all its six lists are empty.
unfoldable pub found : List Rule → Maps → Bool → List ℕ → Found
found rules maps everywhere name =
    option_map_or (found_normal rules maps everywhere) (normal_alias name)
    (record { list = 0; names = [] })
