-- The aliases of a configuration as the code keeps them, with their places among the rules.
-- It belongs to the code: no public meaning rests on it. modprobe.d(5).
use Rattle.std.specs.Prelude.{◌≡◌, ℕ, suc, ◌+◌, nat_lt, List, [], ◌∷◌, ◌++◌, map, take, Option}
use Rattle.std.specs.Prelude.{Some, None, if◌then◌else◌}
use Rattle.std.specs.List.{list_any}
use Rattle.std.specs.Option.{option_map_or}
use Rattle.std.specs.Str.{bytes_eq}
use Rattle.modprobe_conf.specs.declared.rule.Rule.{Rule}
use Rattle.modprobe_conf.specs.declared.rule.Rule.TheVariants.{Alias}
use Rattle.name_lookup.specs.declared.aliases.PlainAlias.{PlainAlias}
use Rattle.name_lookup.specs.declared.wildcards.WildAlias.{WildAlias}
use Rattle.name_lookup.specs.declared.aliases.AliasTable.{AliasTable}
use Rattle.name_lookup.specs.Groups.{group_of}
use Rattle.name_lookup.specs.Wildcards.{is_wildcard}

-- An alias by its place, with its name.
abbrev pub Plain : Type 0
Plain = ℕ × List ℕ

-- An alias by its place, with its pattern and its name.
abbrev pub Wild : Type 0
Wild = ℕ × List ℕ × List ℕ

abbrev pub shown_plain : PlainAlias → Plain
shown_plain alias = (alias.place, alias.name.now)

abbrev pub shown_wild : WildAlias → Wild
shown_wild alias = (alias.place, alias.front.now ++ alias.rest.now, alias.name.now)

-- The alias at a place, if its pattern has no wildcard and is this name.
abbrev pub plain_alias : ℕ → List ℕ → List ℕ → List ℕ → List Plain
plain_alias place pattern name x =
    if list_any is_wildcard pattern
    then []
    else (if bytes_eq pattern x then (place, name) ∷ [] else [])

-- The alias at a place, if its pattern has a wildcard.
abbrev pub wild_alias : ℕ → List ℕ → List ℕ → List Wild
wild_alias place pattern name =
    if list_any is_wildcard pattern then (place, pattern, name) ∷ [] else []

-- The pattern and the name of an alias.
abbrev pub alias_parts : Rule → Option (List ℕ × List ℕ)
alias_parts (Alias pattern name) = Some (pattern, name)
alias_parts _ = None

-- The alias of a rule at a place, if it is one: with no wildcard and this name, or with a wildcard.
abbrev pub plain_here : ℕ → List ℕ → Rule → List Plain
plain_here place x rule =
    option_map_or (λ parts. plain_alias place parts.0 parts.1 x) (alias_parts rule) []

abbrev pub wild_here : ℕ → Rule → List Wild
wild_here place rule =
    option_map_or (λ parts. wild_alias place parts.0 parts.1) (alias_parts rule) []

-- The aliases of rules whose pattern has no wildcard and is this name. The first rule is at a
-- place.
abbrev pub plain_from : ℕ → List ℕ → List Rule → List Plain
plain_from place x [] = []
plain_from place x (rule ∷ rules) = plain_here place x rule ++ plain_from (place + 1) x rules

-- The aliases of rules whose pattern has a wildcard. The first rule is at a place.
abbrev pub wild_from : ℕ → List Rule → List Wild
wild_from place [] = []
wild_from place (rule ∷ rules) = wild_here place rule ++ wild_from (place + 1) rules

-- The table has exactly the aliases of some rules.
pub record IsAliasTable (table : AliasTable) (rules : List Rule) : Type 0 where
  pub plain : (x : List ℕ) → map shown_plain (group_of table.plain x) ≡ plain_from 0 x rules
  pub wild : map shown_wild table.wild.items ≡ wild_from 0 rules

-- A table with one more alias behind the others.
pub record HasMore (old new : AliasTable) (place : ℕ) (pattern name : List ℕ) : Type 0 where
  pub plain : (x : List ℕ)
      → map shown_plain (group_of new.plain x)
      ≡ map shown_plain (group_of old.plain x) ++ plain_alias place pattern name x
  pub wild : map shown_wild new.wild.items
      ≡ map shown_wild old.wild.items ++ wild_alias place pattern name

-- The number of aliases before a place, and their names.
abbrev pub count_before : ℕ → List Plain → ℕ
count_before place [] = 0
count_before place (p ∷ ps) = if nat_lt p.0 place then suc (count_before place ps) else 0

abbrev pub names_before : ℕ → List Plain → List (List ℕ)
names_before place ps = map (λ p. p.1) (take (count_before place ps) ps)
