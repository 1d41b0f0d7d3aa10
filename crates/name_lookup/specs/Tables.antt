-- Tables of the rules of a configuration.
-- It belongs to the code: no public meaning rests on it. modprobe.d(5).
use Rattle.std.specs.Prelude.{◌≡◌, ℕ, List, Option, Some, None}
use Rattle.modprobe_conf.specs.declared.rule.Rule.{Rule}
use Rattle.modprobe_conf.specs.declared.rule.Rule.TheVariants.{Install}
use Rattle.name_table.specs.FirstSeen.{is_among}
use Rattle.name_lookup.specs.declared.aliases.AliasTable.{AliasTable}
use Rattle.name_lookup.specs.Aliases.{IsAliasTable}
use Rattle.name_lookup.specs.Found.{has_install, is_blacklisted}

-- The module that the rule has an install command for.
abbrev pub installed_name : Rule → Option (List ℕ)
installed_name (Install name command) = Some name
installed_name _ = None

-- The tables have the aliases, the modules that install rules name, and the modules that blacklist
-- rules name.
pub record AreTables (aliases : AliasTable) (installed blacklisted : List (List ℕ))
    (rules : List Rule) : Type 0 where
  pub are_aliases : IsAliasTable aliases rules
  pub are_installed : (name : List ℕ) → is_among installed name ≡ has_install rules name
  pub are_blacklisted : (name : List ℕ) → is_among blacklisted name ≡ is_blacklisted rules name
