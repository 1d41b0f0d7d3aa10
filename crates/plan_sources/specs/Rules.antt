-- The rules of a configuration by the modules that they are on. modprobe.d(5).
use Rattle.std.specs.Prelude.{ℕ, Bool, false, List, map, Option, Some, None}
use Rattle.std.specs.Borrow.{Bor}
use Rattle.std.specs.Option.{option_map_or}
use Rattle.std.specs.Str.{bytes_eq}
use Rattle.modprobe_conf.specs.declared.rule.Rule.{Rule}
use Rattle.modprobe_conf.specs.declared.rule.Rule.TheVariants.{Alias, Blacklist, Options, Install}
use Rattle.modprobe_conf.specs.declared.rule.Rule.TheVariants.{Remove, Softdep}

-- The module that a rule is on, for the rules that plans ask for: parameters, commands for loading,
-- and soft dependencies.
abbrev pub owner : Rule → Option (List ℕ)
owner (Alias pattern name) = None
owner (Blacklist name) = None
owner (Options name text) = Some name
owner (Install name command) = Some name
owner (Remove name command) = None
owner (Softdep name pre post) = Some name

-- Whether a rule is on the module of this name.
abbrev pub is_on : List ℕ → Rule → Bool
is_on name rule = option_map_or (λ own. bytes_eq own name) (owner rule) false

-- References to rules, as the rules.
abbrev pub shown_rules : List (Bor Rule) → List Rule
shown_rules rules = map (λ r. r.now) rules
