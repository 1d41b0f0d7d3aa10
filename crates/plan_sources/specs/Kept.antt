-- How the code keeps rules and the sources of plans.
-- It belongs to the code: no public meaning rests on it.
use Rattle.std.specs.Prelude.{◌≡◌, ℕ, List, map, filter}
use Rattle.std.specs.Borrow.{Bor}
use Rattle.index_format.specs.Listing.{KeyValue}
use Rattle.modprobe_conf.specs.declared.rule.Rule.{Rule}
use Rattle.name_table.specs.FirstSeen.{is_among}
use Rattle.name_lookup.specs.Groups.{group_of}
use Rattle.plan_sources.specs.Sources.{modules, is_troubled}
use Rattle.plan_sources.specs.Planner.{Held, sources_of}
use Rattle.plan_sources.specs.Rules.{is_on, shown_rules}

-- The group of each name has the rules on the module of this name, in order.
abbrev pub IsGrouped : List (List ℕ × List (Bor Rule)) → List Rule → Type 0
IsGrouped groups rules =
    (name : List ℕ) → shown_rules (group_of groups name) ≡ filter (is_on name) rules

-- The modules are the index's, exactly the paths of lines on needs are kept, and names are looked
-- up by the rules.
pub record IsPlanner (own : List KeyValue) (paths : List (List ℕ)) (rules : List Rule) (h : Held) :
    Type 0 where
  pub own_modules : own ≡ modules (sources_of h)
  pub own_rules : rules ≡ h.rules
  pub troubled : (path : List ℕ) → is_among paths path ≡ is_troubled h.unmet path

-- References to names, as the names.
abbrev pub texts : List (Bor (List ℕ)) → List (List ℕ)
texts names = map (λ n. n.now) names
