-- What a planner holds of the sources of plans.
use Rattle.std.specs.Prelude.{ℕ, Bool, List}
use Rattle.modprobe_conf.specs.declared.rule.Rule.{Rule}
use Rattle.symbol_binding.specs.declared.unbound.Unbound.{Unbound}
use Rattle.name_lookup.specs.declared.indexes.Indexes.{Indexes}
use Rattle.name_lookup.specs.Maps.{maps_of}
use Rattle.plan_sources.specs.Sources.{Sources}

-- The rules, the index files, the lines of modules.unmet and the loaded names, and whether
-- blacklisted names are dropped everywhere.
pub record Held : Type 0 where
  pub rules : List Rule
  pub indexes : Indexes
  pub unmet : List Unbound
  pub loaded : List (List ℕ)
  pub use_blacklist : Bool

-- The sources of a plan, from what is held.
abbrev pub sources_of : Held → Sources
sources_of h = record {
  rules = h.rules;
  maps = maps_of h.indexes;
  unmet = h.unmet;
  loaded = h.loaded;
  use_blacklist = h.use_blacklist;
}
