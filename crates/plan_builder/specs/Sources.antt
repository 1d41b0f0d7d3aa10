-- The sources of a plan, by the arguments of `plan`.
use Rattle.std.specs.Prelude.{ℕ, List}
use Rattle.modprobe_conf.specs.declared.rule.Rule.{Rule}
use Rattle.symbol_binding.specs.declared.unbound.Unbound.{Unbound}
use Rattle.name_lookup.specs.declared.indexes.Indexes.{Indexes}
use Rattle.name_lookup.specs.Maps.{maps_of}
use Rattle.plan_builder.specs.declared.request.Request.{Request}
use Rattle.plan_sources.specs.Sources.{Sources}

-- The sources that a request uses.
abbrev pub sources : List Rule → Indexes → List Unbound → List (List ℕ) → Request → Sources
sources rules indexes unmet loaded request = record {
  rules = rules;
  maps = maps_of indexes;
  unmet = unmet;
  loaded = loaded;
  use_blacklist = request.use_blacklist;
}
