-- What names are looked up in.
use Rattle.std.specs.Prelude.{List}
use Rattle.modprobe_conf.specs.declared.rule.Rule.{Rule}
use Rattle.name_lookup.specs.declared.indexes.Indexes.{Indexes}

-- The rules of a configuration, and the index files of a folder.
pub record RulesAndIndexes : Type 0 where
  pub rules : List Rule
  pub indexes : Indexes
