-- Tables of the descriptions of parameters, as the code keeps them.
-- It belongs to the code: no public meaning rests on it.
use Rattle.std.specs.Prelude.{ℕ, List, Option, option_map}
use Rattle.std.specs.Borrow.{Bor}
use Rattle.std.specs.Str.{bytes_eq}
use Rattle.indexmap.specs.IndexMap.{IndexMap, get_by}
use Rattle.name_table.specs.declared.key.NameKey.{NameKey}

module _ {S : Type 0} where
  -- What a table has under a name.
  abbrev pub told_in : IndexMap NameKey (Bor (List ℕ)) S → List ℕ → Option (List ℕ)
  told_in table name
      = option_map (λ told. told.now) (get_by (λ key. bytes_eq name key.bytes.now) table)
