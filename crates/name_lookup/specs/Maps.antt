-- The four maps that the index files of a folder represent. modules.dep(5), depmod(8).
use Rattle.std.specs.Prelude.{ℕ, ◌==◌, not, Bool, List, length, map}
use Rattle.index_format.specs.Map.{Value, KeyValues, values_of}
use Rattle.index_read.specs.Contents.{contents}
use Rattle.name_lookup.specs.declared.indexes.Indexes.{Indexes}

-- The maps from module names to dependency lines, from patterns of aliases and from names of
-- symbols to module names, and from names of built-in modules.
pub record Maps : Type 0 where
  pub dep : KeyValues
  pub alias : KeyValues
  pub symbols : KeyValues
  pub builtin : KeyValues

-- The maps of the index files.
abbrev pub maps_of : Indexes → Maps
maps_of i = record {
  dep = contents i.dep.nodes;
  alias = contents i.alias.nodes;
  symbols = contents i.symbols.nodes;
  builtin = contents i.builtin.nodes;
}

-- Whether a map has a value of the key.
abbrev pub has_value : KeyValues → List ℕ → Bool
has_value m key = not (length (values_of m key) == 0)

-- The texts of values.
abbrev pub texts : List Value → List (List ℕ)
texts vs = map (λ v. v.1) vs
