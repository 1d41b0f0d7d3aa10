-- What is seen of a relation.
use Rattle.std.specs.Prelude.{◌≡◌, ℕ, List, map}
use Rattle.km_names.specs.declared.conf.TreeIndex.{TreeIndex}
use Rattle.name_table.specs.NameTable.{place_of}
use Rattle.symbol_binding.specs.Symbols.{Module, Kernel}
use Rattle.symbol_binding.specs.Unmet.{unmet}
use Rattle.symbol_binding.specs.declared.unbound.Unbound.{Unbound}
use Rattle.provider_rel.specs.declared.provider.Provider.{Provider}
use Rattle.provider_rel.specs.declared.relation.Relation.{Relation}
use Rattle.provider_rel.specs.Relation.{provider_of, dependencies}
use Rattle.provider_rel.specs.Items.{answer_at}

-- The provider of a name by a relation.
unfoldable pub provider_by : Relation → List ℕ → Provider
provider_by r x = answer_at r.known r.owners.items (place_of r.names x)

-- The places of an order.
abbrev pub places_of : List TreeIndex → List ℕ
places_of order = map (λ (i : TreeIndex). i.0) order

-- The dependencies of each module by a relation, as places in the tree.
unfoldable pub closures_by : Relation → List (List ℕ)
closures_by r = map places_of r.closures.items

-- The lines of modules.unmet by a relation.
unfoldable pub obstacles_by : Relation → List Unbound
obstacles_by r = r.unmet

-- The relation of a tree over a kernel. It has the provider of each name, the dependencies of each
-- module in the least order, in the order of the tree, and the lines of modules.unmet.
pub record IsRelation (tree : List Module) (kernel : Kernel) (r : Relation) : Type 0 where
  pub provider : (x : List ℕ) → provider_by r x ≡ provider_of tree kernel x
  pub closures : closures_by r ≡ dependencies tree kernel
  pub obstacles : obstacles_by r ≡ unmet tree kernel
