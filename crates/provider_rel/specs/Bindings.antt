-- What the needs of a tree are bound to, as the code keeps it.
-- It belongs to the code: no public meaning rests on it.
use Rattle.std.specs.Prelude.{◌≡◌, ◌<◌, ◌^◌, ℕ, Option, length, map}
use Rattle.std.specs.Global.{Vec}
use Rattle.std.specs.Prelude.{List}
use Rattle.name_table.specs.NameTable.{IsTableOf}
use Rattle.module_facts.specs.declared.facts.Facts.{Facts}
use Rattle.kernel_exports.specs.declared.kernel.Kernel.{Kernel}
use Rattle.provider_rel.specs.declared.bindings.Bindings.{Bindings}
use Rattle.provider_rel.specs.Faces.{modules_of, kernel_of}
use Rattle.provider_rel.specs.Items.{items, item_name, bound_of}

-- The items are the exports of the tree over the kernel, the table has their names, and each need
-- has the place of its name.
pub record AreBindings (tree : List Facts) (kernel : Kernel) (b : Bindings) : Type 0 where
  pub items_are : b.items.items ≡ items (modules_of tree) (kernel_of kernel)
  pub names_are : IsTableOf b.names (map item_name b.items.items)
  pub bound_are : map (λ (v : Vec (Option ℕ)). v.items) b.bound.items
      ≡ map (λ (f : Facts). bound_of b.names f.needs) tree
  pub known_is : b.known ≡ kernel.known
  pub few : length b.items.items < 2 ^ 32
