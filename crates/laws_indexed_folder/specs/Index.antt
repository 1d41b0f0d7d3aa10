-- Dependency lines as the map of modules.dep.bin has them: under the name of each module its
-- dependency line. modules.dep(5), depmod(8).
use Rattle.std.specs.Prelude.{◌≡◌, ◌==◌, ℕ, true, not, IsTrue, AllPairs, List, [], ◌∷◌, length, map}
use Rattle.std.specs.Prelude.{reverse, slice_get, Some}
use Rattle.std.specs.List.{list_any}
use Rattle.km_names.specs.Ascii.{is_graphic}
use Rattle.km_names.specs.Path.{module_name}
use Rattle.index_format.specs.Map.{KeyValues, values_of}
use Rattle.mod_tree.specs.DependencyLine.{is_dependency_line, own_path, line_needs}
use Rattle.mod_tree.specs.Tree.{is_module_path}
use Rattle.relation_order.specs.Sets.{below}
use Rattle.relation_order.specs.Closures.{closure}
use Rattle.module_facts.specs.declared.facts.Facts.{Facts}
use Rattle.symbol_binding.specs.Symbols.{Kernel}
use Rattle.provider_rel.specs.Faces.{modules_of}
use Rattle.provider_rel.specs.Relation.{uses_at, dependencies}
use Rattle.depmod_core.specs.Dependencies.{dependency_line, path_at, dep_map}
use Rattle.plan_builder.specs.Closed.{first_text}
use Rattle.laws_closed_plans.specs.Members.{Member}
use Rattle.laws_closed_plans.specs.Lines.{Lines, AreLinesOf}

-- The dependency lines of a map: the first path of each, and the names of the modules at the other
-- paths.
abbrev pub lines_of_map : KeyValues → Lines
lines_of_map dep = record {
  path = λ name. own_path (first_text dep name);
  line = λ name. map module_name (line_needs (first_text dep name));
}

-- Under the name of each module of a tree a map has one value: the module's place and its
-- dependency line. The line names the modules that it depends on, from the last to the first.
abbrev pub HasLines : List Facts → Kernel → KeyValues → Type 0
HasLines tree kernel dep =
    (i : ℕ) (f : Facts) → slice_get tree i ≡ Some f
    → values_of dep f.name
    ≡ (
      i,
      dependency_line f.path
          (map (path_at tree)
          (reverse (closure (uses_at (modules_of tree) kernel)
          (below (length tree)) i))),
    )
    ∷ []

-- A module has the name of its path. The path is a module's, and has only visible characters and no
-- `:`.
pub record IsAtPath (f : Facts) : Type 0 where
  pub kind : is_module_path f.path ≡ true
  pub name : f.name ≡ module_name f.path
  pub visible : IsTrue (is_graphic f.path)
  pub colon : IsTrue (not (list_any (λ b. b == 58) f.path))

-- A text is the dependency line of the module of this name in a tree, and names modules of the
-- tree.
pub record IsLineIn (tree : List Facts) (name line : List ℕ) : Type 0 where
  pub owner : Facts
  pub in_tree : Member owner tree
  pub named : owner.name ≡ name
  pub is_line : is_dependency_line line ≡ true
  pub own : own_path line ≡ owner.path
  pub own_name : module_name (own_path line) ≡ name
  pub others : (path : List ℕ) → Member path (line_needs line)
      → (other : Facts) × Member other tree × (other.path ≡ path) × (other.name ≡ module_name path)

-- The lines of a map that has a tree's lines are the lines of the tree.
abbrev pub MapsHaveLines : Type 0
MapsHaveLines =
    (tree : List Facts) (kernel : Kernel) (dep : KeyValues)
    → ((f : Facts) → Member f tree → IsAtPath f)
    → HasLines tree kernel dep
    → AreLinesOf (modules_of tree) kernel (lines_of_map dep)

-- The map of modules.dep.bin that depmod makes of a tree has the tree's lines.
abbrev pub FilesHaveLines : Type 0
FilesHaveLines =
    (tree : List Facts) (kernel : Kernel)
    → AllPairs (λ (a b : Facts). a.name ≡ b.name → ⊥) tree
    → HasLines tree kernel (dep_map tree (dependencies (modules_of tree) kernel))
