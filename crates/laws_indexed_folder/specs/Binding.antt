-- What loading a plan results in if it is closed over the files that depmod made of a tree.
use Rattle.std.specs.Prelude.{◌≡◌, true, ℕ, List, [], ◌∷◌, Some, slice_get, length, AllPairs}
use Rattle.relation_order.specs.Sets.{below}
use Rattle.relation_order.specs.Cycle.{cycle}
use Rattle.index_format.specs.Map.{Value, KeyValues, values_of}
use Rattle.module_facts.specs.declared.facts.Facts.{Facts}
use Rattle.module_facts.specs.declared.module.Module.{Module}
use Rattle.kernel_exports.specs.declared.kernel.Kernel.{Kernel}
use Rattle.provider_rel.specs.Faces.{modules_of, kernel_of}
use Rattle.provider_rel.specs.Relation.{uses_at, dependencies}
use Rattle.module_region.specs.declared.region.Region.{Region}
use Rattle.depmod_core.specs.Dependencies.{dep_map}
use Rattle.laws_closed_plans.specs.Members.{Member}
use Rattle.laws_closed_plans.specs.Binding.{IsPlanned, Binds}
use Rattle.laws_indexed_folder.specs.Index.{IsAtPath, IsLineIn, lines_of_map}

-- A tree of modules is as it was indexed, over a known kernel: this map has its dependency lines.
pub record StandsAsIndexed (tree : List Facts) (kernel : Kernel) (dep : KeyValues) : Type 0 where
  -- The kernel's table is known.
  pub known : kernel.known ≡ true
  -- No two modules have one name, and each has the name of its path.
  pub names : AllPairs (λ (a b : Facts). a.name ≡ b.name → ⊥) tree
  pub paths : (f : Facts) → Member f tree → IsAtPath f
  -- No walk from a module to one that it uses leads back.
  pub acyclic : cycle (uses_at (modules_of tree) (kernel_of kernel)) (below (length tree)) ≡ []
  -- The map has the same values under each name as the map of the tree's dependencies.
  pub map : (name : List ℕ)
      → values_of dep name
      ≡ values_of (dep_map tree (dependencies (modules_of tree) (kernel_of kernel))) name

-- A plan that is closed over the lines of that map binds.
abbrev pub IndexedPlansBind : Type 0
IndexedPlansBind =
    (tree : List Facts) (kernel : Kernel) (dep : KeyValues) (addressed : Kernel) (region : Region)
    (listed plan : List Module)
    → StandsAsIndexed tree kernel dep
    → IsPlanned tree kernel (lines_of_map dep) addressed region listed plan
    → Binds addressed region listed plan

-- Each name that has a value has the dependency line of a module of the tree, and each module of
-- the tree has one value.
abbrev pub LinesAreOfTree : Type 0
LinesAreOfTree =
    (tree : List Facts) (kernel : Kernel) (dep : KeyValues)
    → StandsAsIndexed tree kernel dep
    → ((name : List ℕ) (v : Value) → slice_get (values_of dep name) 0 ≡ Some v
    → IsLineIn tree name v.1)
    × ((f : Facts) → Member f tree → (v : Value) × (values_of dep f.name ≡ v ∷ []))
