-- Closed plans by the names of their modules: over the dependency lines of an index, and lines of
-- modules.unmet. modules.dep(5).
use Rattle.std.specs.Prelude.{◌≡◌, ℕ, true, false, List, ◌∷◌, ◌++◌, map, length, slice_get, Some}
use Rattle.std.specs.List.{IsDistinct, list_any}
use Rattle.std.specs.Str.{bytes_eq}
use Rattle.name_table.specs.FirstSeen.{is_among}
use Rattle.relation_order.specs.Sets.{has, below}
use Rattle.relation_order.specs.Closures.{closure}
use Rattle.symbol_binding.specs.Symbols.{Module, Kernel}
use Rattle.symbol_binding.specs.Unmet.{vmlinux, belongs, collides}
use Rattle.symbol_binding.specs.declared.unbound.Unbound.{Unbound}
use Rattle.provider_rel.specs.Relation.{uses_at, name_at}
use Rattle.laws_closed_plans.specs.Members.{Member}

-- The dependency line of each module name: the path of the module, and the names of the modules
-- after it.
pub record Lines : Type 0 where
  pub path : List ℕ → List ℕ
  pub line : List ℕ → List (List ℕ)

-- The names of a plan are closed over listed names, by dependency lines and lines of modules.unmet.
pub record AreClosed (deps : Lines) (unmet : List Unbound) (listed plan : List (List ℕ)) : Type 0
  where
    -- The names are distinct, and none is listed.
    pub distinct : IsDistinct bytes_eq plan
    pub unlisted : (x : List ℕ) → Member x plan → is_among listed x ≡ false
    -- Each module that a dependency line names is listed, or comes before.
    pub behind : (before : List (List ℕ)) (x : List ℕ) (after : List (List ℕ))
        → plan ≡ before ++ x ∷ after → (y : List ℕ) → Member y (deps.line x)
        → is_among (listed ++ before) y ≡ true
    -- No double line has both sides among the plan, the listed modules and the kernel, and one of
    -- them in the plan.
    pub alone : list_any
        (collides (is_among (vmlinux ∷ map deps.path (listed ++ plan)))
        (is_among (map deps.path plan))) unmet
        ≡ false
    -- No other line belongs to a module of the plan.
    pub clear : (x : List ℕ) → Member x plan → list_any (belongs (deps.path x)) unmet ≡ false

-- Dependency lines are the ones of a tree's modules: each has its module's path, and names each
-- module that its module depends on.
pub record AreLinesOf (tree : List Module) (kernel : Kernel) (deps : Lines) : Type 0 where
  pub paths : (m : Module) → Member m tree → deps.path m.face.name ≡ m.path
  pub named : (i j : ℕ) (m : Module) → slice_get tree i ≡ Some m
      → has (closure (uses_at tree kernel) (below (length tree)) i) j ≡ true
      → Member (name_at tree j) (deps.line m.face.name)
