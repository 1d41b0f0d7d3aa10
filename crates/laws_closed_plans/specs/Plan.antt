-- Closed plans: lists of modules of a tree that can be loaded one after the other.
use Rattle.std.specs.Prelude.{◌≡◌, ◌||◌, ℕ, Bool, true, false, List, [], ◌∷◌, ◌++◌, map, None}
use Rattle.std.specs.List.{list_any}
use Rattle.std.specs.Str.{bytes_eq}
use Rattle.symbol_binding.specs.Symbols.{Face, Module, Kernel}
use Rattle.symbol_binding.specs.Provider.{uses}
use Rattle.symbol_binding.specs.Unmet.{vmlinux, unmet, belongs, collides}
use Rattle.laws_closed_plans.specs.Members.{Member}
use Rattle.laws_closed_plans.specs.Names.{first_name_fault, is_named}

-- The faces of modules.
abbrev pub faces_of : List Module → List Face
faces_of ms = map (λ m. m.face) ms

-- Whether a module of the list has this path.
abbrev pub is_at : List Module → List ℕ → Bool
is_at ms path = list_any (λ m. bytes_eq m.path path) ms

-- Whether the path is the kernel's or a listed module's.
abbrev pub stands : List Module → List ℕ → Bool
stands ms path = bytes_eq path vmlinux || is_at ms path

-- A step of a plan: a module, with the modules before it.
pub record IsStep (plan before : List Module) (m : Module) : Type 0 where
  pub after : List Module
  pub split : plan ≡ before ++ m ∷ after

-- A plan is closed over the listed modules.
pub record IsClosed (tree : List Module) (kernel : Kernel) (listed plan : List Module) : Type 0
  where
    -- Its modules are of the tree.
    pub of_tree : (m : Module) → Member m plan → Member m tree
    -- They have distinct names, and none that is listed.
    pub fresh : (before : List Module) (m : Module) → IsStep plan before m
        → is_named (faces_of (listed ++ before)) m.face.name ≡ false
    -- What a module uses is listed, or comes before it.
    pub behind : (before : List Module) (m : Module) → IsStep plan before m → (p : Module)
        → Member p (uses tree kernel m) → Member p (listed ++ before)
    -- No double line has both sides among the plan, the listed modules and the kernel, and one of
    -- them in the plan.
    pub alone : list_any (collides (stands (listed ++ plan)) (is_at plan)) (unmet tree kernel)
        ≡ false
    -- No other line belongs to a module of the plan.
    pub clear : (m : Module) → Member m plan → list_any (belongs m.path) (unmet tree kernel) ≡ false

-- Over a known kernel, after modules of the tree that load one after the other, no module of a
-- closed plan is refused for its names.
abbrev pub ClosedPlansPass : Type 0
ClosedPlansPass =
    (tree : List Module) (kernel : Kernel) (listed plan : List Module)
    → kernel.known ≡ true
    → ((m : Module) → Member m listed → Member m tree)
    → first_name_fault kernel [] (faces_of listed) ≡ None
    → IsClosed tree kernel listed plan
    → first_name_fault kernel (faces_of listed) (faces_of plan) ≡ None
