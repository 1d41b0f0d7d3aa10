-- The use of each premise of the law on closed plans: small trees that lack one of them, and are
-- refused.
use Rattle.std.specs.Prelude.{ℕ, ◌&&◌, not, nat_eq, Bool, true, false, List, [], ◌∷◌, ◌++◌, Some}
use Rattle.std.specs.Prelude.{is_none, codes}
use Rattle.std.specs.List.{list_any, list_all}
use Rattle.symbol_binding.specs.Symbols.{Module, Kernel}
use Rattle.symbol_binding.specs.Provider.{uses}
use Rattle.symbol_binding.specs.Unmet.{unmet, belongs, collides}
use Rattle.laws_closed_plans.specs.Names.{first_name_fault, is_named}
use Rattle.laws_closed_plans.specs.Plan.{faces_of, is_at, stands}

-- Whether each module is new among the modules before it.
abbrev pub are_fresh : List Module → List Module → Bool
are_fresh loaded [] = true
are_fresh loaded (m ∷ ms) =
    not (is_named (faces_of loaded) m.face.name) && are_fresh (loaded ++ m ∷ []) ms

-- Whether what each module uses comes before it.
abbrev pub are_behind : List Module → Kernel → List Module → List Module → Bool
are_behind tree kernel loaded [] = true
are_behind tree kernel loaded (m ∷ ms) =
    list_all (λ p. is_named (faces_of loaded) p.face.name) (uses tree kernel m)
    && are_behind tree kernel (loaded ++ m ∷ []) ms

-- The premises, in order. The kernel is known. The listed modules are of the tree, and load one
-- after the other. The modules of the plan are of the tree, new, and after what they use. They have
-- no double lines, and no other lines.
unfoldable pub premises : List Module → Kernel → List Module → List Module → List Bool
premises tree kernel listed plan =
    kernel.known
    ∷ list_all (λ m. is_named (faces_of tree) m.face.name) listed
    ∷ is_none (first_name_fault kernel [] (faces_of listed))
    ∷ list_all (λ m. is_named (faces_of tree) m.face.name) plan
    ∷ are_fresh listed plan
    ∷ are_behind tree kernel listed plan
    ∷ not (list_any (collides (stands (listed ++ plan)) (is_at plan)) (unmet tree kernel))
    ∷ list_all (λ m. not (list_any (belongs m.path) (unmet tree kernel))) plan
    ∷ []

-- All premises hold except the one at this place.
abbrev pub all_but : ℕ → List Bool
all_but i =
    not (nat_eq i 0) ∷ not (nat_eq i 1) ∷ not (nat_eq i 2) ∷ not (nat_eq i 3) ∷ not (nat_eq i 4)
    ∷ not (nat_eq i 5) ∷ not (nat_eq i 6) ∷ not (nat_eq i 7) ∷ []

-- A kernel that exports nothing, and a kernel that isn't known.
abbrev pub bare : Kernel
bare = record { known = true; exports = [] }

abbrev pub hidden : Kernel
hidden = record { known = false; exports = [] }

-- A module that exports `x` at a version.
abbrev pub giving : List ℕ → ℕ → Module
giving name crc = record {
  path = name ++ codes ".ko";
  face = record {
    name = name;
    exports = record { name = codes "x"; crc = Some crc; gpl = false; space = [] } ∷ [];
    needs = [];
    free = true;
    imports = [];
  };
}

-- A module that needs `x` at the version 1, weakly or strongly.
abbrev pub wanting : Bool → Module
wanting is_weak = record {
  path = codes "m.ko";
  face = record {
    name = codes "m";
    exports = [];
    needs = record { name = codes "x"; weak = is_weak; crc = Some 1 } ∷ [];
    free = true;
    imports = [];
  };
}

abbrev pub p : Module
p = giving (codes "p") 1

abbrev pub q : Module
q = giving (codes "q") 2
