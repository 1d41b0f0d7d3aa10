-- Small trees, whose lines of modules.unmet can be worked out by hand.
use Rattle.std.specs.Prelude.{ℕ, Bool, true, false, List, [], ◌∷◌, Option, Some, None, codes}
use Rattle.symbol_binding.specs.Symbols.{Export, Need, Module, Kernel}

-- A kernel that exports `printk` at a version, and a kernel that isn't known.
abbrev pub printing : Kernel
printing =
    record {
      known = true;
      exports
          = record { name = codes "printk"; crc = Some 0x11111111; gpl = false; space = [] }
          ∷ [];
    }

abbrev pub unknown : Kernel
unknown = record { known = false; exports = [] }

abbrev pub plain : List ℕ → Option ℕ → Export
plain name crc = record { name = name; crc = crc; gpl = false; space = [] }

abbrev pub strong : List ℕ → Option ℕ → Need
strong name crc = record { name = name; weak = false; crc = crc }

-- A module at its path that exports these and needs those; it is free, or not, and imports these
-- namespaces.
abbrev pub at : List ℕ → List Export → List Need → Bool → List (List ℕ) → Module
at path exports needs free imports = record {
  path = path;
  face = record { name = path; exports = exports; needs = needs; free = free; imports = imports };
}

-- Two modules export `x`, and a third needs it and `printk`.
abbrev pub a_gives_x : Module
a_gives_x = at (codes "kernel/a.ko") (plain (codes "x") None ∷ []) [] true []

abbrev pub b_gives_x : Module
b_gives_x = at (codes "kernel/b.ko") (plain (codes "x") (Some 2) ∷ []) [] true []

abbrev pub c_needs_x : Module
c_needs_x =
    at (codes "kernel/c.ko") []
    (strong (codes "x") (Some 1) ∷ strong (codes "printk") (Some 0x11111111) ∷ []) true []

-- A module without a provider: it needs `x` and, weakly, `y`.
abbrev pub n_needs_two : Module
n_needs_two =
    at (codes "kernel/n.ko") []
    (strong (codes "x") None ∷ record { name = codes "y"; weak = true; crc = None } ∷ []) true
    []

-- A module that exports `fa` as GPL-only, and one that exports it in a namespace.
abbrev pub gives_gpl : Module
gives_gpl =
    at (codes "kernel/a.ko") (record { name = codes "fa"; crc = None; gpl = true; space = [] } ∷ [])
    [] true []

abbrev pub gives_in_space : Module
gives_in_space =
    at (codes "kernel/a.ko")
    (record { name = codes "fa"; crc = None; gpl = false; space = codes "NS" } ∷ []) [] true []

-- A module that needs `fa`, strongly or weakly, and is free or not.
abbrev pub needs_fa : Bool → Bool → List (List ℕ) → Module
needs_fa is_weak free imports =
    at (codes "kernel/b.ko") [] (record { name = codes "fa"; weak = is_weak; crc = None } ∷ []) free
    imports

-- A module that exports `printk`, as the kernel does, and one that needs it.
abbrev pub gives_printk : Module
gives_printk = at (codes "kernel/p.ko") (plain (codes "printk") None ∷ []) [] true []

-- A module that isn't free and needs `fa` weakly, in another version than the export's, which it
-- doesn't see.
abbrev pub gives_gpl_1 : Module
gives_gpl_1 =
    at (codes "kernel/a.ko")
    (record { name = codes "fa"; crc = Some 1; gpl = true; space = codes "NS" } ∷ []) [] true []

abbrev pub needs_fa_2 : Module
needs_fa_2 =
    at (codes "kernel/b.ko") [] (record { name = codes "fa"; weak = true; crc = Some 2 } ∷ []) false
    []
