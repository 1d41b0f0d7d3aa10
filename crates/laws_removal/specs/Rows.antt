-- Small machines for worked answers.
use Rattle.std.specs.Prelude.{ℕ, true, false, List, [], ◌∷◌, map, None, codes}
use Rattle.kernel_exports.specs.declared.kernel.Kernel.{Kernel}
use Rattle.model_loader.specs.declared.entry.Entry.{Entry}
use Rattle.module_region.specs.declared.region.Region.{Region}
use Rattle.model_loader.specs.Machine.{Machine}

-- An entry of this name that exports some names and needs others.
abbrev pub entry_of : List ℕ → List (List ℕ) → List (List ℕ) → Entry
entry_of name exports needs = record {
  loaded = record { name = name; base = 0; size = 0 };
  image = [];
  free = true;
  imports = [];
  exports
      = map (λ x. record { name = x; crc = None; gpl = false; space = []; address = 0 }) exports;
  needs = map (λ x. record { name = x; weak = false; crc = None }) needs;
}

-- `a` exports `fa`, which `b` and `d` need; `b` exports `fb`, which `c` needs; `e` exports and
-- needs nothing.
abbrev pub a : Entry
a = entry_of (codes "a") (codes "fa" ∷ []) []

abbrev pub b : Entry
b = entry_of (codes "b") (codes "fb" ∷ []) (codes "fa" ∷ [])

abbrev pub c : Entry
c = entry_of (codes "c") [] (codes "fb" ∷ [])

abbrev pub d : Entry
d = entry_of (codes "d") [] (codes "fa" ∷ [])

abbrev pub e : Entry
e = entry_of (codes "e") [] []

abbrev pub machine_of : Kernel → Region → List Entry → Machine
machine_of kernel region entries = record { kernel = kernel; region = region; entries = entries }
