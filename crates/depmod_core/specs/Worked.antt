-- Small trees, whose files can be worked out by hand.
use Rattle.std.specs.Prelude.{ℕ, true, false, List, [], ◌∷◌, None, codes}
use Rattle.module_facts.specs.declared.facts.Facts.{Facts}

-- A module that states nothing.
abbrev pub plain : List ℕ → List ℕ → Facts
plain path name = record {
  path = path;
  name = name;
  exports = [];
  needs = [];
  aliases = [];
  softdeps = [];
  free = true;
  imports = [];
}

abbrev pub a_ko : Facts
a_ko = plain (codes "kernel/a.ko") (codes "a")

abbrev pub b_ko : Facts
b_ko = plain (codes "kernel/b.ko") (codes "b")

abbrev pub c_ko : Facts
c_ko = plain (codes "kernel/c.ko") (codes "c")

-- A module with two aliases, one of them without a normal form, with four softdeps, only one of
-- them usable, and with an export.
abbrev pub x_ko : Facts
x_ko = record (plain (codes "kernel/x.ko") (codes "x")) {
  aliases = codes "pci-x:v0000[!a-f]d*" ∷ codes "bad[x" ∷ [];
  softdeps = codes "pre: a-b" ∷ codes "  " ∷ [] ∷ codes "post: b \\" ∷ [];
  exports = record { name = codes "fx"; symbol = 1; crc = None; gpl = false; space = [] } ∷ [];
}
