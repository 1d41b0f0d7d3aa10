-- A tree of two modules, one using the other: the premises of the law on closed plans hold for it.
use Rattle.std.specs.Prelude.{◌≡◌, true, false, List, [], ◌∷◌, ◌++◌, codes, Some, if◌then◌else◌}
use Rattle.std.specs.Str.{bytes_eq}
use Rattle.module_facts.specs.declared.facts.Facts.{Facts}
use Rattle.symbol_binding.specs.Unmet.{unmet}
use Rattle.kernel_exports.specs.declared.kernel.Kernel.{Kernel}
use Rattle.provider_rel.specs.Faces.{modules_of, kernel_of}
use Rattle.laws_closed_plans.specs.Lines.{Lines, AreClosed}
use Rattle.laws_closed_plans.specs.Binding.{IsIndexed}

-- A module that exports `x`, and one that needs it.
abbrev pub giver : Facts
giver = record {
  path = codes "p.ko";
  name = codes "p";
  exports
      = record { name = codes "x"; symbol = 1; crc = Some 1; gpl = true; space = codes "NS" } ∷ [];
  needs = [];
  aliases = [];
  softdeps = [];
  free = true;
  imports = [];
}

abbrev pub taker : Facts
taker = record {
  path = codes "m.ko";
  name = codes "m";
  exports = [];
  needs = record { name = codes "x"; symbol = 1; weak = false; crc = Some 1 } ∷ [];
  aliases = [];
  softdeps = [];
  free = true;
  imports = codes "NS" ∷ [];
}

abbrev pub two : List Facts
two = giver ∷ taker ∷ []

-- Their dependency lines.
abbrev pub two_lines : Lines
two_lines = record {
  path = λ name. name ++ codes ".ko";
  line = λ name. if bytes_eq name (codes "m") then codes "p" ∷ [] else [];
}

-- Over a known kernel that exports nothing they have a relation, and a plan of both is closed.
abbrev pub TwoAreClosed : Type 0
TwoAreClosed =
    (kernel : Kernel) → kernel.known ≡ true → kernel.exports ≡ []
    → IsIndexed two kernel two_lines
    × AreClosed two_lines (unmet (modules_of two) (kernel_of kernel)) []
    (codes "p" ∷ codes "m" ∷ [])
