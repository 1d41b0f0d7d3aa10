-- What `depmod -e` warns of. depmod(8), `-e`.
use Rattle.std.specs.Prelude.{ℕ, Bool, List, ◌++◌, codes, Option, Some, None, if◌then◌else◌, ⊤}
use Rattle.symbol_binding.specs.declared.unbound.Unbound.{Unbound}
use Rattle.symbol_binding.specs.declared.unbound.Unbound.TheVariants.{Missing, Gpl, Version}
use Rattle.symbol_binding.specs.declared.unbound.Unbound.TheVariants.{Namespace, Double}
use Rattle.km_course.specs.Course.{Stage, gives, warns, each_from, when◌then◌else◌}
use Rattle.km_course.specs.Lines.{line}

-- The line that warns of an obstacle: one of a symbol that nothing exports, and one of a version
-- that differs, if versions are known. The others are no warnings.
abbrev pub warning_line : Bool → Unbound → Option (List ℕ)
warning_line versions (Missing path symbol) =
    Some (line (codes "warning: " ++ (path ++ (codes " needs unknown symbol " ++ symbol))))
warning_line versions (Version path symbol provider) =
    if versions
    then Some (line
    (codes "warning: "
    ++ (path ++ (codes " disagrees about version of symbol " ++ symbol))))
    else None
warning_line versions (Gpl path symbol provider) = None
warning_line versions (Namespace path symbol provider) = None
warning_line versions (Double symbol first second) = None

-- the line to err, if there is one
abbrev pub warns_any : Option (List ℕ) → Stage ⊤
warns_any None = gives tt
warns_any (Some text) = warns text

-- The warnings of some obstacles, in their order, each one writing.
abbrev pub warns_each : Bool → List Unbound → Stage ⊤
warns_each versions obstacles =
    each_from (λ _ obstacle. warns_any (warning_line versions obstacle)) tt obstacles

-- The warnings, if they are asked for.
abbrev pub warns_unmet : Bool → Bool → List Unbound → Stage ⊤
warns_unmet errsyms versions obstacles =
    when errsyms then warns_each versions obstacles else gives tt
