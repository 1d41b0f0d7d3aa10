-- The stages of warnings.
use Rattle.std.proofs.Common.{◌≡◌, ℕ, true, List, ◌++◌, ap, sym, subst, ◌∙◌}
use Rattle.std.specs.Prelude.{Option, Some, None, Result, Ok, Bool, codes, ⊤}
use Rattle.symbol_binding.specs.declared.unbound.Unbound.{Unbound}
use Rattle.symbol_binding.specs.declared.unbound.Unbound.TheVariants.{Version}
use Rattle.km_course.specs.Lines.{line}
use Rattle.km_course.specs.Course.{Stage, each_from, warns}
use Rattle.km_course.specs.World.{World}
use Rattle.km_course.specs.Follows.{Follows}
use Rattle.km_course.specs.declared.stop.Stop.{Stop}
use Rattle.km_course.proofs.Steps.{gave}
use Rattle.command_depmod.specs.Warnings.{warning_line, warns_any}

-- the stage of an obstacle, and of those after it
abbrev pub warns_of : Bool → ⊤ → Unbound → Stage ⊤
warns_of versions _ obstacle = warns_any (warning_line versions obstacle)

abbrev pub warns_others : Bool → List Unbound → ⊤ → Stage ⊤
warns_others versions obstacles _ = each_from (warns_of versions) tt obstacles

-- the line was written, where there is one
pub warned : (o : Option (List ℕ)) (text bytes : List ℕ) (old new : World) (r : Result ⊤ Stop)
    → Some text ≡ o → bytes ≡ text → Follows (λ (x : ⊤). x) (warns bytes) old new r
    → Follows (λ (x : ⊤). x) (warns_any o) old new r
warned o text bytes old new r is same f =
    subst (λ line. Follows (λ (x : ⊤). x) (warns_any line) old new r) is
    (subst (λ t. Follows (λ (x : ⊤). x) (warns t) old new r) same f)

pub warned_none : (o : Option (List ℕ)) (w : World) → None ≡ o
    → Follows (λ (x : ⊤). x) (warns_any o) w w (Ok tt)
warned_none o w is =
    subst (λ line. Follows (λ (x : ⊤). x) (warns_any line) w w (Ok tt)) is
    (gave (λ (x : ⊤). x) w tt)

-- the line that warns of a version
pub version-line : (versions : Bool) (obstacle : Unbound) (path symbol provider text : List ℕ)
    → obstacle ≡ Version path symbol provider → versions ≡ true
    → text
    ≡ line
    (codes "warning: " ++ (path ++ (codes " disagrees about version of symbol " ++ symbol)))
    → Some text ≡ warning_line versions obstacle
version-line versions obstacle path symbol provider text is given same =
    ap Some same
    ∙ sym (ap (warning_line versions) is
    ∙ ap (λ b. warning_line b (Version path symbol provider)) given)
