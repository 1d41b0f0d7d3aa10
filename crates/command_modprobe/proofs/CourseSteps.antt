-- The course of a request, by its mode and the System.map that it has.
use Rattle.std.proofs.Common.{◌≡◌, Bool, ℕ, List, Option, Some, None, T, ◌||◌, is_some, not, refl}
use Rattle.std.proofs.Common.{sym, ap, subst}
use Rattle.std.specs.Prelude.{Result, unwrap_or, ⊤}
use Rattle.std.proofs.Math.Facts.{and_yes}
use Rattle.kmod_words.specs.Modes.{given_map, goes_with}
use Rattle.kmod_words.specs.declared.modprobe.Mode.{Mode}
use Rattle.kmod_words.specs.declared.modprobe.Mode.TheVariants.{Load, Remove}
use Rattle.kmod_words.specs.declared.modprobe.ModprobeWords.{ModprobeWords}
use Rattle.km_course.specs.Course.{Stage}
use Rattle.km_course.specs.World.{World}
use Rattle.km_course.specs.Follows.{Follows}
use Rattle.km_course.specs.declared.stop.Stop.{Stop}
use Rattle.command_remove.specs.Remove.{removes}
use Rattle.command_modprobe.specs.Loaded.{loads_plan}
use Rattle.command_modprobe.specs.Modprobe.{modprobe_in_mode}

-- the options of a request go with a mode
abbrev pub Fits : Mode → ModprobeWords → Type 0
Fits mode asked = T (goes_with mode asked.system_map asked.image asked.params)

-- this is the path of a System.map, if one is given
abbrev pub IsMap : Option (List ℕ) → List ℕ → Type 0
IsMap map path = (given : T (is_some map)) → path ≡ given_map map given

pub is-map : (map : Option (List ℕ)) (path : List ℕ) → map ≡ Some path → IsMap map path
is-map (Some other) path is given = sym (ap (λ o. unwrap_or o path) is)
is-map None path is given = absurd given

pub map-given : (map : Option (List ℕ)) (given : T (is_some map)) → map ≡ Some (given_map map given)
map-given (Some path) given = refl
map-given None given = absurd given

-- a removal has a System.map
abbrev pub removal-has : (dry_run : Bool) (asked : ModprobeWords) → Fits (Remove dry_run) asked
    → T (is_some asked.system_map)
removal-has dry_run asked fits =
    (and_yes (is_some asked.system_map) (not (is_some asked.image || asked.params)) fits).0

-- the course of a mode that is this one
pub of-mode : (asked : ModprobeWords) (course : Stage ⊤) (known mode : Mode) → mode ≡ known
    → ((fits : Fits known asked) → modprobe_in_mode known asked fits ≡ course)
    → (fits : Fits mode asked) → modprobe_in_mode mode asked fits ≡ course
of-mode asked course known mode is so =
    subst (λ (m : Mode). (fits : Fits m asked) → modprobe_in_mode m asked fits ≡ course) (sym is) so

-- the course of a load, and of a removal
pub loads-in : (asked : ModprobeWords) (path : List ℕ) (mode : Mode) → mode ≡ Load
    → IsMap asked.system_map path → (fits : Fits mode asked)
    → modprobe_in_mode mode asked fits ≡ loads_plan asked path
loads-in asked path mode is at =
    of-mode asked (loads_plan asked path) Load mode is
    (λ fits. ap (loads_plan asked) (sym (at fits)))

pub removes-in : (dry_run : Bool) (asked : ModprobeWords) (path : List ℕ) (mode : Mode)
    → mode ≡ Remove dry_run → IsMap asked.system_map path → (fits : Fits mode asked)
    → modprobe_in_mode mode asked fits ≡ removes dry_run asked path
removes-in dry_run asked path mode is at =
    of-mode asked (removes dry_run asked path) (Remove dry_run) mode is
    (λ fits. ap (removes dry_run asked) (sym (at (removal-has dry_run asked fits))))

-- what followed a course followed the same one
pub same-course : {a b : Stage ⊤} {old new : World} {r : Result ⊤ Stop} → a ≡ b
    → Follows (λ x. x) b old new r → Follows (λ x. x) a old new r
same-course {a} {b} {old} {new} {r} is f =
    subst (λ s. Follows (λ (x : ⊤). x) s old new r) (sym is) f
