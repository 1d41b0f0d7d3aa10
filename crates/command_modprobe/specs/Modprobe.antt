-- The course of `modprobe`. modprobe(8).
use Rattle.std.specs.Prelude.{ℕ, ◌||◌, List, T, is_some, not, ⊤}
use Rattle.std.proofs.Math.Facts.{and_yes}
use Rattle.kmod_words.specs.declared.modprobe.Mode.{Mode}
use Rattle.kmod_words.specs.declared.modprobe.Mode.TheVariants.{Load, DryRun, ShowDepends}
use Rattle.kmod_words.specs.declared.modprobe.Mode.TheVariants.{ResolveAlias, Remove}
use Rattle.kmod_words.specs.declared.modprobe.ModprobeWords.{ModprobeWords}
use Rattle.kmod_words.specs.Modes.{given_map, goes_with}
use Rattle.kmod_words.specs.Modprobe.{modprobe_request}
use Rattle.km_course.specs.Course.{Stage, if_understood}
use Rattle.command_remove.specs.Remove.{removes}
use Rattle.command_modprobe.specs.Resolved.{resolves_alias}
use Rattle.command_modprobe.specs.Planned.{shows_plan}
use Rattle.command_modprobe.specs.Loaded.{loads_plan}

-- The course of a request in this mode, which goes with its other options. A load and a removal
-- have the System.map that they need.
abbrev pub modprobe_in_mode : (mode : Mode) (asked : ModprobeWords)
    → T (goes_with mode asked.system_map asked.image asked.params) → Stage ⊤
modprobe_in_mode ResolveAlias asked fits = resolves_alias asked
modprobe_in_mode Load asked fits = loads_plan asked (given_map asked.system_map fits)
modprobe_in_mode DryRun asked fits = shows_plan asked
modprobe_in_mode ShowDepends asked fits = shows_plan asked
modprobe_in_mode (Remove dry_run) asked fits =
    removes dry_run asked
    (given_map asked.system_map
    (and_yes (is_some asked.system_map) (not (is_some asked.image || asked.params)) fits).0)

-- The course of a request, in its mode.
abbrev pub modprobe_requested : ModprobeWords → Stage ⊤
modprobe_requested asked = modprobe_in_mode asked.mode asked asked.fits

-- The course of `modprobe` with these words after it.
abbrev pub modprobe_course : List (List ℕ) → Stage ⊤
modprobe_course words = if_understood modprobe_requested (modprobe_request words)
