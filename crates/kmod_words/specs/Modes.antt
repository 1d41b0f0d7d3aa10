-- The options that only some modes of `modprobe` have. modprobe(8).
use Rattle.std.specs.Prelude.{ℕ, ◌&&◌, ◌||◌, Bool, List, Option, Some, None, T, is_some, not}
use Rattle.kmod_words.specs.declared.modprobe.Mode.{Mode}
use Rattle.kmod_words.specs.declared.modprobe.Mode.TheVariants.{Load, DryRun, ShowDepends}
use Rattle.kmod_words.specs.declared.modprobe.Mode.TheVariants.{ResolveAlias, Remove}

-- Whether a mode goes with these: what `--system-map` and `--image` name, and whether `--params` is
-- given. A load and a removal need the addresses of a System.map, `--params` is for a load, and a
-- removal has no `--image`.
abbrev pub goes_with : Mode → Option (List ℕ) → Option (List ℕ) → Bool → Bool
goes_with Load map image params = is_some map
goes_with DryRun map image params = not params
goes_with ShowDepends map image params = not params
goes_with ResolveAlias map image params = not params
goes_with (Remove dry_run) map image params = is_some map && not (is_some image || params)

-- The path of a System.map that is given.
abbrev pub given_map : (map : Option (List ℕ)) → T (is_some map) → List ℕ
given_map (Some path) given = path
given_map None given = absurd given
