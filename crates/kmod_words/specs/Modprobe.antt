-- What the words of `modprobe` ask for. modprobe(8).
use Rattle.std.specs.Prelude.{List, [], ◌∷◌, Bool, true, false, Option, Some, None, T}
use Rattle.std.specs.Prelude.{if◌then◌else◌, option_and_then, unwrap_or, codes}
use Rattle.clap.specs.Words.{App, Row, Text}
use Rattle.kmod_words.specs.Arguments.{command, flag, required, valued, words}
use Rattle.kmod_words.specs.Modes.{goes_with}
use Rattle.kmod_words.specs.Numbers.{region_or_usual}
use Rattle.kmod_words.specs.Understood.{understood, is_given, value_of, words_of, is_version}
use Rattle.kmod_words.specs.declared.modprobe_request.Choice.{Choice}
use Rattle.kmod_words.specs.declared.modprobe.Mode.{Mode}
use Rattle.kmod_words.specs.declared.modprobe.Mode.TheVariants.{Load, DryRun, ShowDepends}
use Rattle.kmod_words.specs.declared.modprobe.Mode.TheVariants.{ResolveAlias, Remove}
use Rattle.kmod_words.specs.declared.modprobe.ModprobeWords.{ModprobeWords}
use Rattle.module_region.specs.declared.region.Region.{Region}

-- The options and the words of `modprobe`.
unfoldable pub modprobe_command : App
modprobe_command = command (codes "modprobe") (
    flag (codes "a") (codes "all")
    ∷ flag (codes "b") (codes "use-blacklist")
    ∷ flag (codes "i") (codes "ignore-install")
    ∷ flag (codes "n") (codes "dry-run")
    ∷ flag (codes "D") (codes "show-depends")
    ∷ flag (codes "R") (codes "resolve-alias")
    ∷ flag (codes "r") (codes "remove")
    ∷ valued (codes "d") (codes "dirname")
    ∷ required (valued (codes "S") (codes "set-version"))
    ∷ valued (codes "C") (codes "config")
    ∷ valued (codes "") (codes "loaded")
    ∷ valued (codes "") (codes "system-map")
    ∷ valued (codes "") (codes "symvers")
    ∷ valued (codes "") (codes "region")
    ∷ valued (codes "") (codes "image")
    ∷ flag (codes "") (codes "params")
    ∷ words (codes "words")
    ∷ []
    )

-- The mode by the flags `-n`, `-D`, `-R` and `-r`: at most one of them is given, but `-n` goes with
-- `-r`.
abbrev pub mode_by_flags : Bool → Bool → Bool → Bool → Option Mode
mode_by_flags false false false false = Some Load
mode_by_flags true false false false = Some DryRun
mode_by_flags false true false false = Some ShowDepends
mode_by_flags false false true false = Some ResolveAlias
mode_by_flags dry_run false false true = Some (Remove dry_run)
mode_by_flags _ _ _ _ = None

abbrev pub mode_asked : List Row → Option Mode
mode_asked rows =
    mode_by_flags (is_given (codes "dry-run") rows) (is_given (codes "show-depends") rows)
    (is_given (codes "resolve-alias") rows) (is_given (codes "remove") rows)

-- Whether the options that only some modes have go with a mode.
abbrev pub options_go : List Row → Mode → Bool
options_go rows mode =
    goes_with mode (value_of (codes "system-map") rows) (value_of (codes "image") rows)
    (is_given (codes "params") rows)

-- What is asked for in this mode, of this version and in this region.
abbrev pub modprobe_of : (rows : List Row) (mode : Mode) → Text → Region → T (options_go rows mode)
    → ModprobeWords
modprobe_of rows mode version region fits = record {
  mode = mode;
  all = is_given (codes "all") rows;
  use_blacklist = is_given (codes "use-blacklist") rows;
  ignore_install = is_given (codes "ignore-install") rows;
  dirname = unwrap_or (value_of (codes "dirname") rows) (codes "/");
  version = version;
  config = value_of (codes "config") rows;
  loaded = value_of (codes "loaded") rows;
  system_map = value_of (codes "system-map") rows;
  symvers = value_of (codes "symvers") rows;
  region_base = region.base;
  region_size = region.size;
  image = value_of (codes "image") rows;
  params = is_given (codes "params") rows;
  words = words_of (codes "words") rows;
  pages = region.pages;
  fits = fits;
}

-- The region of addresses in which modules are placed.
abbrev pub region_asked : ModprobeWords → Region
region_asked asked =
    record { base = asked.region_base; size = asked.region_size; pages = asked.pages }

-- The mode, the version and the region that the matches choose: a version without `/`, and a region
-- of modules.
unfoldable pub chosen : List Row → Option (Mode × Text × Region)
chosen rows =
    option_and_then (λ mode. option_and_then (λ version. option_and_then (λ region.
    if is_version version then Some (mode, version, region) else None)
    (region_or_usual (value_of (codes "region") rows)))
    (value_of (codes "set-version") rows))
    (mode_asked rows)

-- what is made of a test that passes
abbrev pub if_passed : {X : Type 0} (test : Bool) → (T test → X) → Option X
if_passed true make = Some (make tt)
if_passed false make = None

-- What the matches ask for: a mode with which the other options go.
abbrev pub modprobe_asked : List Row → Option ModprobeWords
modprobe_asked rows =
    option_and_then
    (λ choice. if_passed (options_go rows choice.0)
    (modprobe_of rows choice.0 choice.1 choice.2)) (chosen rows)

-- what a choice of the code says
abbrev pub choice_parts : Choice → Mode × Text × Region
choice_parts choice = (choice.mode, choice.version.now, choice.region)

-- What the words ask `modprobe` for, or nothing if they aren't understood.
abbrev pub modprobe_request : List Text → Option ModprobeWords
modprobe_request words = option_and_then modprobe_asked (understood modprobe_command words)
