-- The course of `modinfo`. modinfo(8).
use Rattle.std.specs.Prelude.{ℕ, List, Option, Some, None, ⊤}
use Rattle.km_names.specs.Path.{underscored}
use Rattle.kmod_words.specs.declared.modinfo.ModinfoWords.{ModinfoWords}
use Rattle.kmod_words.specs.Modinfo.{modinfo_request}
use Rattle.modinfo_tool.specs.declared.text.ShowOptions.{ShowOptions}
use Rattle.modinfo_tool.specs.Show.{shown_text}
use Rattle.km_course.specs.Course.{Outcome, Stage, ◌>>=◌, given, gives, each_from, says_any}
use Rattle.km_course.specs.Course.Outcome.{value}
use Rattle.km_course.specs.Course.{if_understood}
use Rattle.command_modinfo.specs.declared.course.Source.{Source}
use Rattle.command_modinfo.specs.declared.course.Source.TheVariants.{Paths, Names}
use Rattle.stages_files.specs.ModuleFile.{reads_sections}
use Rattle.command_modinfo.specs.ModuleInfo.{module_fields}
use Rattle.stages_files.specs.KernelModules.{modules_folder, path_outcome, reads_modules}

-- What the words stand for. If there is a version, they are the names of modules of that kernel
-- below the root, and its index is read once, before the first word. Otherwise they are paths.
abbrev pub reads_source : Option (List ℕ) → List ℕ → Stage Source
reads_source None root = gives Paths
reads_source (Some version) root = do
  modules ← reads_modules (modules_folder root version)
  gives (Names modules)

-- The path of the module of a word. In a name `-` is read as `_`.
abbrev pub path_asked : Source → List ℕ → Outcome (List ℕ)
path_asked Paths word = value word
path_asked (Names modules) word = path_outcome modules (underscored word)

-- The module at the path is read, and its text is one writing.
abbrev pub shows : List ℕ → ShowOptions → Stage ⊤
shows path options = do
  sections ← reads_sections path
  says_any (shown_text path (module_fields sections) options)

-- The module of a word, which is looked up at its turn.
abbrev pub shows_word : Source → ShowOptions → List ℕ → Stage ⊤
shows_word source options word = do
  path ← given (path_asked source word)
  shows path options

-- The modules of the words, one after the other.
abbrev pub shows_each : Source → ShowOptions → List (List ℕ) → Stage ⊤
shows_each source options words = each_from (λ _ word. shows_word source options word) tt words

-- how modules are to be shown
abbrev pub options_asked : ModinfoWords → ShowOptions
options_asked asked = record { field = asked.field; zero = asked.zero }

-- The course of a request.
abbrev pub shows_asked : ModinfoWords → Stage ⊤
shows_asked asked = do
  source ← reads_source asked.version asked.basedir
  shows_each source (options_asked asked) asked.words

-- The course of `modinfo` with these words after it.
abbrev pub modinfo_course : List (List ℕ) → Stage ⊤
modinfo_course words = if_understood shows_asked (modinfo_request words)
