-- The course of `builtin-alias`, this project's own command. modprobe.d(5), "alias".
use Rattle.std.specs.Prelude.{ℕ, List, [], ◌∷◌, map, Option, Some, None, ⊤, codes}
use Rattle.km_names.specs.AliasForm.{normal_alias, normal_or_itself}
use Rattle.km_names.specs.Path.{path_below}
use Rattle.km_names.specs.Lines.{lines_text}
use Rattle.index_read.specs.declared.index.Index.{Index}
use Rattle.index_read.specs.Contents.{contents, wild_values}
use Rattle.name_table.specs.FirstSeen.{first_seen}
use Rattle.kmod_words.specs.declared.builtin_alias.BuiltinAliasWords.{BuiltinAliasWords}
use Rattle.kmod_words.specs.BuiltinAlias.{builtin_alias_request}
use Rattle.km_course.specs.Course.{Outcome, Stage, ◌>>=◌, given, says_any, if_understood}
use Rattle.km_course.specs.Course.Outcome.{value, end}
use Rattle.km_course.specs.declared.end.End.TheVariants.{Refused}
use Rattle.km_course.specs.declared.refusal.Refusal.TheVariants.{NotFound}
use Rattle.stages_files.specs.IndexFile.{reads_index}
use Rattle.stages_files.specs.KernelModules.{modules_folder}

-- The names of the modules that a name in its normal form stands for by an index, each once: the
-- texts of the values of all keys that match it.
abbrev pub names_found : Index → Option (List ℕ) → List (List ℕ)
names_found index None = []
names_found index (Some normal) =
    first_seen (map (λ v. v.1) (wild_values (contents index.nodes) normal))

-- what names result in: their lines, and if there are none, that the name that stands for them
-- isn't found
abbrev pub unless_none : List ℕ → List (List ℕ) → Outcome (List ℕ)
unless_none asked [] = end (Refused (NotFound asked))
unless_none asked (name ∷ names) = value (lines_text (name ∷ names))

-- What a name results in. One that isn't found is reported in its normal form, if it has one.
abbrev pub found_outcome : Index → List ℕ → Outcome (List ℕ)
found_outcome index name =
    unless_none (normal_or_itself name) (names_found index (normal_alias name))

-- The course of a request: the names are one writing.
abbrev pub shows_names : BuiltinAliasWords → Stage ⊤
shows_names asked = do
  index ← reads_index
      (path_below (modules_folder asked.dirname asked.version) (codes "modules.builtin.alias.bin"))
  text ← given (found_outcome index asked.name)
  says_any text

-- The course of `builtin-alias` with these words after it.
abbrev pub builtin_alias_course : List (List ℕ) → Stage ⊤
builtin_alias_course words = if_understood shows_names (builtin_alias_request words)
