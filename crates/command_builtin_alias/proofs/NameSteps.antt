-- The stages of a name that built-in modules are looked up by, joined.
use Rattle.std.proofs.Common.{◌≡◌, ℕ, List, [], ◌∷◌, ◌++◌, length, Option, Some, None, refl, sym}
use Rattle.std.proofs.Common.{ap, subst, ◌∙◌, arith}
use Rattle.std.specs.Prelude.{Result, Ok, Err, ⊤, codes, unwrap_or}
use Rattle.km_names.specs.AliasForm.{normal_alias}
use Rattle.km_names.specs.Path.{path_below}
use Rattle.kmod_words.specs.declared.builtin_alias.BuiltinAliasWords.{BuiltinAliasWords}
use Rattle.index_read.specs.declared.index.Index.{Index}
use Rattle.km_course.specs.Course.{Stage, ◌>>=◌, given, says_any}
use Rattle.km_course.specs.Course.Outcome.{value, end}
use Rattle.km_course.specs.World.{World}
use Rattle.km_course.specs.Follows.{Answers, Follows}
use Rattle.km_course.specs.declared.end.End.TheVariants.{Refused}
use Rattle.km_course.specs.declared.refusal.Refusal.TheVariants.{NotFound}
use Rattle.km_course.specs.declared.stop.Stop.{Stop}
use Rattle.km_course.specs.declared.stop.Stop.TheVariants.{Ended}
use Rattle.stages_files.specs.IndexFile.{reads_index}
use Rattle.stages_files.specs.KernelModules.{modules_folder}
use Rattle.km_names.specs.Lines.{lines_text}
use Rattle.command_builtin_alias.specs.BuiltinAlias.{names_found, unless_none}
use Rattle.command_builtin_alias.specs.BuiltinAlias.{found_outcome, shows_names}

-- names that were found are their lines
pub found-some : (asked text : List ℕ) (names : List (List ℕ)) → (length names ≡ 0 → ⊥)
    → text ≡ lines_text names → unless_none asked names ≡ value text
found-some asked text [] some is = absurd (some refl)
found-some asked text (n ∷ names) some is = ap value (sym is)

-- where there are none, the name isn't found
pub found-none : (asked : List ℕ) (names : List (List ℕ)) → length names ≡ 0
    → unless_none asked names ≡ end (Refused (NotFound asked))
found-none asked [] none = refl
found-none asked (n ∷ names) none = absurd (omega (arith, none))

-- the outcome of a name, by its normal form
pub by-form : (index : Index) (name : List ℕ) (form : Option (List ℕ)) → form ≡ normal_alias name
    → unless_none (unwrap_or form name) (names_found index form) ≡ found_outcome index name
by-form index name form is = ap (λ o. unless_none (unwrap_or o name) (names_found index o)) is

-- a refusal that names what isn't found
pub told : (o : List ℕ) (index : Index) (name : List ℕ) (stop : Stop)
    → found_outcome index name ≡ end (Refused (NotFound o)) → stop ≡ Ended (Refused (NotFound o))
    → Answers (λ (x : List ℕ). x) (found_outcome index name) (Err stop)
told o index name stop is ended =
    subst (λ s. Answers (λ (x : List ℕ). x) (found_outcome index name) (Err s)) (sym ended) is

-- the stage after the index was read
abbrev pub found_in : List ℕ → Index → Stage ⊤
found_in name index = given (found_outcome index name) >>= λ text. says_any text

-- what is asked for, where its folder and its file are these
pub at-asked : (asked : BuiltinAliasWords) (folder file : List ℕ) (old new : World)
    (r : Result ⊤ Stop)
    → folder ≡ modules_folder asked.dirname asked.version
    → file ≡ path_below folder (codes "modules.builtin.alias.bin")
    → Follows (λ x. x) (reads_index file >>= found_in asked.name) old new r
    → Follows (λ x. x) (shows_names asked) old new r
at-asked asked folder file old new r place is f =
    subst (λ p. Follows (λ (x : ⊤). x)
    (reads_index (path_below p (codes "modules.builtin.alias.bin")) >>= found_in asked.name) old
    new r) place
    (subst (λ p. Follows (λ (x : ⊤). x) (reads_index p >>= found_in asked.name) old new r) is f)
