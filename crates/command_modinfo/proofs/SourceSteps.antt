-- The stages of a kernel's modules and of the words of `modinfo`, joined.
use Rattle.std.proofs.Common.{◌≡◌, ℕ, ◌+◌, ◌<◌, List, ◌∷◌, length, drop, get_or, sym, ap, ◌∙◌}
use Rattle.std.proofs.Common.{subst}
use Rattle.std.proofs.lemmas.List.{drop_more}
use Rattle.std.specs.Prelude.{Option, Some, Result, ⊤}
use Rattle.elf_sections.specs.Sections.{FileSections}
use Rattle.modinfo_tool.specs.declared.text.ShowOptions.{ShowOptions}
use Rattle.modinfo_tool.specs.Show.{shown_text}
use Rattle.km_course.specs.Course.{Stage, ◌>>=◌, each_from, gives, says_any}
use Rattle.km_course.specs.World.{World}
use Rattle.km_course.specs.Follows.{Follows}
use Rattle.km_course.specs.declared.stop.Stop.{Stop}
use Rattle.stages_files.specs.declared.kernel_modules.KernelModules.{KernelModules}
use Rattle.command_modinfo.specs.declared.course.Source.{Source}
use Rattle.command_modinfo.specs.declared.course.Source.TheVariants.{Names}
use Rattle.command_modinfo.specs.ModuleInfo.{module_fields}
use Rattle.stages_files.specs.KernelModules.{modules_folder, reads_modules}
use Rattle.command_modinfo.specs.Modinfo.{reads_source, shows, shows_each, shows_word}

-- the stage after a kernel's modules were read
abbrev pub named : KernelModules → Stage Source
named modules = gives (Names modules)

-- the stage after the path of a word was found
abbrev pub shows_found : ShowOptions → List ℕ → Stage ⊤
shows_found options path = shows path options

-- the stage after a module was read
abbrev pub said : List ℕ → ShowOptions → FileSections → Stage ⊤
said path options sections = says_any (shown_text path (module_fields sections) options)

-- a version names the folder whose modules are read
pub by_version : (version : Option (List ℕ)) (root v folder : List ℕ) (old new : World)
    (r : Result Source Stop)
    → version ≡ Some v → folder ≡ modules_folder root v
    → Follows (λ x. x) (reads_modules folder >>= named) old new r
    → Follows (λ x. x) (reads_source version root) old new r
by_version version root v folder old new r is below f =
    subst (λ given. Follows (λ (x : Source). x) (reads_source given root) old new r) (sym is)
    (subst (λ at. Follows (λ (x : Source). x) (reads_modules at >>= named) old new r) below f)

-- the words from one on: it, and the words after it
pub next-word : (words : List (List ℕ)) (i : ℕ) (word : List ℕ) → i < length words
    → word ≡ get_or words i word → drop i words ≡ word ∷ drop (i + 1) words
next-word words i word h is = drop_more words i word h ∙ ap (λ w. w ∷ drop (i + 1) words) (sym is)

-- the stage of the words after the first one
abbrev pub shows_rest : Source → ShowOptions → List (List ℕ) → ⊤ → Stage ⊤
shows_rest source options words shown =
    each_from (λ (_ : ⊤) word. shows_word source options word) shown words

-- the stage after the source of the words was read
abbrev pub shows_from : ShowOptions → List (List ℕ) → Source → Stage ⊤
shows_from options words source = shows_each source options words
