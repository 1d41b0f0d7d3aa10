-- What is read of a folder that is as it was indexed.
use Rattle.std.proofs.Common.{◌≡◌, ◌∙◌, ◌≤◌, ◌^◌, ℕ, List, [], ◌∷◌, ◌++◌, length, None, cond, refl}
use Rattle.std.proofs.Common.{sym, ap, subst, arith}
use Rattle.std.specs.Prelude.{Option, Ok, codes}
use Rattle.std.proofs.lemmas.Bool.{le-ltb}
use Rattle.km_names.specs.Limit.{file_limit}
use Rattle.km_names.specs.Path.{path_below}
use Rattle.km_names.specs.declared.conf.ConfFile.{ConfFile}
use Rattle.outside_calls.specs.Contents.{Contents}
use Rattle.km_course.specs.Course.{Outcome, ◌>>=◌, given, read_outcome, reads, reads_any, reads_or}
use Rattle.km_course.specs.Course.Outcome.{value, end}
use Rattle.km_course.specs.declared.end.End.TheVariants.{NoFile, TooLarge}
use Rattle.index_format.specs.Check.{index_fault}
use Rattle.modprobe_conf.specs.declared.rule.Rule.{Rule}
use Rattle.modprobe_conf.specs.Rules.{rules_of}
use Rattle.symbol_binding.specs.declared.unbound.Unbound.{Unbound}
use Rattle.symbol_binding.specs.Unmet.{unmet}
use Rattle.unmet_file.specs.Unmet.{unmet_of}
use Rattle.module_facts.specs.declared.facts.Facts.{Facts}
use Rattle.kernel_exports.specs.declared.kernel.Kernel.{Kernel}
use Rattle.provider_rel.specs.Faces.{modules_of, kernel_of}
use Rattle.stated_texts.specs.Stated.{softdep_text}
use Rattle.depmod_core.specs.declared.file.OutputFile.{OutputFile}
use Rattle.depmod_core.specs.declared.file.OutputFile.TheVariants.{AliasBin, BuiltinBin, DepBin}
use Rattle.depmod_core.specs.declared.file.OutputFile.TheVariants.{Softdep, SymbolsBin, Unmet}
use Rattle.depmod_core.specs.declared.files.OutputFiles.{OutputFiles}
use Rattle.depmod_core.specs.Files.{StandFor, content, files, files_by}
use Rattle.laws_indexed_folder.specs.Indexed.{HasFile, Indexed}
use Rattle.laws_indexed_folder.proofs.IndexedLemmas.{folders-read}
use Rattle.laws_indexed_folder.proofs.StandingLemmas.{file-within, files-stand}
use Rattle.stages_files.specs.Configuration.{reads_configuration, stated_outcome}
use Rattle.stages_files.specs.declared.configuration.Tool.TheVariants.{Modprobe}
use Rattle.stages_files.specs.IndexFile.{index_of, index_outcome}
use Rattle.stages_known.specs.declared.known.Known.{Known}
use Rattle.stages_known.specs.Known.{reads_index_in, reads_indexes, reads_known, reads_lists}
use Rattle.stages_known.specs.Known.{reads_loaded, reads_rules, reads_unmet}
use Rattle.stages_known.proofs.KnownSteps.{after_alias, after_builtin, after_configuration}
use Rattle.stages_known.proofs.KnownSteps.{after_dep, after_indexes, after_loaded, after_rules}
use Rattle.stages_known.proofs.KnownSteps.{after_softdep, after_symbols, after_unmet, softdep_more}
use Rattle.stages_known.proofs.KnownSteps.{softdep_stated, unmet_stated}
use Rattle.laws_planned_loads.specs.Reading.{FoldersAreRead, IsFolderRead, IsReading, ReadingsEnd}
use Rattle.laws_planned_loads.specs.Reading.{bad_configuration, indexes_of, is_known, known_of}
use Rattle.laws_planned_loads.specs.Reading.{no_configuration, no_list, softdep_rules}
use Rattle.laws_planned_loads.proofs.EndsLemmas.{given-comes, on-end, on-value}
use Rattle.laws_planned_loads.proofs.KnownLemmas.{index_read, only-configuration, only-index}
use Rattle.laws_planned_loads.proofs.KnownLemmas.{only-indexes, only-loaded, only-rules, only-unmet}
use Rattle.laws_planned_loads.proofs.KnownLemmas.{was-stated}
use Rattle.laws_planned_loads.proofs.RunLemmas.{reads-file, reads-given, run-read}
use Rattle.laws_planned_loads.proofs.SoftdepLemmas.{softdep-understood}

-- a file that is there, and no greater than one that is read
read-within : (absent : Outcome (List ℕ)) (path : List ℕ) (files : Contents) (bytes : List ℕ)
    → HasFile files path bytes → length bytes ≤ 2 ^ 26
    → ((reads_or absent path).run files).outcome ≡ value bytes
read-within absent path files bytes there low =
    ap (λ r. r.outcome) (run-read absent path files) ∙ ap (read_outcome absent path) there
    ∙ ap (λ v. cond v (end (TooLarge path)) (value bytes))
    (le-ltb file_limit (length bytes) (omega arith))

-- an index that is accepted
index-within : (folder name : List ℕ) (files : Contents) (bytes : List ℕ)
    → HasFile files (path_below folder name) bytes → length bytes ≤ 2 ^ 26
    → index_fault bytes ≡ None
    → ((reads_index_in folder name).run files).outcome ≡ value (index_of bytes)
unfolding index_outcome
index-within folder name files bytes there low accepted =
    let file = path_below folder name in
    on-value (reads file) (index_read file) files bytes (reads-file (end (NoFile file)) file)
    (read-within (end (NoFile file)) file files bytes there low)
    ∙ given-comes (index_outcome file bytes (index_fault bytes)) files
    ∙ ap (index_outcome file bytes) accepted

module _ (held : Contents) (folder : List ℕ) (tree : List Facts) (kernel : Kernel)
    (builtin : List ℕ) (indexed : Indexed held folder tree kernel builtin) where
  abbrev made : OutputFiles
  made = files tree (kernel_of kernel) builtin

  within : (name : OutputFile) → length (content made name) ≤ 2 ^ 26
  within name = file-within made indexed.small name

  pub stand : StandFor tree (kernel_of kernel) builtin made
  stand = files-stand tree (kernel_of kernel) builtin indexed.is_tree indexed.small

  pub indexes-come : ((reads_indexes folder).run held).outcome ≡ value (indexes_of made)
  indexes-come =
      let dep = index_of made.dep_bin in
      let alias = index_of made.alias_bin in
      let symbols = index_of made.symbols_bin in
      on-value (reads_index_in folder (codes "modules.dep.bin")) (after_dep folder) held dep
      (only-index folder (codes "modules.dep.bin"))
      (index-within folder (codes "modules.dep.bin") held made.dep_bin indexed.made.dep
      (within DepBin) stand.dep.accepted)
      ∙ on-value (reads_index_in folder (codes "modules.alias.bin")) (after_alias folder dep) held
      alias (only-index folder (codes "modules.alias.bin"))
      (index-within folder (codes "modules.alias.bin") held made.alias_bin indexed.made.alias
      (within AliasBin) stand.alias.accepted)
      ∙ on-value (reads_index_in folder (codes "modules.symbols.bin"))
      (after_symbols folder dep alias) held symbols
      (only-index folder (codes "modules.symbols.bin"))
      (index-within folder (codes "modules.symbols.bin") held made.symbols_bin
      indexed.made.symbols (within SymbolsBin) stand.symbols.accepted)
      ∙ on-value (reads_index_in folder (codes "modules.builtin.bin"))
      (after_builtin dep alias symbols) held (index_of made.builtin_bin)
      (only-index folder (codes "modules.builtin.bin"))
      (index-within folder (codes "modules.builtin.bin") held made.builtin_bin
      indexed.made.built_in (within BuiltinBin) stand.built_in.accepted)
      ∙ given-comes (value (indexes_of made)) held

  softdep-is : made.softdep ≡ softdep_text tree
  unfolding files files_by
  softdep-is = refl

  pub rules-come : (stated : List Rule)
      → ((reads_rules stated folder).run held).outcome ≡ value (stated ++ softdep_rules tree)
  rules-come stated =
      let file = path_below folder (codes "modules.softdep") in
      let one : List ℕ → List ConfFile = λ bytes. record { path = file; bytes = bytes } ∷ [] in
      let more : ((given (stated_outcome (rules_of (one made.softdep)))).run held).outcome
      ≡ value (softdep_rules tree)
      =
      given-comes (stated_outcome (rules_of (one made.softdep))) held
      ∙ ap (λ bytes. stated_outcome (rules_of (one bytes))) softdep-is
      ∙ ap stated_outcome (softdep-understood tree file indexed.is_tree) in
      on-value (reads_any file) (softdep_stated stated file) held made.softdep
      (reads-file (value []) file)
      (read-within (value []) file held made.softdep indexed.made.softdep (within Softdep))
      ∙ on-value (given (stated_outcome (rules_of (one made.softdep)))) (softdep_more stated) held
      (softdep_rules tree) (reads-given (stated_outcome (rules_of (one made.softdep)))) more
      ∙ given-comes (value (stated ++ softdep_rules tree)) held

  pub unmet-comes : ((reads_unmet folder).run held).outcome
      ≡ value (unmet (modules_of tree) (kernel_of kernel))
  unmet-comes =
      let file = path_below folder (codes "modules.unmet") in
      on-value (reads_any file) (unmet_stated file) held made.unmet (reads-file (value []) file)
      (read-within (value []) file held made.unmet indexed.made.unmet (within Unmet))
      ∙ given-comes (stated_outcome (unmet_of file made.unmet)) held
      ∙ ap stated_outcome
      ((folders-read held folder tree kernel builtin indexed).unmet file made.unmet
      indexed.made.unmet)

  pub folder-is-read : IsFolderRead held folder tree kernel builtin
  folder-is-read
      = record { indexes = indexes-come; stand = stand; softdep = rules-come; unmet = unmet-comes }

  -- ---- the whole reading

  abbrev lines : List Unbound
  lines = unmet (modules_of tree) (kernel_of kernel)

  lists-come : (stated : List Rule) (listing : Option (List ℕ))
      → ((reads_lists stated folder (indexes_of made) listing).run held).outcome
      ≡ ((reads_loaded listing
      >>= after_loaded (indexes_of made) (stated ++ softdep_rules tree) lines).run
      held).outcome
  lists-come stated listing =
      on-value (reads_rules stated folder) (after_softdep folder (indexes_of made) listing) held
      (stated ++ softdep_rules tree) (only-rules stated folder) (rules-come stated)
      ∙ on-value (reads_unmet folder)
      (after_unmet (indexes_of made) listing (stated ++ softdep_rules tree)) held lines
      (only-unmet folder) unmet-comes

  understood-come : (config listing : Option (List ℕ)) (configuration : List ConfFile)
      (stated : List Rule)
      → ((reads_configuration Modprobe config).run held).outcome ≡ value configuration
      → rules_of configuration ≡ Ok stated
      → ((reads_known config folder listing).run held).outcome
      ≡ ((reads_loaded listing
      >>= after_loaded (indexes_of made) (stated ++ softdep_rules tree) lines).run
      held).outcome
  understood-come config listing configuration stated came is =
      on-value (reads_configuration Modprobe config) (after_configuration folder listing) held
      configuration (only-configuration Modprobe config) came
      ∙ on-value (given (stated_outcome (rules_of configuration))) (after_rules folder listing) held
      stated (reads-given (stated_outcome (rules_of configuration)))
      (given-comes (stated_outcome (rules_of configuration)) held ∙ ap stated_outcome is)
      ∙ on-value (reads_indexes folder) (after_indexes stated folder listing) held (indexes_of made)
      (only-indexes folder) indexes-come
      ∙ lists-come stated listing

  module _ (config listing : Option (List ℕ)) where
    abbrev Comes : Outcome Known → Type 0
    Comes o = IsReading held config listing tree kernel builtin o

    by-loaded : (configuration : List ConfFile) (stated : List Rule) (o : Outcome (List (List ℕ)))
        → ((reads_configuration Modprobe config).run held).outcome ≡ value configuration
        → rules_of configuration ≡ Ok stated → ((reads_loaded listing).run held).outcome ≡ o
        → Comes ((reads_known config folder listing).run held).outcome
    by-loaded configuration stated (value loaded) came is read =
        subst Comes
        (sym (understood-come config listing configuration stated came is
        ∙ on-value (reads_loaded listing)
        (after_loaded (indexes_of made) (stated ++ softdep_rules tree) lines) held loaded
        (only-loaded listing) read
        ∙ given-comes (value (known_of tree kernel builtin stated loaded)) held))
        (is_known configuration stated loaded came is read)
    by-loaded configuration stated (end e) came is read =
        subst Comes
        (sym (understood-come config listing configuration stated came is
        ∙ on-end (reads_loaded listing)
        (after_loaded (indexes_of made) (stated ++ softdep_rules tree) lines) held e read))
        (no_list e read)

    by-stated : (configuration : List ConfFile) (o : Outcome (List Rule))
        → ((reads_configuration Modprobe config).run held).outcome ≡ value configuration
        → stated_outcome (rules_of configuration) ≡ o
        → Comes ((reads_known config folder listing).run held).outcome
    by-stated configuration (value stated) came is =
        by-loaded configuration stated ((reads_loaded listing).run held).outcome came
        (was-stated (rules_of configuration) stated is) refl
    by-stated configuration (end e) came is =
        subst Comes
        (sym (on-value (reads_configuration Modprobe config) (after_configuration folder listing)
        held configuration (only-configuration Modprobe config) came
        ∙ on-end (given (stated_outcome (rules_of configuration))) (after_rules folder listing) held
        e (given-comes (stated_outcome (rules_of configuration)) held ∙ is)))
        (bad_configuration configuration e came is)

    by-configuration : (o : Outcome (List ConfFile))
        → ((reads_configuration Modprobe config).run held).outcome ≡ o
        → Comes ((reads_known config folder listing).run held).outcome
    by-configuration (value configuration) came =
        by-stated configuration (stated_outcome (rules_of configuration)) came refl
    by-configuration (end e) came =
        subst Comes (sym
        (on-end (reads_configuration Modprobe config) (after_configuration folder listing) held
        e came)) (no_configuration e came)

    pub reading-ends : Comes ((reads_known config folder listing).run held).outcome
    reading-ends = by-configuration ((reads_configuration Modprobe config).run held).outcome refl

pub folders-are-read : FoldersAreRead
folders-are-read held folder tree kernel builtin indexed =
    folder-is-read held folder tree kernel builtin indexed

pub readings-end : ReadingsEnd
readings-end held folder tree kernel builtin indexed config listing =
    reading-ends held folder tree kernel builtin indexed config listing
