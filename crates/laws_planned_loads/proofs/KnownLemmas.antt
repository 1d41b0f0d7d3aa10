-- What modprobe knows after its reading, by the files of a folder.
use Rattle.std.proofs.Common.{◌≡◌, ◌∙◌, ℕ, Bool, true, false, cond, List, [], ◌∷◌, ◌++◌, length}
use Rattle.std.proofs.Common.{None, refl, sym, ap}
use Rattle.std.specs.Prelude.{Option, Some, Result, Ok, Err, codes, nat_eq, nat_lt}
use Rattle.std.specs.FinMap.{get}
use Rattle.std.specs.List.{ends_with}
use Rattle.km_names.specs.Limit.{file_limit}
use Rattle.km_names.specs.Path.{path_below}
use Rattle.km_names.specs.Statements.{LinePlace}
use Rattle.km_names.specs.declared.conf.ConfFile.{ConfFile}
use Rattle.outside_calls.specs.Contents.{Contents}
use Rattle.km_course.specs.Course.{Outcome, Stage, ◌>>=◌, given, gives, read_outcome, reads}
use Rattle.km_course.specs.Course.{reads_any, reads_or, lists_any_conf, lists_conf}
use Rattle.km_course.specs.Course.Outcome.{value, end}
use Rattle.km_course.specs.declared.end.End.TheVariants.{NoFile, TooLarge}
use Rattle.index_format.specs.Check.{Fault, index_fault}
use Rattle.index_read.specs.declared.index.Index.{Index}
use Rattle.modprobe_conf.specs.declared.rule.Rule.{Rule}
use Rattle.modprobe_conf.specs.Rules.{rules_of}
use Rattle.name_lookup.specs.declared.indexes.Indexes.{Indexes}
use Rattle.symbol_binding.specs.declared.unbound.Unbound.{Unbound}
use Rattle.unmet_file.specs.Unmet.{unmet_of}
use Rattle.stages_files.specs.Configuration.{folder_name, lists_folder, lists_folders, paths_of}
use Rattle.stages_files.specs.Configuration.{reads_configuration, reads_file, reads_files}
use Rattle.stages_files.specs.Configuration.{reads_given, reads_listed, roots, stated_outcome}
use Rattle.stages_files.specs.declared.configuration.ListedFolder.{ListedFolder}
use Rattle.stages_files.specs.declared.configuration.Tool.{Tool}
use Rattle.stages_files.specs.declared.configuration.Tool.TheVariants.{Modprobe}
use Rattle.stages_files.specs.IndexFile.{index_of, index_outcome}
use Rattle.stages_known.specs.declared.known.Known.{Known}
use Rattle.stages_known.specs.Known.{reads_index_in, reads_indexes, reads_known, reads_lists}
use Rattle.stages_known.specs.Known.{reads_loaded, reads_rules, reads_unmet}
use Rattle.stages_known.proofs.KnownSteps.{after_alias, after_builtin, after_configuration}
use Rattle.stages_known.proofs.KnownSteps.{after_dep, after_indexes, after_loaded, after_rules}
use Rattle.stages_known.proofs.KnownSteps.{after_softdep, after_symbols, after_unmet, loaded_stated}
use Rattle.stages_known.proofs.KnownSteps.{softdep_more, softdep_stated, unmet_stated}
use Rattle.laws_planned_loads.proofs.RunLemmas.{OnlyReads, given-on, reads-each, reads-given}
use Rattle.laws_planned_loads.proofs.RunLemmas.{reads-names, reads-on, reads-file, reads-then}
use Rattle.laws_planned_loads.proofs.RunLemmas.{reads-when, run-read, run-given}

-- ---- the reading only reads

-- the files of a configuration with one more
abbrev pub one_more_file : List ConfFile → List ℕ → List ℕ → Stage (List ConfFile)
one_more_file files path bytes = gives (files ++ record { path = path; bytes = bytes } ∷ [])

only-file : (files : List ConfFile) (path : List ℕ) → OnlyReads (reads_file files path)
only-file files path =
    reads-then (reads path) (one_more_file files path) (reads-file (end (NoFile path)) path)
    (λ bytes. reads-given (value (files ++ record { path = path; bytes = bytes } ∷ [])))

only-files : (paths : List (List ℕ)) → OnlyReads (reads_files paths)
only-files paths = reads-each reads_file only-file [] paths

abbrev pub one_more_folder : List ListedFolder → List ℕ → List (List ℕ) → Stage (List ListedFolder)
one_more_folder listed path names = gives (listed ++ record { path = path; names = names } ∷ [])

only-folder : (name : List ℕ) (listed : List ListedFolder) (root : List ℕ)
    → OnlyReads (lists_folder name listed root)
only-folder name listed root =
    reads-then (lists_any_conf (path_below root name))
    (one_more_folder listed (path_below root name))
    (reads-names (value []) _ (path_below root name)) (λ names. reads-given _)

only-folders : (name : List ℕ) (places : List (List ℕ)) → OnlyReads (lists_folders name places)
only-folders name places = reads-each (lists_folder name) (only-folder name) [] places

abbrev pub of_folder : List ℕ → List (List ℕ) → Stage (List ConfFile)
of_folder path names = reads_listed (record { path = path; names = names } ∷ [])

only-given_path : (path : List ℕ) → OnlyReads (reads_given path)
only-given_path path =
    reads-when (ends_with nat_eq path (codes ".conf")) (reads_files (path ∷ []))
    (lists_conf path >>= of_folder path)
    (only-files (path ∷ []))
    (reads-then (lists_conf path) (of_folder path) (reads-names (end (NoFile path)) _ path)
    (λ names. only-files (paths_of (record { path = path; names = names } ∷ []))))

pub only-configuration : (tool : Tool) (config : Option (List ℕ))
    → OnlyReads (reads_configuration tool config)
only-configuration tool (Some path) = only-given_path path
only-configuration tool None =
    reads-then (lists_folders (folder_name tool) roots) reads_listed
    (only-folders (folder_name tool) roots) (λ folders. only-files (paths_of folders))

abbrev pub index_read : List ℕ → List ℕ → Stage Index
index_read file bytes = given (index_outcome file bytes (index_fault bytes))

pub only-index : (folder name : List ℕ) → OnlyReads (reads_index_in folder name)
only-index folder name =
    let file = path_below folder name in
    reads-then (reads file) (index_read file) (reads-file (end (NoFile file)) file)
    (λ bytes. reads-given (index_outcome file bytes (index_fault bytes)))

pub only-indexes : (folder : List ℕ) → OnlyReads (reads_indexes folder)
only-indexes folder =
    reads-then (reads_index_in folder (codes "modules.dep.bin")) (after_dep folder)
    (only-index folder (codes "modules.dep.bin")) (λ dep.
    reads-then (reads_index_in folder (codes "modules.alias.bin")) (after_alias folder dep)
    (only-index folder (codes "modules.alias.bin")) (λ alias.
    reads-then (reads_index_in folder (codes "modules.symbols.bin"))
    (after_symbols folder dep alias) (only-index folder (codes "modules.symbols.bin")) (λ
    symbols.
    reads-then (reads_index_in folder (codes "modules.builtin.bin"))
    (after_builtin dep alias symbols) (only-index folder (codes "modules.builtin.bin")) (λ
    builtin.
    reads-given
    (value (record { dep = dep; alias = alias; symbols = symbols; builtin = builtin }))))))

pub only-stated : (stated : List Rule) (softdep : List ConfFile)
    → OnlyReads (given (stated_outcome (rules_of softdep)) >>= softdep_more stated)
only-stated stated softdep =
    reads-then (given (stated_outcome (rules_of softdep))) (softdep_more stated)
    (reads-given (stated_outcome (rules_of softdep)))
    (λ more. reads-given (value (stated ++ more)))

pub only-rules : (stated : List Rule) (folder : List ℕ) → OnlyReads (reads_rules stated folder)
only-rules stated folder =
    let file = path_below folder (codes "modules.softdep") in
    reads-then (reads_any file) (softdep_stated stated file) (reads-file (value []) file) (λ bytes.
    only-stated stated (record { path = file; bytes = bytes } ∷ []))

pub only-unmet : (folder : List ℕ) → OnlyReads (reads_unmet folder)
only-unmet folder =
    let file = path_below folder (codes "modules.unmet") in
    reads-then (reads_any file) (unmet_stated file) (reads-file (value []) file)
    (λ bytes. reads-given (stated_outcome (unmet_of file bytes)))

pub only-loaded : (path : Option (List ℕ)) → OnlyReads (reads_loaded path)
only-loaded None = reads-given (value [])
only-loaded (Some path) =
    reads-then (reads path) loaded_stated (reads-file (end (NoFile path)) path)
    (λ bytes. reads-given _)

pub only-lists : (stated : List Rule) (folder : List ℕ) (indexes : Indexes)
    (listing : Option (List ℕ))
    → OnlyReads (reads_lists stated folder indexes listing)
only-lists stated folder indexes listing =
    reads-then (reads_rules stated folder) (after_softdep folder indexes listing)
    (only-rules stated folder) (λ rules.
    reads-then (reads_unmet folder) (after_unmet indexes listing rules) (only-unmet folder) (λ
    unmet.
    reads-then (reads_loaded listing) (after_loaded indexes rules unmet) (only-loaded listing) (λ
    loaded.
    reads-given
    (value (record { rules = rules; indexes = indexes; unmet = unmet; loaded = loaded })))))

pub only-known : (config : Option (List ℕ)) (folder : List ℕ) (listing : Option (List ℕ))
    → OnlyReads (reads_known config folder listing)
only-known config folder listing =
    reads-then (reads_configuration Modprobe config) (after_configuration folder listing)
    (only-configuration Modprobe config) (λ configuration.
    reads-then (given (stated_outcome (rules_of configuration))) (after_rules folder listing)
    (reads-given (stated_outcome (rules_of configuration))) (λ stated.
    reads-then (reads_indexes folder) (after_indexes stated folder listing) (only-indexes folder) (λ
    indexes.
    only-lists stated folder indexes listing)))

-- ---- what was read

-- the index and the lines of modules.unmet, by the files of the folder
pub record KnowsFolder (files : Contents) (folder : List ℕ) (known : Known) : Type 0 where
  pub index : List ℕ
  pub index_there : get files (path_below folder (codes "modules.dep.bin")) ≡ Some index
  pub accepted : index_fault index ≡ None
  pub is_index : known.indexes.dep ≡ index_of index
  pub text : List ℕ
  pub text_read : read_outcome (value []) (path_below folder (codes "modules.unmet"))
      (get files (path_below folder (codes "modules.unmet")))
      ≡ value text
  pub states : unmet_of (path_below folder (codes "modules.unmet")) text ≡ Ok known.unmet

-- a file that was read
pub read-there : (absent : Outcome (List ℕ)) (path : List ℕ) (found : Option (List ℕ))
    (bytes there : List ℕ)
    → found ≡ Some there → read_outcome absent path found ≡ value bytes → bytes ≡ there
read-there absent path found bytes there is came =
    by_size (nat_lt file_limit (length there)) (ap (read_outcome absent path) (sym is) ∙ came)
  where
    by_size : (b : Bool) → cond b (end (TooLarge path)) (value there) ≡ value bytes → bytes ≡ there
    by_size true came = cc
    by_size false came = cc

needed-there : (path : List ℕ) (found : Option (List ℕ)) (bytes : List ℕ)
    → read_outcome (end (NoFile path)) path found ≡ value bytes → found ≡ Some bytes
needed-there path None bytes came = cc
needed-there path (Some there) bytes came = by_size (nat_lt file_limit (length there)) came
  where
    by_size : (b : Bool) → cond b (end (TooLarge path)) (value there) ≡ value bytes
        → Some there ≡ Some bytes
    by_size true came = cc
    by_size false came = cc

pub was-stated : {X : Type 0} (o : Result X LinePlace) (x : X) → stated_outcome o ≡ value x
    → o ≡ Ok x
was-stated (Ok other) x came = cc
was-stated (Err place) x came = cc

was-accepted : (file bytes : List ℕ) (fault : Option Fault) (index : Index)
    → index_outcome file bytes fault ≡ value index → (fault ≡ None) × (index ≡ index_of bytes)
unfolding index_outcome
was-accepted file bytes None index came = (refl, cc)
was-accepted file bytes (Some fault) index came = cc

pub read-came : (absent : Outcome (List ℕ)) (path : List ℕ) (files : Contents) (bytes : List ℕ)
    → ((reads_or absent path).run files).outcome ≡ value bytes
    → read_outcome absent path (get files path) ≡ value bytes
read-came absent path files bytes came =
    ap (λ r. r.outcome) (sym (run-read absent path files)) ∙ came

pub given-came : {X : Type 0} (o : Outcome X) (x : X) (files : Contents)
    → ((given o).run files).outcome ≡ value x → o ≡ value x
given-came o x files came = ap (λ r. r.outcome) (sym (run-given o files)) ∙ came

-- an index that was read is that of its file
index-came : (folder name : List ℕ) (files : Contents) (index : Index)
    → ((reads_index_in folder name).run files).outcome ≡ value index
    → (bytes : List ℕ) × (get files (path_below folder name) ≡ Some bytes)
    × (index_fault bytes ≡ None) × (index ≡ index_of bytes)
index-came folder name files index came =
    let file = path_below folder name in
    let h
    = reads-on (reads file) (index_read file) files index (reads-file (end (NoFile file)) file)
    came in
    let bytes : List ℕ = h.0 in
    let fine
    = was-accepted file bytes (index_fault bytes) index
    (given-came (index_outcome file bytes (index_fault bytes)) index files h.2) in (
      bytes,
      needed-there file (get files file) bytes
          (read-came (end (NoFile file)) file files bytes h.1),
      fine.0,
      fine.1,
    )

-- the first index of four
dep-came : (folder : List ℕ) (files : Contents) (indexes : Indexes)
    → ((reads_indexes folder).run files).outcome ≡ value indexes
    → ((reads_index_in folder (codes "modules.dep.bin")).run files).outcome ≡ value indexes.dep
dep-came folder files indexes came =
    let a
    = reads-on (reads_index_in folder (codes "modules.dep.bin")) (after_dep folder) files
    indexes (only-index folder (codes "modules.dep.bin")) came in
    let b
    = reads-on (reads_index_in folder (codes "modules.alias.bin")) (after_alias folder a.0)
    files indexes (only-index folder (codes "modules.alias.bin")) a.2 in
    let c
    = reads-on (reads_index_in folder (codes "modules.symbols.bin"))
    (after_symbols folder a.0 b.0) files indexes
    (only-index folder (codes "modules.symbols.bin")) b.2 in
    let d
    = reads-on (reads_index_in folder (codes "modules.builtin.bin")) (after_builtin a.0 b.0 c.0)
    files indexes (only-index folder (codes "modules.builtin.bin")) c.2 in
    a.1
    ∙ ap (λ o. value o)
    (same-dep a.0 b.0 c.0 d.0 indexes
    (given-came
    (value (record { dep = a.0; alias = b.0; symbols = c.0; builtin = d.0 }))
    indexes files d.2))
  where
    same-dep : (dep alias symbols builtin : Index) (indexes : Indexes)
        → ◌≡◌ {A = Outcome Indexes}
        (value (record { dep = dep; alias = alias; symbols = symbols; builtin = builtin }))
        (value indexes)
        → dep ≡ indexes.dep
    same-dep dep alias symbols builtin indexes is =
        let same : ◌≡◌ {A = Indexes}
        (record { dep = dep; alias = alias; symbols = symbols; builtin = builtin }) indexes
        = cc in
        ap (λ (x : Indexes). x.dep) same

-- the lines of modules.unmet that were read
unmet-came : (folder : List ℕ) (files : Contents) (lines : List Unbound)
    → ((reads_unmet folder).run files).outcome ≡ value lines
    → (text : List ℕ)
    × (read_outcome (value []) (path_below folder (codes "modules.unmet"))
    (get files (path_below folder (codes "modules.unmet")))
    ≡ value text)
    × (unmet_of (path_below folder (codes "modules.unmet")) text ≡ Ok lines)
unmet-came folder files lines came =
    let file = path_below folder (codes "modules.unmet") in
    let h
    = reads-on (reads_any file) (unmet_stated file) files lines (reads-file (value []) file)
    came in (
      h.0,
      read-came (value []) file files h.0 h.1,
      was-stated (unmet_of file h.0) lines
          (given-came (stated_outcome (unmet_of file h.0)) lines files h.2),
    )

same-known : (rules : List Rule) (indexes : Indexes) (unmet : List Unbound) (loaded : List (List ℕ))
    (known : Known)
    → ◌≡◌ {A = Outcome Known}
    (value (record { rules = rules; indexes = indexes; unmet = unmet; loaded = loaded }))
    (value known)
    → (indexes ≡ known.indexes) × (unmet ≡ known.unmet)
same-known rules indexes unmet loaded known is =
    let same : ◌≡◌ {A = Known}
    (record { rules = rules; indexes = indexes; unmet = unmet; loaded = loaded }) known
    = cc in
    (ap (λ (x : Known). x.indexes) same, ap (λ (x : Known). x.unmet) same)

-- the lists, where these indexes were read
lists-came : (stated : List Rule) (folder : List ℕ) (indexes : Indexes) (listing : Option (List ℕ))
    (files : Contents) (known : Known)
    → ((reads_lists stated folder indexes listing).run files).outcome ≡ value known
    → (indexes ≡ known.indexes) × (((reads_unmet folder).run files).outcome ≡ value known.unmet)
lists-came stated folder indexes listing files known came =
    let a
    = reads-on (reads_rules stated folder) (after_softdep folder indexes listing) files known
    (only-rules stated folder) came in
    let b
    = reads-on (reads_unmet folder) (after_unmet indexes listing a.0) files known
    (only-unmet folder) a.2 in
    let c
    = reads-on (reads_loaded listing) (after_loaded indexes a.0 b.0) files known
    (only-loaded listing) b.2 in
    let same
    = same-known a.0 indexes b.0 c.0 known
    (given-came
    (value (record { rules = a.0; indexes = indexes; unmet = b.0; loaded = c.0 })) known
    files c.2) in
    (same.0, b.1 ∙ ap (λ o. value o) same.1)

-- the first index of indexes that are the same
same-index : (a b : Indexes) (index : Index) → a ≡ b → a.dep ≡ index → b.dep ≡ index
same-index a b index same is = ap (λ (x : Indexes). x.dep) (sym same) ∙ is

pub knows-folder : (files : Contents) (config listing : Option (List ℕ)) (folder : List ℕ)
    (known : Known)
    → ((reads_known config folder listing).run files).outcome ≡ value known
    → KnowsFolder files folder known
knows-folder files config listing folder known came =
    let a
    = reads-on (reads_configuration Modprobe config) (after_configuration folder listing) files
    known (only-configuration Modprobe config) came in
    let b = given-on (stated_outcome (rules_of a.0)) (after_rules folder listing) files known a.2 in
    let c
    = reads-on (reads_indexes folder) (after_indexes b.0 folder listing) files known
    (only-indexes folder) b.2 in
    let lists = lists-came b.0 folder c.0 listing files known c.2 in
    let index
    = index-came folder (codes "modules.dep.bin") files c.0.dep (dep-came folder files c.0 c.1)
    in
    let unmet = unmet-came folder files known.unmet lists.1 in
    record {
      index = index.0;
      index_there = index.1;
      accepted = index.2;
      is_index = same-index c.0 known.indexes (index_of index.0) lists.0 index.3;
      text = unmet.0;
      text_read = unmet.1;
      states = unmet.2;
    }
