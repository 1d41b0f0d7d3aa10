-- The stages that read what modprobe knows, joined.
use Rattle.std.proofs.Common.{◌≡◌, ℕ, List, [], ◌∷◌, ◌++◌, sym, subst}
use Rattle.std.specs.Prelude.{codes, Option, Some, None, Result, Ok}
use Rattle.km_names.specs.Path.{path_below}
use Rattle.km_names.specs.declared.conf.ConfFile.{ConfFile}
use Rattle.km_course.specs.Course.{Stage, ◌>>=◌, given, gives, reads, reads_any}
use Rattle.km_course.specs.World.{World}
use Rattle.km_course.specs.Follows.{Follows}
use Rattle.km_course.specs.declared.stop.Stop.{Stop}
use Rattle.km_course.proofs.Steps.{gave}
use Rattle.index_read.specs.declared.index.Index.{Index}
use Rattle.loaded_list.specs.Loaded.{loaded_of}
use Rattle.modprobe_conf.specs.declared.rule.Rule.{Rule}
use Rattle.modprobe_conf.specs.Rules.{rules_of}
use Rattle.name_lookup.specs.declared.indexes.Indexes.{Indexes}
use Rattle.symbol_binding.specs.declared.unbound.Unbound.{Unbound}
use Rattle.unmet_file.specs.Unmet.{unmet_of}
use Rattle.stages_files.specs.IndexFile.{reads_index}
use Rattle.stages_files.specs.Configuration.{stated_outcome}
use Rattle.stages_known.specs.declared.known.Known.{Known}
use Rattle.stages_known.specs.Known.{reads_index_in, reads_indexes, reads_unmet, reads_loaded}
use Rattle.stages_known.specs.Known.{reads_rules, reads_lists}

-- the stage after the configuration was read, and after it was understood
abbrev pub after_rules : List ℕ → Option (List ℕ) → List Rule → Stage Known
after_rules folder path stated = do
  indexes ← reads_indexes folder
  reads_lists stated folder indexes path

abbrev pub after_configuration : List ℕ → Option (List ℕ) → List ConfFile → Stage Known
after_configuration folder path configuration =
    given (stated_outcome (rules_of configuration)) >>= after_rules folder path

abbrev pub after_indexes : List Rule → List ℕ → Option (List ℕ) → Indexes → Stage Known
after_indexes stated folder path indexes = reads_lists stated folder indexes path

-- the stages after each index
abbrev pub after_builtin : Index → Index → Index → Index → Stage Indexes
after_builtin dep alias symbols builtin =
    gives (record { dep = dep; alias = alias; symbols = symbols; builtin = builtin })

abbrev pub after_symbols : List ℕ → Index → Index → Index → Stage Indexes
after_symbols folder dep alias symbols =
    reads_index_in folder (codes "modules.builtin.bin") >>= after_builtin dep alias symbols

abbrev pub after_alias : List ℕ → Index → Index → Stage Indexes
after_alias folder dep alias =
    reads_index_in folder (codes "modules.symbols.bin") >>= after_symbols folder dep alias

abbrev pub after_dep : List ℕ → Index → Stage Indexes
after_dep folder dep = reads_index_in folder (codes "modules.alias.bin") >>= after_alias folder dep

-- an index at this path
pub at-index : (folder name path : List ℕ) (old new : World) (r : Result Index Stop)
    → path ≡ path_below folder name → Follows (λ x. x) (reads_index path) old new r
    → Follows (λ x. x) (reads_index_in folder name) old new r
at-index folder name path old new r is f =
    subst (λ p. Follows (λ (x : Index). x) (reads_index p) old new r) is f

-- the stages after each list
abbrev pub after_loaded : Indexes → List Rule → List Unbound → List (List ℕ) → Stage Known
after_loaded indexes rules unmet loaded =
    gives (record { rules = rules; indexes = indexes; unmet = unmet; loaded = loaded })

abbrev pub after_unmet : Indexes → Option (List ℕ) → List Rule → List Unbound → Stage Known
after_unmet indexes path rules unmet = reads_loaded path >>= after_loaded indexes rules unmet

abbrev pub after_softdep : List ℕ → Indexes → Option (List ℕ) → List Rule → Stage Known
after_softdep folder indexes path rules = reads_unmet folder >>= after_unmet indexes path rules

-- the stage after modules.softdep was read, and that of modules.unmet
abbrev pub softdep_more : List Rule → List Rule → Stage (List Rule)
softdep_more stated more = gives (stated ++ more)

abbrev pub softdep_stated : List Rule → List ℕ → List ℕ → Stage (List Rule)
softdep_stated stated path bytes =
    given (stated_outcome (rules_of (record { path = path; bytes = bytes } ∷ [])))
    >>= softdep_more stated

abbrev pub unmet_stated : List ℕ → List ℕ → Stage (List Unbound)
unmet_stated path bytes = given (stated_outcome (unmet_of path bytes))

pub at-softdep : (stated : List Rule) (folder path : List ℕ) (old new : World)
    (r : Result (List Rule) Stop)
    → path ≡ path_below folder (codes "modules.softdep")
    → Follows (λ x. x) (reads_any path >>= softdep_stated stated path) old new r
    → Follows (λ x. x) (reads_rules stated folder) old new r
at-softdep stated folder path old new r is f =
    subst (λ p. Follows (λ (x : List Rule). x) (reads_any p >>= softdep_stated stated p) old new r)
    is f

pub at-unmet : (folder path : List ℕ) (old new : World) (r : Result (List Unbound) Stop)
    → path ≡ path_below folder (codes "modules.unmet")
    → Follows (λ x. x) (reads_any path >>= unmet_stated path) old new r
    → Follows (λ x. x) (reads_unmet folder) old new r
at-unmet folder path old new r is f =
    subst (λ p. Follows (λ (x : List Unbound). x) (reads_any p >>= unmet_stated p) old new r) is f

-- the stage after a list of loaded modules was read
abbrev pub loaded_stated : List ℕ → Stage (List (List ℕ))
loaded_stated bytes = gives (loaded_of bytes)

pub given-path : (path : Option (List ℕ)) (given_one : List ℕ) (old new : World)
    (r : Result (List (List ℕ)) Stop)
    → path ≡ Some given_one → Follows (λ x. x) (reads given_one >>= loaded_stated) old new r
    → Follows (λ x. x) (reads_loaded path) old new r
given-path path given_one old new r is f =
    subst (λ p. Follows (λ (x : List (List ℕ)). x) (reads_loaded p) old new r) (sym is) f

pub no-path : (path : Option (List ℕ)) (loaded : List (List ℕ)) (w : World) → path ≡ None
    → loaded ≡ [] → Follows (λ x. x) (reads_loaded path) w w (Ok loaded)
no-path path loaded w is none =
    subst (λ p. Follows (λ (x : List (List ℕ)). x) (reads_loaded p) w w (Ok loaded)) (sym is)
    (subst (λ l. Follows (λ (x : List (List ℕ)). x) (gives []) w w (Ok l)) (sym none)
    (gave (λ (x : List (List ℕ)). x) w []))

pub loaded-given : (bytes : List ℕ) (names : List (List ℕ)) (w : World) → names ≡ loaded_of bytes
    → Follows (λ x. x) (loaded_stated bytes) w w (Ok names)
loaded-given bytes names w is =
    subst (λ ns. Follows (λ (x : List (List ℕ)). x) (loaded_stated bytes) w w (Ok ns)) (sym is)
    (gave (λ (x : List (List ℕ)). x) w (loaded_of bytes))
