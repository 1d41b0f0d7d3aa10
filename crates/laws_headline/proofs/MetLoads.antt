-- A load from the folder that a depmod left, computed.
use Rattle.std.proofs.Common.{◌≡◌, ◌∙◌, ℕ, false, List, [], ◌∷◌, length, map, codes, refl, sym, ap}
use Rattle.std.proofs.Common.{true}
use Rattle.std.specs.Prelude.{Some, None, Ok, nat_lt, option_map, if◌then◌else◌}
use Rattle.std.specs.Ordering.{nat_cmp}
use Rattle.std.specs.Cmp.Lexicographic.{nat_list_cmp_total, slice_cmp}
use Rattle.std.specs.FinMap.{find, get, get-from_entries}
use Rattle.km_names.specs.Limit.{file_limit}
use Rattle.km_names.specs.Path.{path_below}
use Rattle.km_course.specs.Course.{Outcome, given, read_outcome, reads, reads_any, reads_or}
use Rattle.km_course.specs.Course.Outcome.{value, end}
use Rattle.km_course.specs.declared.end.End.TheVariants.{NoFile, TooLarge}
use Rattle.index_format.specs.Check.{index_fault}
use Rattle.modprobe_conf.specs.Rules.{rules_of}
use Rattle.unmet_file.specs.Unmet.{unmet_of}
use Rattle.kernel_exports.specs.declared.kernel.Kernel.{Kernel}
use Rattle.kernel_exports.specs.KernelTable.{exports_of_map}
use Rattle.depmod_core.specs.Files.{content}
use Rattle.depmod_core.specs.declared.file.OutputFile.TheVariants.{Dep, DepBin, Alias, AliasBin}
use Rattle.depmod_core.specs.declared.file.OutputFile.TheVariants.{Softdep, Symbols, SymbolsBin}
use Rattle.depmod_core.specs.declared.file.OutputFile.TheVariants.{BuiltinBin, Unmet}
use Rattle.depmod_core.specs.declared.files.OutputFiles.{OutputFiles}
use Rattle.module_region.specs.declared.region.Region.{Region}
use Rattle.module_region.specs.Regions.{IsRegion}
use Rattle.name_lookup.specs.declared.indexes.Indexes.{Indexes}
use Rattle.plan_builder.specs.Steps.{plan_steps}
use Rattle.plan_builder.specs.Text.{plan_text}
use Rattle.stages_files.specs.Configuration.{reads_configuration, stated_outcome}
use Rattle.stages_files.specs.declared.configuration.Tool.TheVariants.{Modprobe}
use Rattle.stages_files.specs.IndexFile.{index_of, index_outcome}
use Rattle.stages_files.specs.KernelTable.{reads_map, table_outcome}
use Rattle.stages_files.specs.KernelModules.{path_listed}
use Rattle.stages_loads.specs.Listed.{loads_listed}
use Rattle.stages_loads.specs.Tables.{kernel_with, machine_outcome, reads_machine, unplaced}
use Rattle.stages_known.specs.declared.known.Known.{Known}
use Rattle.stages_known.specs.Known.{reads_index_in, reads_indexes, reads_known, reads_loaded}
use Rattle.stages_known.specs.Known.{reads_rules, reads_unmet}
use Rattle.module_region.specs.RegionAt.{region-by}
use Rattle.stages_loads.specs.declared.load.Insertion.{Insertion}
use Rattle.stages_loads.specs.Loads.{paths_of}
use Rattle.command_modprobe.specs.Loaded.{inserts_outcome}
use Rattle.km_course.specs.Course.{value_unless}
use Rattle.km_course.specs.declared.refusal.Refusal.TheVariants.{Obstacle as Unplanned}
use Rattle.command_modprobe.specs.Planned.{plan_outcome, request_of}
use Rattle.stages_known.proofs.KnownSteps.{after_alias, after_builtin, after_configuration}
use Rattle.stages_known.proofs.KnownSteps.{after_dep, after_indexes, after_loaded, after_rules}
use Rattle.stages_known.proofs.KnownSteps.{after_softdep, after_symbols, after_unmet, softdep_more}
use Rattle.stages_known.proofs.KnownSteps.{softdep_stated, unmet_stated}
use Rattle.laws_indexed_folder.specs.Indexed.{AreIn}
use Rattle.laws_planned_loads.specs.Courses.{CameToLoads, HasMachine, Loading, inputs_of}
use Rattle.laws_planned_loads.specs.Files.{AreFileModules}
use Rattle.laws_planned_loads.proofs.KnownLemmas.{index_read, only-configuration, only-index}
use Rattle.laws_planned_loads.proofs.KnownLemmas.{only-indexes, only-loaded, only-rules, only-unmet}
use Rattle.laws_planned_loads.proofs.RunLemmas.{reads-file, reads-given, reads-then, run-read}
use Rattle.laws_depmod_leaves.specs.Comes.{files_of, made_of}
use Rattle.laws_depmod_leaves.specs.Left.{IsInPlace, LeftIndexed}
use Rattle.laws_depmod_leaves.specs.Loads.{IsLoadAfter}
use Rattle.laws_depmod_leaves.proofs.LeftLemmas.{left-indexed}
use Rattle.laws_depmod_leaves.proofs.PutLemmas.{all-there}
use Rattle.laws_depmod_leaves.proofs.TableLemmas.{left-for-loads}
use Rattle.kmod_cli.specs.Headline.{IsIndexedLoad}
use Rattle.laws_headline.specs.Objects.{folder_found, found, giver_file, taker_file}
use Rattle.laws_headline.specs.Met.{HeadlineIsMet, depmod_asked, indexed, left, load_asked}
use Rattle.laws_headline.proofs.Computing.{computing}
use Rattle.laws_headline.proofs.Folders.{given-is, on-value, paths_in, unconfigured}
use Rattle.laws_headline.proofs.Maps.{entries-of}
use Rattle.laws_headline.proofs.MetFiles.{bare_table, dep-accepted, dep_bytes, empty-accepted}
use Rattle.laws_headline.proofs.MetFiles.{empty_bytes, made-so, symbols-accepted, symbols_bytes}
use Rattle.laws_headline.proofs.MetLemmas.{is-indexed}
use Rattle.laws_headline.proofs.MetMachine.{both-load, both_loaded, giver, giver-passes}
use Rattle.laws_headline.proofs.MetMachine.{giver-small, region, start, taker, taker-passes}
use Rattle.laws_headline.proofs.MetMachine.{taker-small, words-are}
use Rattle.laws_headline.proofs.MetPlan.{indexes_by, plain-steps, plain-unhindered, request}
use Rattle.laws_headline.proofs.MetPlan.{sources_by, two_steps}
use Rattle.laws_headline.proofs.MetReads.{found-get, found_files, mapped}

-- ---- the files that depmod left

abbrev made : OutputFiles
made = files_of indexed

abbrev left_files : List (List ℕ × List ℕ)
left_files =
    (codes "/lib/modules/1/modules.unmet", content made Unmet)
    ∷ (codes "/lib/modules/1/modules.builtin.bin", content made BuiltinBin)
    ∷ (codes "/lib/modules/1/modules.symbols.bin", content made SymbolsBin)
    ∷ (codes "/lib/modules/1/modules.symbols", content made Symbols)
    ∷ (codes "/lib/modules/1/modules.softdep", content made Softdep)
    ∷ (codes "/lib/modules/1/modules.alias.bin", content made AliasBin)
    ∷ (codes "/lib/modules/1/modules.alias", content made Alias)
    ∷ (codes "/lib/modules/1/modules.dep.bin", content made DepBin)
    ∷ (codes "/lib/modules/1/modules.dep", content made Dep)
    ∷ found_files

abbrev left_paths : List (List ℕ)
left_paths =
    codes "/S"
    ∷ codes "/lib/modules/1/m.ko"
    ∷ codes "/lib/modules/1/modules.alias"
    ∷ codes "/lib/modules/1/modules.alias.bin"
    ∷ codes "/lib/modules/1/modules.builtin.bin"
    ∷ codes "/lib/modules/1/modules.dep"
    ∷ codes "/lib/modules/1/modules.dep.bin"
    ∷ codes "/lib/modules/1/modules.softdep"
    ∷ codes "/lib/modules/1/modules.symbols"
    ∷ codes "/lib/modules/1/modules.symbols.bin"
    ∷ codes "/lib/modules/1/modules.unmet"
    ∷ codes "/lib/modules/1/p.ko"
    ∷ []

left-paths : paths_in left ≡ left_paths
left-paths = ap (map (λ e. e.0)) (entries-of nat_list_cmp_total left_files)

left-get : (path : List ℕ) → get left path ≡ find (slice_cmp nat_cmp) path left_files
left-get path = get-from_entries nat_list_cmp_total left_files path

place : IsInPlace depmod_asked
place = record { replaces = refl; folder = refl; table = refl }

stood : LeftIndexed depmod_asked indexed left
stood = left-indexed found depmod_asked indexed place is-indexed

are-in : AreIn left folder_found (files_of indexed)
are-in = all-there folder_found false (made_of indexed) found

-- ---- what is read

file-read : (absent : Outcome (List ℕ)) (file bytes : List ℕ) → get left file ≡ Some bytes
    → nat_lt file_limit (length bytes) ≡ false
    → ((reads_or absent file).run left).outcome ≡ value bytes
file-read absent file bytes there small =
    ap (λ r. r.outcome) (run-read absent file left)
    ∙ ap (read_outcome absent file) there
    ∙ ap (λ large. if large then end (TooLarge file) else value bytes) small

accepted-so : (file bytes : List ℕ) → index_outcome file bytes None ≡ value (index_of bytes)
unfolding index_outcome
accepted-so file bytes = refl

index-read : (name bytes : List ℕ) → get left (path_below folder_found name) ≡ Some bytes
    → nat_lt file_limit (length bytes) ≡ false → index_fault bytes ≡ None
    → ((reads_index_in folder_found name).run left).outcome ≡ value (index_of bytes)
index-read name bytes there small accepted =
    let file = path_below folder_found name in
    on-value left (reads file) (index_read file) bytes (reads-file (end (NoFile file)) file)
    (file-read (end (NoFile file)) file bytes there small)
    ∙ given-is (index_outcome file bytes (index_fault bytes)) left
    ∙ ap (index_outcome file bytes) accepted
    ∙ accepted-so file bytes

abbrev indexes : Indexes
indexes = indexes_by dep_bytes

indexes-read : ((reads_indexes folder_found).run left).outcome ≡ value indexes
indexes-read =
    on-value left (reads_index_in folder_found (codes "modules.dep.bin")) (after_dep folder_found)
    indexes.dep (only-index folder_found (codes "modules.dep.bin"))
    (index-read (codes "modules.dep.bin") dep_bytes
    (are-in.dep ∙ ap (λ m. Some (content m DepBin)) made-so) refl dep-accepted)
    ∙ on-value left (reads_index_in folder_found (codes "modules.alias.bin"))
    (after_alias folder_found indexes.dep) indexes.alias
    (only-index folder_found (codes "modules.alias.bin"))
    (index-read (codes "modules.alias.bin") empty_bytes
    (are-in.alias ∙ ap (λ m. Some (content m AliasBin)) made-so) refl empty-accepted)
    ∙ on-value left (reads_index_in folder_found (codes "modules.symbols.bin"))
    (after_symbols folder_found indexes.dep indexes.alias) indexes.symbols
    (only-index folder_found (codes "modules.symbols.bin"))
    (index-read (codes "modules.symbols.bin") symbols_bytes
    (are-in.symbols ∙ ap (λ m. Some (content m SymbolsBin)) made-so) refl symbols-accepted)
    ∙ on-value left (reads_index_in folder_found (codes "modules.builtin.bin"))
    (after_builtin indexes.dep indexes.alias indexes.symbols) indexes.builtin
    (only-index folder_found (codes "modules.builtin.bin"))
    (index-read (codes "modules.builtin.bin") empty_bytes
    (are-in.built_in ∙ ap (λ m. Some (content m BuiltinBin)) made-so) refl empty-accepted)
    ∙ given-is (value indexes) left

abbrev softdep_text : List ℕ
softdep_text = codes "# Soft dependencies extracted from modules themselves.\n"

abbrev softdep_path : List ℕ
softdep_path = path_below folder_found (codes "modules.softdep")

abbrev unmet_path : List ℕ
unmet_path = path_below folder_found (codes "modules.unmet")

no-softdeps : rules_of (record { path = softdep_path; bytes = softdep_text } ∷ []) ≡ Ok []
unfolding computing
no-softdeps = refl

no-lines : unmet_of unmet_path [] ≡ Ok []
unfolding computing
no-lines = refl

no-rules : rules_of [] ≡ Ok []
unfolding computing
no-rules = refl

rules-read : ((reads_rules [] folder_found).run left).outcome ≡ value []
rules-read =
    on-value left (reads_any softdep_path) (softdep_stated [] softdep_path) softdep_text
    (reads-file (value []) softdep_path)
    (file-read (value []) softdep_path softdep_text
    (are-in.softdep ∙ ap (λ m. Some (content m Softdep)) made-so) refl)
    ∙ on-value left
    (given
    (stated_outcome (rules_of (record { path = softdep_path; bytes = softdep_text } ∷ []))))
    (softdep_more []) [] (reads-given _)
    (given-is (stated_outcome
    (rules_of (record { path = softdep_path; bytes = softdep_text } ∷ []))) left
    ∙ ap stated_outcome no-softdeps)
    ∙ given-is (value []) left

unmet-read : ((reads_unmet folder_found).run left).outcome ≡ value []
unmet-read =
    on-value left (reads_any unmet_path) (unmet_stated unmet_path) []
    (reads-file (value []) unmet_path)
    (file-read (value []) unmet_path [] (are-in.unmet ∙ ap (λ m. Some (content m Unmet)) made-so)
    refl)
    ∙ given-is (stated_outcome (unmet_of unmet_path [])) left
    ∙ ap stated_outcome no-lines

-- ---- what is known, and the plan

abbrev known : Known
known = record { rules = []; indexes = indexes; unmet = []; loaded = [] }

knows : ((reads_known None folder_found None).run left).outcome ≡ value known
knows =
    on-value left (reads_configuration Modprobe None) (after_configuration folder_found None) []
    (only-configuration Modprobe None)
    (unconfigured left left_paths Modprobe left-paths
    (refl, (refl, (refl, (refl, (refl, tt))))))
    ∙ on-value left (given (stated_outcome (rules_of []))) (after_rules folder_found None) []
    (reads-given _) (given-is (stated_outcome (rules_of [])) left ∙ ap stated_outcome no-rules)
    ∙ on-value left (reads_indexes folder_found) (after_indexes [] folder_found None) indexes
    (only-indexes folder_found) indexes-read
    ∙ on-value left (reads_rules [] folder_found) (after_softdep folder_found indexes None) []
    (only-rules [] folder_found) rules-read
    ∙ on-value left (reads_unmet folder_found) (after_unmet indexes None []) []
    (only-unmet folder_found) unmet-read
    ∙ on-value left (reads_loaded None) (after_loaded indexes [] []) [] (only-loaded None)
    (given-is (value []) left)
    ∙ given-is (value known) left

abbrev two_inserts : List Insertion
two_inserts =
    record { path = codes "p.ko"; options = [] } ∷ record { path = codes "m.ko"; options = [] } ∷ []

planned : plan_outcome known [] (request_of load_asked) ≡ value two_steps
unfolding plan_outcome
planned =
    ap (λ o. value_unless Unplanned (option_map plan_text o)
    (plan_steps (sources_by [] [] dep_bytes) request))
    plain-unhindered
    ∙ ap (λ steps. value steps) plain-steps

runs-none : inserts_outcome two_steps ≡ value two_inserts
unfolding inserts_outcome
runs-none = refl

-- ---- the machine

abbrev kernel : Kernel
kernel = kernel_with indexed.table

abbrev pages_of_region : IsRegion 65536 65536
pages_of_region = region-by 65536 65536 refl

abbrev whole : Region
whole = region pages_of_region

abbrev map_path : List ℕ
map_path = codes "/S"

map-read : ((reads_map map_path).run left).outcome ≡ value bare_table
map-read =
    on-value left (reads map_path)
    (λ bytes. given (table_outcome map_path true (exports_of_map bytes)))
    [] (reads-file (end (NoFile map_path)) map_path)
    (file-read (end (NoFile map_path)) map_path [] (left-get map_path) refl)
    ∙ given-is (table_outcome map_path true (exports_of_map [])) left
    ∙ mapped

machine-so : machine_outcome bare_table whole (unplaced []) ≡ value (start pages_of_region)
unfolding machine_outcome
machine-so = refl

made-machine : ((reads_machine map_path None whole).run left).outcome
    ≡ value (start pages_of_region)
made-machine =
    on-value left (reads_map map_path)
    (λ table. given (machine_outcome table whole (unplaced table.exports))) bare_table
    (reads-then (reads map_path)
    (λ bytes. given (table_outcome map_path true (exports_of_map bytes)))
    (reads-file (end (NoFile map_path)) map_path) (λ bytes. reads-given _))
    map-read
    ∙ given-is (machine_outcome bare_table whole (unplaced [])) left
    ∙ machine-so

has-machine : HasMachine left load_asked kernel whole
has-machine = record { map = map_path; mapped = refl; in_region = refl; made = made-machine }

none-listed : ((loads_listed folder_found (path_listed known.indexes.dep) (start pages_of_region)
    known.loaded).run left).outcome
    ≡ value (start pages_of_region)
none-listed = given-is (value (start pages_of_region)) left

same-table : get found map_path ≡ get left map_path
same-table = found-get map_path ∙ sym (left-get map_path)

after : IsLoadAfter found depmod_asked left load_asked kernel whole
unfolding has-machine
after = record { folder = refl; machine = has-machine; table = same-table }

abbrev loading : Loading
loading = record {
  tree = indexed.tree;
  indexed = stood.kernel;
  builtin = [];
  kernel = kernel;
  region = whole;
  known = known;
  listed = start pages_of_region;
  steps = two_steps;
  inserts = two_inserts;
}

came : CameToLoads left (inputs_of load_asked) loading
came = record { knows = knows; listed = none-listed; planned = planned; runs_none = runs-none }

stands : IsIndexedLoad left load_asked loading
stands = record {
  mode = refl;
  stands
      = left-for-loads found depmod_asked indexed left load_asked kernel whole is-indexed stood
      after;
  machine = has-machine;
  came = came;
}

-- ---- the loads

are-files : AreFileModules left folder_found (paths_of two_inserts) (giver ∷ taker ∷ [])
are-files = (
  record {
    kind = refl;
    bytes = giver_file;
    there = left-get _;
    small = giver-small;
    passed = giver-passes;
    read = refl;
  },
  (
    record {
      kind = refl;
      bytes = taker_file;
      there = left-get _;
      small = taker-small;
      passed = taker-passes;
      read = refl;
    },
    tt,
  ),
)

pub headline-is-met : HeadlineIsMet
headline-is-met = (
  is-indexed,
  loading,
  record {
    stands = stands;
    plan = giver ∷ taker ∷ [];
    files = are-files;
    paths = refl;
    machine = both_loaded pages_of_region;
    loads = both-load pages_of_region;
    words = words-are pages_of_region;
  },
)
