-- What is listed in folders, by the paths of all files, and a configuration without a file.
use Rattle.std.proofs.Common.{◌≡◌, ◌∙◌, ℕ, Bool, List, [], ◌∷◌, ◌++◌, map, ap}
use Rattle.std.specs.Prelude.{None, filter}
use Rattle.std.specs.List.{filter_map}
use Rattle.std.specs.FinMap.{entries}
use Rattle.km_names.specs.Path.{path_below}
use Rattle.outside_calls.specs.Contents.{Contents, by_bytes, is_conf_name, is_path, rest_after}
use Rattle.km_course.specs.Course.{Outcome, Stage, ◌>>=◌, act_with, each_from, given, gives}
use Rattle.km_course.specs.Course.{list_outcome, lists_any_conf, lists_or}
use Rattle.km_course.specs.Course.Outcome.{value}
use Rattle.stages_files.specs.Configuration.{by_name, folder_name, lists_folder, lists_folders}
use Rattle.stages_files.specs.Configuration.{paths_of, reads_configuration, reads_files}
use Rattle.stages_files.specs.Configuration.{reads_listed, roots}
use Rattle.stages_files.specs.declared.configuration.ListedFolder.{ListedFolder}
use Rattle.stages_files.specs.declared.configuration.Tool.{Tool}
use Rattle.laws_planned_loads.proofs.RunLemmas.{OnlyReads, reads-each, reads-given, reads-names}
use Rattle.laws_planned_loads.proofs.RunLemmas.{reads-then, run-given, run-on}
use Rattle.laws_headline.proofs.Maps.{entries-none}

-- ---- stages over files

pub given-is : {X : Type 0} (o : Outcome X) (files : Contents) → ((given o).run files).outcome ≡ o
given-is o files = ap (λ r. r.outcome) (run-given o files)

-- a stage that only reads and gives a value, and the next one
pub on-value : {X Y : Type 0} (files : Contents) (stage : Stage X) (next : X → Stage Y) (x : X)
    → OnlyReads stage → (stage.run files).outcome ≡ value x
    → ((stage >>= next).run files).outcome ≡ ((next x).run files).outcome
on-value files stage next x only came =
    ap (λ r. r.outcome) (run-on stage next files x (only files) came)

-- ---- what is listed

-- the paths of files
abbrev pub paths_in : Contents → List (List ℕ)
paths_in files = map (λ e. e.0) (entries files)

-- what lies below a folder, of these paths
abbrev pub below_folder : (List ℕ → Bool) → List ℕ → List (List ℕ) → List (List ℕ)
below_folder fits folder paths = filter fits (filter_map (rest_after (path_below folder [])) paths)

pub lists-so : (files : Contents) (paths : List (List ℕ)) (absent : Outcome (List (List ℕ)))
    (fits : List ℕ → Bool) (folder : List ℕ)
    → paths_in files ≡ paths
    → ((lists_or absent fits folder).run files).outcome
    ≡ list_outcome absent folder (below_folder is_path folder paths)
    (below_folder fits folder paths)
unfolding act_with
lists-so files paths absent fits folder is =
    ap (λ ps. list_outcome absent folder (below_folder is_path folder ps)
    (below_folder fits folder ps)) is

-- ---- a configuration without a file

-- none of these paths lies below a folder of this name at one of these roots
abbrev pub AreBare : List (List ℕ) → List ℕ → List (List ℕ) → Type 0
AreBare paths name [] = Unit {0}
AreBare paths name (root ∷ places) =
    (below_folder is_path (path_below root name) paths ≡ []) × AreBare paths name places

-- a folder of this name at a root, in which no file is
abbrev pub bare : List ℕ → List ℕ → ListedFolder
bare name root = record { path = path_below root name; names = [] }

abbrev pub with_bare : List ℕ → List ListedFolder → List (List ℕ) → List ListedFolder
with_bare name state [] = state
with_bare name state (root ∷ places) = with_bare name (state ++ bare name root ∷ []) places

-- the stage after a folder was listed
abbrev pub one_more : List ListedFolder → List ℕ → List (List ℕ) → Stage (List ListedFolder)
one_more state path names = gives (state ++ record { path = path; names = names } ∷ [])

only-folder : (name : List ℕ) (state : List ListedFolder) (root : List ℕ)
    → OnlyReads (lists_folder name state root)
only-folder name state root =
    reads-then (lists_any_conf (path_below root name)) (one_more state (path_below root name))
    (reads-names (value []) is_conf_name (path_below root name)) (λ names. reads-given _)

none-listed : (files : Contents) (paths : List (List ℕ)) (folder : List ℕ) → paths_in files ≡ paths
    → below_folder is_path folder paths ≡ []
    → ((lists_any_conf folder).run files).outcome ≡ value []
none-listed files paths folder is none =
    lists-so files paths (value []) is_conf_name folder is
    ∙ ap (λ ps. list_outcome (value []) folder ps (below_folder is_conf_name folder paths)) none

folder-bare : (files : Contents) (paths : List (List ℕ)) (name : List ℕ) (state : List ListedFolder)
    (root : List ℕ)
    → paths_in files ≡ paths → below_folder is_path (path_below root name) paths ≡ []
    → ((lists_folder name state root).run files).outcome ≡ value (state ++ bare name root ∷ [])
folder-bare files paths name state root is none =
    on-value files (lists_any_conf (path_below root name)) (one_more state (path_below root name))
    [] (reads-names (value []) is_conf_name (path_below root name))
    (none-listed files paths (path_below root name) is none)
    ∙ given-is (value (state ++ bare name root ∷ [])) files

folders-bare : (files : Contents) (paths : List (List ℕ)) (name : List ℕ)
    (state : List ListedFolder) (places : List (List ℕ))
    → paths_in files ≡ paths → AreBare paths name places
    → ((each_from (lists_folder name) state places).run files).outcome
    ≡ value (with_bare name state places)
folders-bare files paths name state [] is none = given-is (value state) files
folders-bare files paths name state (root ∷ places) is none =
    on-value files (lists_folder name state root)
    (λ next. each_from (lists_folder name) next places) (state ++ bare name root ∷ [])
    (only-folder name state root) (folder-bare files paths name state root is none.0)
    ∙ folders-bare files paths name (state ++ bare name root ∷ []) places is none.1

none-count : (name : List ℕ) → paths_of (with_bare name [] roots) ≡ []
unfolding paths_of by_name
none-count name = ap (map (λ file. file.1)) (entries-none {X = List ℕ} by_bytes)

pub unconfigured : (files : Contents) (paths : List (List ℕ)) (tool : Tool) → paths_in files ≡ paths
    → AreBare paths (folder_name tool) roots
    → ((reads_configuration tool None).run files).outcome ≡ value []
unconfigured files paths tool is none =
    on-value files (lists_folders (folder_name tool) roots) (λ folders. reads_listed folders)
    (with_bare (folder_name tool) [] roots)
    (reads-each (lists_folder (folder_name tool)) (only-folder (folder_name tool)) [] roots)
    (folders-bare files paths (folder_name tool) [] roots is none)
    ∙ ap (λ ps. ((reads_files ps).run files).outcome) (none-count (folder_name tool))
    ∙ given-is (value []) files
