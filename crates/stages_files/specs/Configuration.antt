-- The files of a tool's configuration, and the order they count in. depmod.d(5), modprobe.d(5). The
-- list of folders is this project's own.
use Rattle.std.specs.Prelude.{ℕ, nat_eq, List, [], ◌∷◌, ◌++◌, map, codes, Option, Some, None}
use Rattle.std.specs.Prelude.{Result, Ok, Err}
use Rattle.std.specs.List.{ends_with}
use Rattle.std.specs.FinMap as fin
use Rattle.std.specs.Global.{Vec}
use Rattle.km_names.specs.Path.{path_below}
use Rattle.km_names.specs.Statements.{LinePlace}
use Rattle.km_names.specs.declared.conf.ConfFile.{ConfFile}
use Rattle.km_names.specs.declared.conf.ConfFault.{ConfFault}
use Rattle.km_names.specs.declared.conf.ConfFault.TheVariants as faults
use Rattle.outside_calls.specs.Contents.{by_bytes}
use Rattle.km_course.specs.Course.{Outcome, Stage, ◌>>=◌, gives, when◌then◌else◌, each_from, reads}
use Rattle.km_course.specs.Course.{lists_conf, lists_any_conf}
use Rattle.km_course.specs.Course.Outcome.{value, end}
use Rattle.km_course.specs.declared.end.End.TheVariants.{Refused}
use Rattle.km_course.specs.declared.refusal.Refusal.TheVariants.{BadLine}
use Rattle.km_course.specs.declared.stop.Stop.{Stop}
use Rattle.km_course.specs.declared.stop.Stop.TheVariants.{Ended, Memory}
use Rattle.stages_files.specs.declared.configuration.ListedFolder.{ListedFolder}
use Rattle.stages_files.specs.declared.configuration.Tool.{Tool}
use Rattle.stages_files.specs.declared.configuration.Tool.TheVariants.{Depmod, Modprobe}

-- The name of the folders of a tool's configuration.
abbrev pub folder_name : Tool → List ℕ
folder_name Depmod = codes "depmod.d"
folder_name Modprobe = codes "modprobe.d"

-- The places of these folders, the first before the others.
abbrev pub roots : List (List ℕ)
roots = codes "/etc" ∷ codes "/run" ∷ codes "/usr/local/lib" ∷ codes "/usr/lib" ∷ codes "/lib" ∷ []

-- Paths of files by their base names.
abbrev pub Named : Type 0
Named = fin.FinMap by_bytes (List ℕ)

-- The files, with the files of these names in a folder in place of others of the same names.
abbrev pub with_names : List ℕ → List (List ℕ) → Named → Named
with_names folder [] files = files
with_names folder (name ∷ names) files =
    with_names folder names (fin.insert files name (path_below folder name))

-- The files of folders by their base names. Of equal names the file of the earlier folder counts.
unfoldable pub by_name : List ListedFolder → Named
by_name [] = fin.empty
by_name (folder ∷ folders) = with_names folder.path folder.names (by_name folders)

-- The paths of the files that count, in the order of their base names.
unfoldable pub paths_of : List ListedFolder → List (List ℕ)
paths_of folders = map (λ file. file.1) (fin.entries (by_name folders))

-- The folders that were listed, and the one of this name below a root, which is empty if it is
-- missing.
abbrev pub lists_folder : List ℕ → List ListedFolder → List ℕ → Stage (List ListedFolder)
lists_folder name listed root = do
  names ← lists_any_conf (path_below root name)
  gives (listed ++ record { path = path_below root name; names = names } ∷ [])

-- The folders of this name below the roots, listed one after the other.
abbrev pub lists_folders : List ℕ → List (List ℕ) → Stage (List ListedFolder)
lists_folders name places = each_from (lists_folder name) [] places

-- The files that were read, and the one at the path, which is needed.
abbrev pub reads_file : List ConfFile → List ℕ → Stage (List ConfFile)
reads_file files path = do
  bytes ← reads path
  gives (files ++ record { path = path; bytes = bytes } ∷ [])

-- The files at the paths, read one after the other.
abbrev pub reads_files : List (List ℕ) → Stage (List ConfFile)
reads_files paths = each_from reads_file [] paths

-- The files that count in the folders, read one after the other.
abbrev pub reads_listed : List ListedFolder → Stage (List ConfFile)
reads_listed folders = reads_files (paths_of folders)

-- The configuration at a path that was given: one file if the path ends in `.conf`, and otherwise
-- one folder.
abbrev pub reads_given : List ℕ → Stage (List ConfFile)
reads_given path =
    when ends_with nat_eq path (codes ".conf") then reads_files (path ∷ []) else (do
      names ← lists_conf path
      reads_listed (record { path = path; names = names } ∷ []))

-- The files of a tool's configuration: at the path that was given, or in the folders.
abbrev pub reads_configuration : Tool → Option (List ℕ) → Stage (List ConfFile)
reads_configuration tool (Some path) = reads_given path
reads_configuration tool None = do
  folders ← lists_folders (folder_name tool) roots
  reads_listed folders

-- The outcome of reading files that state this, or whose first line that isn't understood is at
-- this place: the statements, or the refusal of the line.
abbrev pub stated_outcome : {X : Type 0} → Result X LinePlace → Outcome X
stated_outcome (Ok stated) = value stated
stated_outcome (Err place) = end (Refused (BadLine place.file place.number))

-- The stop of a command for a fault of configuration files.
abbrev pub stop_of : ConfFault → Stop
stop_of (faults.BadLine file number) = Ended (Refused (BadLine file number))
stop_of faults.Memory = Memory

-- The entries of an ordered map from names to paths, as bytes.
abbrev pub entries_in_bytes : List (Vec ℕ × List ℕ) → List (List ℕ × List ℕ)
entries_in_bytes entries = map (λ e. (e.0.items, e.1)) entries
