-- The files of a configuration: by their names, and the stages that read them.
use Rattle.std.proofs.Common.{◌≡◌, ℕ, ◌+◌, ◌-◌, ◌<◌, ◌≤◌, List, [], ◌∷◌, ◌++◌, length, map, take}
use Rattle.std.proofs.Common.{drop, get_or, refl, sym, ap, subst, ◌∙◌, arith}
use Rattle.std.specs.Prelude.{Option, None, Result, Ok}
use Rattle.std.specs.Ordering.{nat_cmp, match_ordering}
use Rattle.std.specs.Cmp.Lexicographic.{slice_cmp, nat_list_cmp_total}
use Rattle.std.specs.FinMap as fin
use Rattle.std.specs.FinMap.Entries.{put, by_order}
use Rattle.std.specs.BTreeMap.{insert_entry}
use Rattle.std.specs.Global.{Vec}
use Rattle.std.specs.declared.cmp.Ordering.TheVariants.{Less, Equal, Greater}
use Rattle.std.proofs.lemmas.List.{drop_more, drop_all, take_more, take_all}
use Rattle.km_names.specs.Path.{path_below}
use Rattle.km_names.specs.declared.conf.ConfFile.{ConfFile}
use Rattle.outside_calls.specs.Contents.{by_bytes}
use Rattle.km_course.proofs.Steps.{gave}
use Rattle.km_course.specs.Course.{Stage, ◌>>=◌, gives, each_from, lists_any_conf}
use Rattle.km_course.specs.World.{World}
use Rattle.km_course.specs.Follows.{Follows}
use Rattle.km_course.specs.declared.stop.Stop.{Stop}
use Rattle.stages_files.specs.declared.configuration.ListedFolder.{ListedFolder}
use Rattle.stages_files.specs.declared.configuration.Tool.{Tool}
use Rattle.stages_files.specs.Configuration.{Named, with_names, by_name, paths_of, entries_in_bytes}
use Rattle.stages_files.specs.Configuration.{lists_folder, lists_folders, reads_file, reads_listed}
use Rattle.stages_files.specs.Configuration.{reads_configuration, roots, folder_name}

-- an entry put into an ordered map is one put among the files
put-in_bytes : (k : Vec ℕ) (v : List ℕ) (es : List (Vec ℕ × List ℕ))
    → entries_in_bytes (insert_entry (λ x y. slice_cmp nat_cmp x.items y.items) es k v)
    ≡ put by_bytes k.items v (entries_in_bytes es)
put-in_bytes k v [] = refl
put-in_bytes k v (e ∷ es) =
    elim (by_bytes k.items e.0.items) as (λ o. entries_in_bytes
    (match_ordering o ((k, v) ∷ e ∷ es) ((e.0, v) ∷ es)
    (e ∷ insert_entry (λ x y. slice_cmp nat_cmp x.items y.items) es k v))
    ≡ by_order o ((k.items, v) ∷ entries_in_bytes (e ∷ es)) ((e.0.items, v) ∷ entries_in_bytes es)
    ((e.0.items, e.1) ∷ put by_bytes k.items v (entries_in_bytes es))) [
      | Less ↦ refl
      | Equal ↦ refl
      | Greater ↦ ap (λ fs. (e.0.items, e.1) ∷ fs) (put-in_bytes k v es)
    ]

pub name-put : (folder name path : List ℕ) (key : Vec ℕ) (old new : List (Vec ℕ × List ℕ))
    (files : Named)
    → new ≡ insert_entry (λ x y. slice_cmp nat_cmp x.items y.items) old key path → key.items ≡ name
    → path ≡ path_below folder name → entries_in_bytes old ≡ fin.entries files
    → entries_in_bytes new ≡ fin.entries (with_names folder (name ∷ []) files)
name-put folder name path key old new files is named at before =
    ap entries_in_bytes is
    ∙ put-in_bytes key path old
    ∙ ap (λ n. put by_bytes n path (entries_in_bytes old)) named
    ∙ ap (λ p. put by_bytes name p (entries_in_bytes old)) at
    ∙ ap (put by_bytes name (path_below folder name)) before
    ∙ sym (fin.entries-insert nat_list_cmp_total files name (path_below folder name))

-- the names of a folder, one more
pub names-more : (folder : List ℕ) (names : List (List ℕ)) (name : List ℕ) (files : Named)
    → with_names folder (name ∷ []) (with_names folder names files)
    ≡ with_names folder (names ++ name ∷ []) files
names-more folder [] name files = refl
names-more folder (first ∷ names) name files =
    names-more folder names name (fin.insert files first (path_below folder first))

-- one name more of some items that are the names
pub one-more : (items names : List (List ℕ)) (i : ℕ) (name : List ℕ) → items ≡ names
    → i < length items → name ≡ get_or items i name → take i names ++ name ∷ [] ≡ take (i + 1) names
one-more items names i name same within is =
    ap (λ n. take i names ++ n ∷ []) (is ∙ ap (λ ns. get_or ns i name) same)
    ∙ sym (take_more names i name (subst (λ ns. i < length ns) same within))

pub all-names : (items names : List (List ℕ)) (i : ℕ) → items ≡ names → length items ≤ i
    → take i names ≡ names
all-names items names i same past = take_all i names (subst (λ ns. length ns ≤ i) same past)

-- no folder has no file
none_long : {X : Type 0} (es : List X) → length es ≡ 0 → es ≡ []
none_long [] is = refl
none_long (e ∷ es) is = absurd (omega arith)

pub no-folder : fin.entries (by_name []) ≡ []
unfolding by_name
no-folder = none_long _ (sym (fin.len-entries (by_name [])) ∙ fin.len-empty by_bytes (List ℕ))

-- the files of a folder before others
pub folder-first : (folder : ListedFolder) (folders : List ListedFolder)
    → with_names folder.path folder.names (by_name folders) ≡ by_name (folder ∷ folders)
unfolding by_name
folder-first folder folders = refl

pub folder-more : (folders : List ListedFolder) (i : ℕ) (folder : ListedFolder) → i < length folders
    → folder ≡ get_or folders i folder
    → with_names folder.path folder.names (by_name (drop (i + 1) folders))
    ≡ by_name (drop i folders)
folder-more folders i folder within is =
    folder-first folder (drop (i + 1) folders)
    ∙ ap (λ f. by_name (f ∷ drop (i + 1) folders)) is
    ∙ ap by_name (sym (drop_more folders i folder within))

-- before the first turn no folder's file is there
pub folders-start : (es : List (Vec ℕ × List ℕ)) (folders : List ListedFolder) (n : ℕ) → es ≡ []
    → length folders ≤ n → entries_in_bytes es ≡ fin.entries (by_name (drop n folders))
folders-start es folders n none past =
    ap entries_in_bytes none
    ∙ sym (ap (λ fs. fin.entries (by_name fs)) (drop_all n folders past) ∙ no-folder)

-- one turn: the folder before those that were taken
pub folders-on : (folders : List ListedFolder) (left : ℕ) (folder : ListedFolder) → 0 < left
    → left ≤ length folders → folder ≡ get_or folders (left - 1) folder
    → fin.entries (with_names folder.path folder.names (by_name (drop left folders)))
    ≡ fin.entries (by_name (drop (left - 1) folders))
folders-on folders left folder some within is =
    let e : left ≡ left - 1 + 1 = omega arith in
    let below : left - 1 < length folders = omega arith in
    ap (λ n. fin.entries (with_names folder.path folder.names (by_name (drop n folders)))) e
    ∙ ap fin.entries (folder-more folders (left - 1) folder below is)

-- after the last turn all are
pub folders-end : (es : List (Vec ℕ × List ℕ)) (folders : List ListedFolder) (left : ℕ) → left ≤ 0
    → entries_in_bytes es ≡ fin.entries (by_name (drop left folders))
    → entries_in_bytes es ≡ fin.entries (by_name folders)
folders-end es folders left none is =
    let e : left ≡ 0 = omega arith in
    is ∙ ap (λ n. fin.entries (by_name (drop n folders))) e

values-in_bytes : (es : List (Vec ℕ × List ℕ))
    → map (λ e. e.1) es ≡ map (λ e. e.1) (entries_in_bytes es)
values-in_bytes [] = refl
values-in_bytes (e ∷ es) = ap (λ vs. e.1 ∷ vs) (values-in_bytes es)

-- the paths of all folders' files
pub paths-found : (es : List (Vec ℕ × List ℕ)) (folders : List ListedFolder)
    → entries_in_bytes es ≡ fin.entries (by_name folders) → map (λ e. e.1) es ≡ paths_of folders
unfolding paths_of
paths-found es folders is = values-in_bytes es ∙ ap (map (λ e. e.1)) is

-- the stage after a folder was listed
abbrev pub folder_added : List ListedFolder → List ℕ → List (List ℕ) → Stage (List ListedFolder)
folder_added listed path names = gives (listed ++ record { path = path; names = names } ∷ [])

-- a folder of this path is the one below the root
pub at-root : (name root path : List ℕ) (listed : List ListedFolder) (old new : World)
    (r : Result (List ListedFolder) Stop)
    → path ≡ path_below root name
    → Follows (λ x. x) (lists_any_conf path >>= folder_added listed path) old new r
    → Follows (λ x. x) (lists_folder name listed root) old new r
at-root name root path listed old new r is f =
    subst (λ p. Follows (λ (x : List ListedFolder). x) (lists_any_conf p >>= folder_added listed p)
    old new r) is f

-- a value that was given is this one
pub gave-as : {X : Type 0} (w : World) (x y : X) → x ≡ y
    → Follows (λ (x : X). x) (gives y) w w (Ok x)
gave-as {X} w x y is =
    subst (λ z. Follows (λ (x : X). x) (gives z) w w (Ok x)) is (gave (λ (x : X). x) w x)

-- the stage of the folders after the first one
abbrev pub folders_rest : List ℕ → List (List ℕ) → List ListedFolder → Stage (List ListedFolder)
folders_rest name roots listed = each_from (lists_folder name) listed roots

-- the stage after a file was read
abbrev pub file_added : List ConfFile → List ℕ → List ℕ → Stage (List ConfFile)
file_added files path bytes = gives (files ++ record { path = path; bytes = bytes } ∷ [])

-- the stage of the files after the first one
abbrev pub files_rest : List (List ℕ) → List ConfFile → Stage (List ConfFile)
files_rest paths files = each_from reads_file files paths

-- the stage after a given folder was listed
abbrev pub given_listed : List ℕ → List (List ℕ) → Stage (List ConfFile)
given_listed path names = reads_listed (record { path = path; names = names } ∷ [])

-- a folder of this name is listed, and then the others
pub named-folder : (name said root : List ℕ) (listed : List ListedFolder)
    (f : List ListedFolder → Stage (List ListedFolder)) (old new : World)
    (r : Result (List ListedFolder) Stop)
    → said ≡ name → Follows (λ x. x) (lists_folder said listed root >>= f) old new r
    → Follows (λ x. x) (lists_folder name listed root >>= f) old new r
named-folder name said root listed f old new r is follows =
    subst (λ n. Follows (λ (x : List ListedFolder). x) (lists_folder n listed root >>= f) old new r)
    is follows

-- without a path that was given, the folders below the roots are listed
pub in-folders : (tool : Tool) (config : Option (List ℕ)) (places : List (List ℕ)) (old new : World)
    (r : Result (List ConfFile) Stop)
    → config ≡ None → places ≡ roots
    → Follows (λ x. x) (lists_folders (folder_name tool) places >>= λ folders. reads_listed folders)
    old new r
    → Follows (λ x. x) (reads_configuration tool config) old new r
in-folders tool config places old new r none is f =
    subst (λ c. Follows (λ (x : List ConfFile). x) (reads_configuration tool c) old new r)
    (sym none)
    (subst (λ ps. Follows (λ (x : List ConfFile). x)
    (lists_folders (folder_name tool) ps >>= λ folders. reads_listed folders) old new r)
    is f)
