-- What depmod reads of the folder, computed.
use Rattle.std.proofs.Common.{◌≡◌, ◌∙◌, ℕ, List, [], ◌∷◌, length, map, codes, refl, ap, true}
use Rattle.std.specs.Prelude.{Some, None, Ok}
use Rattle.std.specs.Ordering.{nat_cmp}
use Rattle.std.specs.Cmp.Lexicographic.{nat_list_cmp_total, slice_cmp}
use Rattle.std.specs.FinMap.{find, get, get-from_entries}
use Rattle.km_names.specs.Path.{path_below}
use Rattle.outside_calls.specs.Contents.{is_path}
use Rattle.km_course.specs.Course.{Stage, ◌>>=◌, given, read_outcome, lists_tree, reads, reads_any}
use Rattle.km_course.specs.Course.Outcome.{value, end}
use Rattle.km_course.specs.declared.end.End.TheVariants.{NoFile}
use Rattle.mod_tree.specs.Search.{search_of}
use Rattle.mod_tree.specs.Tree.{listing_cmp, name_count, tree_of, tree_paths}
use Rattle.kernel_exports.specs.KernelTable.{exports_of_map}
use Rattle.stages_files.specs.Configuration.{reads_configuration, stated_outcome}
use Rattle.stages_files.specs.KernelTable.{reads_kernel, table_outcome}
use Rattle.stages_files.specs.declared.configuration.Tool.TheVariants.{Depmod}
use Rattle.command_depmod.specs.Search.{reads_search}
use Rattle.command_depmod.specs.Tree.{reads_tree, tree_outcome}
use Rattle.command_depmod.proofs.TreeSteps.{chosen_ok}
use Rattle.laws_planned_loads.proofs.RunLemmas.{reads-file, reads-names, run-read}
use Rattle.laws_planned_loads.proofs.KnownLemmas.{only-configuration}
use Rattle.laws_headline.specs.Objects.{folder_found, found, giver_file, taker_file}
use Rattle.laws_headline.proofs.Computing.{computing}
use Rattle.laws_headline.proofs.Folders.{given-is, lists-so, on-value, paths_in, unconfigured}
use Rattle.laws_headline.proofs.Maps.{entries-of, in_order-of}
use Rattle.laws_headline.proofs.MetFiles.{bare_table}

-- ---- the files

abbrev pub found_files : List (List ℕ × List ℕ)
found_files =
    (path_below folder_found (codes "m.ko"), taker_file)
    ∷ (path_below folder_found (codes "p.ko"), giver_file) ∷ (codes "/S", []) ∷ []

abbrev pub found_paths : List (List ℕ)
found_paths = codes "/S" ∷ codes "/lib/modules/1/m.ko" ∷ codes "/lib/modules/1/p.ko" ∷ []

found-paths : paths_in found ≡ found_paths
found-paths = ap (map (λ e. e.0)) (entries-of nat_list_cmp_total found_files)

pub found-get : (path : List ℕ) → get found path ≡ find (slice_cmp nat_cmp) path found_files
found-get path = get-from_entries nat_list_cmp_total found_files path

-- ---- the search list

abbrev pub words_of_search : List (List ℕ)
words_of_search = codes "updates" ∷ codes "built-in" ∷ []

pub searched : ((reads_search None).run found).outcome ≡ value words_of_search
unfolding search_of computing
searched =
    on-value found (reads_configuration Depmod None)
    (λ files. given (stated_outcome (search_of files))) [] (only-configuration Depmod None)
    (unconfigured found found_paths Depmod found-paths (refl, (refl, (refl, (refl, (refl, tt))))))
    ∙ given-is (stated_outcome (search_of [])) found

-- ---- the tree

abbrev pub two_paths : List (List ℕ)
two_paths = codes "m.ko" ∷ codes "p.ko" ∷ []

counted : name_count two_paths ≡ 2
unfolding name_count
counted = ap length (in_order-of nat_list_cmp_total (codes "m" ∷ codes "p" ∷ []))

ordered : tree_paths words_of_search [] two_paths ≡ two_paths
unfolding tree_paths
ordered = in_order-of {R = listing_cmp []} nat_list_cmp_total two_paths

tree-is : tree_of two_paths [] words_of_search ≡ Ok two_paths
unfolding tree_of computing
tree-is = rw (counted, ordered) refl

-- the stages after the folder was listed, and after modules.order was read
abbrev after_order : List (List ℕ) → List ℕ → Stage (List (List ℕ))
after_order listed order = given (tree_outcome listed order words_of_search)

abbrev after_listing : List (List ℕ) → Stage (List (List ℕ))
after_listing listed =
    reads_any (path_below folder_found (codes "modules.order"))
    >>= λ order. after_order listed order

abbrev order_path : List ℕ
order_path = path_below folder_found (codes "modules.order")

no-order : ((reads_any order_path).run found).outcome ≡ value []
no-order =
    ap (λ r. r.outcome) (run-read (value []) order_path found)
    ∙ ap (read_outcome (value []) order_path) (found-get order_path)

pub chosen : ((reads_tree folder_found words_of_search).run found).outcome ≡ value two_paths
chosen =
    on-value found (lists_tree folder_found) after_listing two_paths
    (reads-names (end (NoFile folder_found)) is_path folder_found)
    (lists-so found found_paths (end (NoFile folder_found)) is_path folder_found found-paths)
    ∙ on-value found (reads_any order_path) (after_order two_paths) []
    (reads-file (value []) order_path) no-order
    ∙ given-is (tree_outcome two_paths [] words_of_search) found
    ∙ chosen_ok two_paths [] words_of_search two_paths tree-is

-- ---- the kernel's table, and modules.builtin

abbrev table_path : List ℕ
table_path = codes "/S"

pub mapped : table_outcome table_path true (exports_of_map []) ≡ value bare_table
unfolding computing
mapped = refl

pub tabled : ((reads_kernel (Some table_path) None).run found).outcome ≡ value bare_table
tabled =
    on-value found (reads table_path)
    (λ bytes. given (table_outcome table_path true (exports_of_map bytes))) []
    (reads-file (end (NoFile table_path)) table_path)
    (ap (λ r. r.outcome) (run-read (end (NoFile table_path)) table_path found)
    ∙ ap (read_outcome (end (NoFile table_path)) table_path) (found-get table_path))
    ∙ given-is (table_outcome table_path true (exports_of_map [])) found
    ∙ mapped

abbrev built_in_path : List ℕ
built_in_path = path_below folder_found (codes "modules.builtin")

pub none-built_in : ((reads_any built_in_path).run found).outcome ≡ value []
none-built_in =
    ap (λ r. r.outcome) (run-read (value []) built_in_path found)
    ∙ ap (read_outcome (value []) built_in_path) (found-get built_in_path)
