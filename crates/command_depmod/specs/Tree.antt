-- The tree of a kernel's modules, as `depmod` finds it in their folder. depmod(8), depmod.d(5).
use Rattle.std.specs.Prelude.{◌≡◌, ◌≤◌, ◌==◌, ℕ, nat_lt, not, List, [], ◌∷◌, filter, length, codes}
use Rattle.std.specs.Prelude.{Option, option_map, All, AllPairs, IsTrue}
use Rattle.std.specs.List.{list_any}
use Rattle.km_names.specs.Ascii.{is_graphic}
use Rattle.km_names.specs.Path.{path_below, module_name}
use Rattle.km_names.specs.First.{first}
use Rattle.km_names.specs.Lines.{lines_of}
use Rattle.elf_sections.specs.Shape.{fault_if}
use Rattle.mod_tree.specs.Tree.{bad_path, is_module_path, name_count, tree_paths}
use Rattle.mod_tree.specs.declared.tree.TreeFault.{TreeFault}
use Rattle.mod_tree.specs.declared.tree.TreeFault.TheVariants as faults
use Rattle.km_course.specs.Course.{Outcome, Stage, ◌>>=◌, given, lists_tree, reads_any}
use Rattle.km_course.specs.declared.end.End.TheVariants.{Refused}
use Rattle.km_course.specs.declared.refusal.Refusal.{Refusal}
use Rattle.km_course.specs.declared.refusal.Refusal.TheVariants.{BadPath, TooManyModules}
use Rattle.km_course.specs.declared.stop.Stop.{Stop}
use Rattle.km_course.specs.declared.stop.Stop.TheVariants.{Ended, Memory}
use Rattle.km_course.specs.Course.{value_unless}

-- The refusal of paths of modules: of the least that is bad, or of more than 10,000 names.
abbrev pub tree_refusal : List (List ℕ) → Option Refusal
tree_refusal paths =
    first (option_map BadPath (bad_path paths)
    ∷ fault_if (nat_lt 10000 (name_count paths)) TooManyModules ∷ [])

-- how a fault of a tree stops the command
abbrev pub tree_stop : TreeFault → Stop
tree_stop (faults.BadPath path) = Ended (Refused (BadPath path))
tree_stop (faults.TooManyModules count) = Ended (Refused TooManyModules)
tree_stop faults.Memory = Memory

-- What listed paths result in, by the contents of modules.order and the search list: the paths of
-- their tree, or a refusal.
unfoldable pub tree_outcome : List (List ℕ) → List ℕ → List (List ℕ) → Outcome (List (List ℕ))
tree_outcome listed order search =
    let paths = filter is_module_path listed in
    value_unless (λ refusal. refusal) (tree_refusal paths)
    (tree_paths search (lines_of order) paths)

-- The paths of the tree in the folder, relative to it and in the order of the tree. The folder is
-- listed, which is needed. Then its modules.order is read, which counts as empty if it is absent.
abbrev pub reads_tree : List ℕ → List (List ℕ) → Stage (List (List ℕ))
reads_tree folder search = do
  listed ← lists_tree folder
  order ← reads_any (path_below folder (codes "modules.order"))
  given (tree_outcome listed order search)

-- What is known of the paths of a tree. There are at most 10,000, and no two are of modules of one
-- name. Each is a word of visible characters, and has no `:`.
pub record AreTreePaths (paths : List (List ℕ)) : Type 0 where
  pub few : length paths ≤ 10000
  pub distinct : AllPairs (λ (a b : List ℕ). module_name a ≡ module_name b → ⊥) paths
  pub graphic : All (λ path. IsTrue (is_graphic path)) paths
  pub colon : All (λ path. IsTrue (not (list_any (λ b. b == 58) path))) paths
