-- Files of modules that can be read and are valid, and the modules that they are. modprobe(8).
use Rattle.std.specs.Prelude.{◌≡◌, ◌≤◌, ℕ, true, List, [], ◌∷◌, length, None}
use Rattle.km_names.specs.Limit.{file_limit}
use Rattle.km_names.specs.Path.{path_below}
use Rattle.outside_calls.specs.Contents.{Contents}
use Rattle.module_facts.specs.declared.module.Module.{Module}
use Rattle.module_facts.specs.Faults.{fact_fault}
use Rattle.mod_tree.specs.Tree.{is_module_path}
use Rattle.stages_loads.specs.Modules.{module_at}
use Rattle.laws_indexed_folder.specs.Indexed.{HasFile}

-- A module is what the file at a path of the tree in a folder states. The file can be read, and has
-- no fault.
pub record IsFileModule (held : Contents) (folder path : List ℕ) (m : Module) : Type 0 where
  pub kind : is_module_path path ≡ true
  pub bytes : List ℕ
  pub there : HasFile held (path_below folder path) bytes
  pub small : length bytes ≤ file_limit
  pub passed : fact_fault path bytes ≡ None
  pub read : m ≡ module_at path bytes passed

-- Each of some modules is what its file states, in the order of their paths.
abbrev pub AreFileModules : Contents → List ℕ → List (List ℕ) → List Module → Type 0
AreFileModules held folder [] [] = Unit {0}
AreFileModules held folder [] (m ∷ ms) = ⊥
AreFileModules held folder (path ∷ paths) [] = ⊥
AreFileModules held folder (path ∷ paths) (m ∷ ms) =
    IsFileModule held folder path m × AreFileModules held folder paths ms
