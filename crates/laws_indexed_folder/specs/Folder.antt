-- Loads of modules from a folder that is as depmod indexed it. modprobe(8).
use Rattle.std.specs.Prelude.{◌≡◌, ℕ, List, [], ◌∷◌, Some, None, Ok, IsOk, slice_get}
use Rattle.km_names.specs.Path.{path_below}
use Rattle.outside_calls.specs.Contents.{Contents}
use Rattle.index_format.specs.Map.{Value, KeyValues, values_of}
use Rattle.index_format.specs.Holds.{Holds}
use Rattle.mod_tree.specs.DependencyLine.{own_path}
use Rattle.module_facts.specs.declared.facts.Facts.{Facts}
use Rattle.module_facts.specs.declared.module.Module.{Module}
use Rattle.module_facts.specs.Facts.{facts_of}
use Rattle.module_facts.specs.Faults.{fact_fault}
use Rattle.symbol_binding.specs.declared.unbound.Unbound.{Unbound}
use Rattle.unmet_file.specs.Unmet.{unmet_of}
use Rattle.kernel_exports.specs.declared.kernel.Kernel.{Kernel}
use Rattle.provider_rel.specs.Faces.{kernel_of}
use Rattle.module_region.specs.declared.region.Region.{Region}
use Rattle.model_loader.specs.Machine.{new_machine}
use Rattle.depmod_core.specs.declared.file.OutputFile.TheVariants.{DepBin, Unmet}
use Rattle.depmod_core.specs.Files.{file_name}
use Rattle.laws_closed_plans.specs.Members.{Member}
use Rattle.laws_closed_plans.specs.Lines.{AreClosed}
use Rattle.laws_closed_plans.specs.Loads.{load_all}
use Rattle.laws_closed_plans.specs.Binding.{Binds}
use Rattle.laws_indexed_folder.specs.Index.{lines_of_map}
use Rattle.laws_indexed_folder.specs.Indexed.{HasFile, Indexed}

-- The modules.dep.bin of a folder represents this map, and its modules.unmet has these lines.
pub record IsRead (held : Contents) (folder : List ℕ) (dep : KeyValues) (lines : List Unbound) :
    Type 0 where
  pub index : List ℕ
  pub index_there : HasFile held (path_below folder (file_name DepBin)) index
  pub index_holds : Holds index dep
  pub text : List ℕ
  pub text_there : HasFile held (path_below folder (file_name Unmet)) text
  pub text_states : unmet_of (path_below folder (file_name Unmet)) text ≡ Ok lines

-- The file of the module of a name: the one at the first path of the dependency line.
pub record IsFileOf (held : Contents) (folder : List ℕ) (dep : KeyValues) (name path bytes : List ℕ)
    : Type 0 where
  pub value : Value
  pub first : slice_get (values_of dep name) 0 ≡ Some value
  pub own : own_path value.1 ≡ path
  pub there : HasFile held (path_below folder path) bytes

-- The module of a name is the one of its file.
pub record IsModuleOf (held : Contents) (folder : List ℕ) (dep : KeyValues) (name : List ℕ)
    (m : Module) : Type 0 where
  pub path : List ℕ
  pub bytes : List ℕ
  pub file : IsFileOf held folder dep name path bytes
  pub facts : m.facts ≡ facts_of path bytes

-- Each of some modules is the one of its name's file, in the order of their names.
abbrev pub AreModulesOf : Contents → List ℕ → KeyValues → List (List ℕ) → List Module → Type 0
AreModulesOf held folder dep [] [] = Unit {0}
AreModulesOf held folder dep [] (m ∷ ms) = ⊥
AreModulesOf held folder dep (name ∷ names) [] = ⊥
AreModulesOf held folder dep (name ∷ names) (m ∷ ms) =
    IsModuleOf held folder dep name m × AreModulesOf held folder dep names ms

-- In a folder that is as depmod indexed it, the file of each name that has one is valid. It is a
-- module of that name, with the facts that the tree has.
abbrev pub FilesAreValid : Type 0
FilesAreValid =
    (held : Contents) (folder : List ℕ) (tree : List Facts) (kernel : Kernel) (builtin : List ℕ)
    (dep : KeyValues) (lines : List Unbound)
    → Indexed held folder tree kernel builtin
    → IsRead held folder dep lines
    → (name path bytes : List ℕ) → IsFileOf held folder dep name path bytes
    → (fact_fault path bytes ≡ None) × ((facts_of path bytes).name ≡ name)
    × Member (facts_of path bytes) tree

-- A plan of a folder that is as depmod indexed it binds, if it is closed over the names of listed
-- modules that load. The machine has the same kernel's table, with addresses.
abbrev pub FoldersBind : Type 0
FoldersBind =
    (held : Contents) (folder : List ℕ) (tree : List Facts) (kernel : Kernel) (builtin : List ℕ)
    (dep : KeyValues) (lines : List Unbound)
    → Indexed held folder tree kernel builtin
    → IsRead held folder dep lines
    → (addressed : Kernel) (region : Region) (loaded plan : List (List ℕ))
    (listed steps : List Module)
    → kernel_of addressed ≡ kernel_of kernel
    → AreModulesOf held folder dep loaded listed
    → AreModulesOf held folder dep plan steps
    → IsOk (load_all (new_machine addressed region) listed)
    → AreClosed (lines_of_map dep) lines loaded plan
    → Binds addressed region listed steps
