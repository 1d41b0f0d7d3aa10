-- Files that are as depmod indexed them: the modules of a tree in a folder, and what depmod made of
-- them. depmod(8), modules.dep(5).
use Rattle.std.specs.Prelude.{◌≡◌, ◌≤◌, ℕ, true, List, length, Some, None, Ok}
use Rattle.std.specs.FinMap.{get}
use Rattle.km_names.specs.Limit.{file_limit}
use Rattle.km_names.specs.Path.{path_below}
use Rattle.outside_calls.specs.Contents.{Contents}
use Rattle.index_format.specs.Map.{KeyValues}
use Rattle.index_format.specs.Holds.{Holds}
use Rattle.module_facts.specs.declared.facts.Facts.{Facts}
use Rattle.module_facts.specs.Facts.{facts_of}
use Rattle.module_facts.specs.Faults.{fact_fault}
use Rattle.mod_tree.specs.Tree.{is_module_path}
use Rattle.symbol_binding.specs.Unmet.{unmet}
use Rattle.unmet_file.specs.Unmet.{unmet_of}
use Rattle.kernel_exports.specs.declared.kernel.Kernel.{Kernel}
use Rattle.provider_rel.specs.Faces.{modules_of, kernel_of}
use Rattle.provider_rel.specs.Tree.{IsTree}
use Rattle.provider_rel.specs.Relation.{relation_fault}
use Rattle.depmod_core.specs.declared.file.OutputFile.{OutputFile}
use Rattle.depmod_core.specs.declared.file.OutputFile.TheVariants.{DepBin, AliasBin, Softdep}
use Rattle.depmod_core.specs.declared.file.OutputFile.TheVariants.{SymbolsBin, BuiltinBin, Unmet}
use Rattle.depmod_core.specs.declared.files.OutputFiles.{OutputFiles}
use Rattle.depmod_core.specs.Files.{content, file_name, files, output_fault}
use Rattle.laws_closed_plans.specs.Members.{Member}
use Rattle.laws_indexed_folder.specs.Binding.{StandsAsIndexed}

-- The file at a path has these bytes.
abbrev pub HasFile : Contents → List ℕ → List ℕ → Type 0
HasFile held path bytes = get held path ≡ Some bytes

-- The file at the path of a module is a valid one that can be read, and has these facts.
pub record IsModuleFile (held : Contents) (folder : List ℕ) (f : Facts) : Type 0 where
  pub kind : is_module_path f.path ≡ true
  pub bytes : List ℕ
  pub there : HasFile held (path_below folder f.path) bytes
  pub small : length bytes ≤ file_limit
  pub passed : fact_fault f.path bytes ≡ None
  pub facts : f ≡ facts_of f.path bytes

-- A file of depmod's is in the folder.
abbrev pub IsIn : Contents → List ℕ → OutputFiles → OutputFile → Type 0
IsIn held folder made name = HasFile held (path_below folder (file_name name)) (content made name)

-- All files that modprobe reads are in the folder.
pub record AreIn (held : Contents) (folder : List ℕ) (made : OutputFiles) : Type 0 where
  pub dep : IsIn held folder made DepBin
  pub alias : IsIn held folder made AliasBin
  pub softdep : IsIn held folder made Softdep
  pub symbols : IsIn held folder made SymbolsBin
  pub built_in : IsIn held folder made BuiltinBin
  pub unmet : IsIn held folder made Unmet

-- A folder is as depmod indexed it, over a kernel, when modules.builtin had these bytes.
pub record Indexed (held : Contents) (folder : List ℕ) (tree : List Facts) (kernel : Kernel)
    (builtin : List ℕ) : Type 0 where
  -- The tree is one of valid modules, whose files are in the folder.
  pub is_tree : IsTree tree
  pub modules : (f : Facts) → Member f tree → IsModuleFile held folder f
  -- The kernel's table is known.
  pub known : kernel.known ≡ true
  -- No walk from a module to one that it uses leads back, and no limit is exceeded.
  pub related : relation_fault (modules_of tree) (kernel_of kernel) ≡ None
  pub small : output_fault (files tree (kernel_of kernel) builtin) ≡ None
  -- The files that modprobe reads are the tree's.
  pub made : AreIn held folder (files tree (kernel_of kernel) builtin)

-- What is read from such a folder: each module of the tree as it was, the dependency lines of the
-- tree, and its lines of modules.unmet.
pub record ReadsAsIndexed (held : Contents) (folder : List ℕ) (tree : List Facts) (kernel : Kernel)
    : Type 0 where
  pub modules : (f : Facts) (bytes : List ℕ) → Member f tree
      → HasFile held (path_below folder f.path) bytes
      → (fact_fault f.path bytes ≡ None) × (facts_of f.path bytes ≡ f)
  pub lines : (bytes : List ℕ) (dep : KeyValues)
      → HasFile held (path_below folder (file_name DepBin)) bytes → Holds bytes dep
      → StandsAsIndexed tree kernel dep
  pub unmet : (path bytes : List ℕ) → HasFile held (path_below folder (file_name Unmet)) bytes
      → unmet_of path bytes ≡ Ok (unmet (modules_of tree) (kernel_of kernel))

-- Folders that are as depmod indexed them are read in this way.
abbrev pub FoldersReadAsIndexed : Type 0
FoldersReadAsIndexed =
    (held : Contents) (folder : List ℕ) (tree : List Facts) (kernel : Kernel) (builtin : List ℕ)
    → Indexed held folder tree kernel builtin
    → ReadsAsIndexed held folder tree kernel
