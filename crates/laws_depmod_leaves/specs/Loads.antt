-- Loads from a folder that a depmod left: for these it is as depmod indexed it. modprobe(8),
-- depmod(8).
use Rattle.std.specs.Prelude.{◌≡◌, ℕ, List, Option, Some, None}
use Rattle.std.specs.FinMap.{get}
use Rattle.outside_calls.specs.Contents.{Contents}
use Rattle.kmod_words.specs.declared.depmod.DepmodWords.{DepmodWords}
use Rattle.kmod_words.specs.declared.modprobe.ModprobeWords.{ModprobeWords}
use Rattle.kernel_exports.specs.declared.kernel.Kernel.{Kernel}
use Rattle.module_region.specs.declared.region.Region.{Region}
use Rattle.stages_files.specs.KernelModules.{modules_folder}
use Rattle.command_depmod.specs.Depmod.{modules_of_request}
use Rattle.laws_planned_loads.specs.Courses.{HasMachine, IsIndexedFor}
use Rattle.laws_depmod_leaves.specs.Comes.{IndexedTree, IsIndexed}
use Rattle.laws_depmod_leaves.specs.Left.{LeftIndexed}

-- Whether a depmod and a modprobe have the kernel's table of the same bytes. The depmod names a
-- System.map or a Module.symvers, and the modprobe a System.map and maybe a Module.symvers. If the
-- modprobe names a Module.symvers, each has the table of its Module.symvers, and otherwise of its
-- System.map. The depmod's file has among the first files what the modprobe's has among the others,
-- whatever their paths.
abbrev pub AreOfOneTable : Contents → Contents → Option (List ℕ) → Option (List ℕ) → List ℕ
    → Option (List ℕ) → Type 0
AreOfOneTable held left (Some file) symvers map None = get held file ≡ get left map
AreOfOneTable held left (Some file) symvers map (Some other) = ⊥
AreOfOneTable held left None (Some file) map (Some other) = get held file ≡ get left other
AreOfOneTable held left None (Some file) map None = ⊥
AreOfOneTable held left None None map other = ⊥

-- A modprobe is asked to load over the files that a depmod left, which found the first ones. It
-- loads from the same folder into the machine of this kernel, which has its table of the same
-- bytes.
pub record IsLoadAfter (held : Contents) (asked : DepmodWords) (left : Contents)
    (loads : ModprobeWords) (addressed : Kernel) (region : Region) : Type 0 where
  pub folder : modules_folder loads.dirname loads.version ≡ modules_of_request asked
  pub machine : HasMachine left loads addressed region
  pub table : AreOfOneTable held left asked.filesyms asked.symvers machine.map loads.symvers

-- For such a load the folder is as depmod indexed it, and the kernel has the table that was
-- indexed.
abbrev pub LeftForLoads : Type 0
LeftForLoads =
    (held : Contents) (asked : DepmodWords) (i : IndexedTree) (left : Contents)
    (loads : ModprobeWords) (addressed : Kernel) (region : Region)
    → IsIndexed held asked i
    → (is : LeftIndexed asked i left)
    → IsLoadAfter held asked left loads addressed region
    → IsIndexedFor left (modules_folder loads.dirname loads.version) i.tree is.kernel i.builtin
    addressed
