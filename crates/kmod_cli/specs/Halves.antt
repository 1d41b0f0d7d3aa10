-- Where the two halves of the headline meet: a depmod that is done, and then a modprobe over the
-- files that it left. depmod(8), modprobe(8).
use Rattle.std.specs.Prelude.{◌≡◌, ℕ, List, Some}
use Rattle.km_course.specs.World.{World, Shown, Tells}
use Rattle.kmod_words.specs.declared.depmod.DepmodWords.{DepmodWords}
use Rattle.kmod_words.specs.Depmod.{depmod_request}
use Rattle.kmod_words.specs.declared.modprobe.Mode.TheVariants.{Load}
use Rattle.kmod_words.specs.declared.modprobe.ModprobeWords.{ModprobeWords}
use Rattle.kmod_words.specs.Modprobe.{modprobe_request}
use Rattle.laws_planned_loads.specs.Courses.{CameToLoads, Loading, inputs_of}
use Rattle.laws_depmod_leaves.specs.Comes.{IndexedTree, IsIndexed}
use Rattle.laws_depmod_leaves.specs.Left.{IsInPlace, LeftIndexed}
use Rattle.laws_depmod_leaves.specs.Loads.{IsLoadAfter}
use Rattle.kmod_cli.specs.Headline.{Headline, LoadsBind}
use Rattle.kmod_cli.specs.Indexes.{Indexes}

-- A depmod over files and outputs with these known contents replaced its files in the folder of the
-- modules, by the table of a kernel, and answered status 0.
pub record IsDepmodDone (words : List (List ℕ)) (asked : DepmodWords) (shown : Shown)
    (old new : World) : Type 0 where
  pub tells : Tells old shown
  pub words_ask : depmod_request words ≡ Some asked
  pub place : IsInPlace asked
  pub call : Indexes words old new 0

-- A modprobe over files and outputs with these known contents was asked to load. It loads from the
-- folder of that depmod, into a machine whose kernel has its table of the same bytes. No step of
-- its plan runs a command, and the listed modules load.
pub record IsLoadOver (held : Shown) (asked : DepmodWords) (words : List (List ℕ))
    (loads : ModprobeWords) (l : Loading) (told : Shown) (old new : World) (status : ℕ) : Type 0
  where
    pub tells : Tells old told
    pub words_ask : modprobe_request words ≡ Some loads
    pub mode : loads.mode ≡ Load
    pub after : IsLoadAfter held.files asked told.files loads l.kernel l.region
    pub came : CameToLoads told.files (inputs_of loads) l
    pub call : Headline words old new status

-- If the files of the second call are the ones that the first one left, what the modprobe loads
-- binds. It prints and writes the lines and images of these loads. The premises on tree and kernel
-- hold by what the depmod did.
abbrev pub HalvesMeet : Type 0
HalvesMeet =
    (first second : List (List ℕ)) (asked : DepmodWords) (loads : ModprobeWords) (l : Loading)
    (shown told : Shown) (old new later last : World) (status : ℕ)
    → IsDepmodDone first asked shown old new
    → new.files.contents ≡ Some told.files
    → IsLoadOver shown asked second loads l told later last status
    → (i : IndexedTree) × IsIndexed shown.files asked i × (left : LeftIndexed asked i told.files)
    × LoadsBind loads (record l { tree = i.tree; indexed = left.kernel; builtin = i.builtin }) told
    later last status
