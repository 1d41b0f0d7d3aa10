-- What a depmod with `--extra` leaves: the index of the aliases of built-in modules, and the device
-- nodes of the tree's modules. modprobe.d(5), "alias"; kmod(8), "static-nodes". The option is this
-- project's own.
use Rattle.std.specs.Prelude.{◌≡◌, ◌≤◌, ℕ, true, false, List, length, codes, Some, Ok}
use Rattle.km_names.specs.Limit.{file_limit}
use Rattle.km_names.specs.Path.{path_below}
use Rattle.outside_calls.specs.Contents.{Contents}
use Rattle.km_course.specs.Course.{reads_any}
use Rattle.km_course.specs.Course.Outcome.{value}
use Rattle.km_course.specs.World.{World, Shown, Tells}
use Rattle.kmod_words.specs.declared.depmod.DepmodWords.{DepmodWords}
use Rattle.kmod_words.specs.Depmod.{depmod_request}
use Rattle.index_format.specs.Holds.{Holds}
use Rattle.module_facts.specs.declared.facts.Facts.{Facts}
use Rattle.builtin_index.specs.Aliases.{alias_map}
use Rattle.devname_nodes.specs.File.{read_of}
use Rattle.devname_nodes.specs.Nodes.{nodes_of}
use Rattle.stages_files.specs.KernelTable.{Table}
use Rattle.command_depmod.specs.Depmod.{modules_of_request, target_of_request}
use Rattle.laws_indexed_folder.specs.Indexed.{HasFile}
use Rattle.laws_depmod_leaves.specs.Comes.{IsRead}

-- A folder has the index of built-in aliases. No reader refuses this file, and it holds exactly the
-- map of the aliases that a modules.builtin.modinfo with these bytes states.
pub record HasAliases (left : Contents) (folder info : List ℕ) : Type 0 where
  pub bytes : List ℕ
  pub there : HasFile left (path_below folder (codes "modules.builtin.alias.bin")) bytes
  pub small : length bytes ≤ file_limit
  pub holds : Holds bytes (alias_map info)

-- A folder has the list of device nodes. It is read back as the nodes of these modules, in their
-- order.
pub record HasNodes (left : Contents) (folder : List ℕ) (tree : List Facts) : Type 0 where
  pub bytes : List ℕ
  pub there : HasFile left (path_below folder (codes "modules.devname")) bytes
  pub small : length bytes ≤ file_limit
  pub reads : (path : List ℕ) → read_of path bytes ≡ Ok (nodes_of tree)

-- Over the first files a request for both found this modules.builtin.modinfo, which counts as empty
-- if there is none, and this tree of valid modules. In the others its target folder has both files,
-- made of what it found.
pub record LeavesExtra (asked : DepmodWords) (held left : Contents) : Type 0 where
  pub info : List ℕ
  pub found : ((reads_any
      (path_below (modules_of_request asked) (codes "modules.builtin.modinfo"))).run
      held).outcome
      ≡ value info
  pub aliases : HasAliases left (target_of_request asked) info
  pub tree : List Facts
  pub table : Table
  pub read : IsRead held asked tree table
  pub nodes : HasNodes left (target_of_request asked) tree

-- depmod with these words after its name, over files and outputs with known contents. If it was
-- asked for both files, replaces files, and answered status 0, it left them.
abbrev pub Extra : List (List ℕ) → World → World → ℕ → Type 0
Extra words old new status =
    (shown : Shown) → Tells old shown →
    (asked : DepmodWords) → depmod_request words ≡ Some asked → asked.extra ≡ true
    → asked.dry_run ≡ false →
    status ≡ 0
    → (left : Contents) × (new.files.contents ≡ Some left) × LeavesExtra asked shown.files left
