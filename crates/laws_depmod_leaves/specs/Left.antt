-- What a depmod that is done leaves in a folder: what it indexed. depmod(8).
use Rattle.std.specs.Prelude.{◌≡◌, ◌||◌, ℕ, true, false, List, [], ◌∷◌, is_some}
use Rattle.std.specs.FinMap.{insert}
use Rattle.km_names.specs.Path.{path_below}
use Rattle.outside_calls.specs.Contents.{Contents}
use Rattle.kmod_words.specs.declared.depmod.DepmodWords.{DepmodWords}
use Rattle.kernel_exports.specs.declared.kernel.Kernel.{Kernel}
use Rattle.stages_files.specs.KernelTable.{table_of}
use Rattle.command_depmod.specs.declared.files.DepmodFile.{DepmodFile}
use Rattle.command_depmod.specs.declared.files.DepmodFiles.{DepmodFiles}
use Rattle.command_depmod.specs.Depmod.{modules_of_request, target_of_request}
use Rattle.command_depmod.specs.Files.{all_files, content, file_name}
use Rattle.laws_indexed_folder.specs.Indexed.{Indexed}
use Rattle.laws_depmod_leaves.specs.Comes.{IndexedTree, IsIndexed, made_of}

-- The files, with some of those that were made in a folder, each whole.
abbrev pub with_files : List ℕ → DepmodFiles → List DepmodFile → Contents → Contents
with_files folder made [] held = held
with_files folder made (name ∷ names) held =
    with_files folder made names
    (insert held (path_below folder (file_name name)) (content made name))

-- A request for files that are replaced in the folder of the modules, by the table of a kernel.
pub record IsInPlace (asked : DepmodWords) : Type 0 where
  -- files are replaced
  pub replaces : asked.dry_run ≡ false
  -- in the folder of the modules
  pub folder : target_of_request asked ≡ modules_of_request asked
  -- and a System.map or a Module.symvers is named
  pub table : (is_some asked.filesyms || is_some asked.symvers) ≡ true

-- In these files the folder of a request's modules is as it was indexed, over the kernel of its
-- table.
pub record LeftIndexed (asked : DepmodWords) (i : IndexedTree) (left : Contents) : Type 0 where
  pub kernel : Kernel
  pub table : i.table ≡ table_of kernel
  pub indexed : Indexed left (modules_of_request asked) i.tree kernel i.builtin

-- If all files of an index are put into the folder of its modules, by the table of a kernel, that
-- folder is as it was indexed.
abbrev pub DepmodLeavesIndexed : Type 0
DepmodLeavesIndexed =
    (held : Contents) (asked : DepmodWords) (i : IndexedTree)
    → IsInPlace asked
    → IsIndexed held asked i
    → LeftIndexed asked i
    (with_files (target_of_request asked) (made_of i) (all_files asked.extra) held)
