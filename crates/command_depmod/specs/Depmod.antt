-- The course of `depmod`. depmod(8).
use Rattle.std.specs.Prelude.{ℕ, List, Option, is_some, ⊤}
use Rattle.symbol_binding.specs.Unmet.{unmet}
use Rattle.provider_rel.specs.Faces.{modules_of}
use Rattle.kmod_words.specs.declared.depmod.DepmodWords.{DepmodWords}
use Rattle.kmod_words.specs.Depmod.{depmod_request}
use Rattle.km_course.specs.Course.{Stage, ◌>>=◌, given, if_understood}
use Rattle.stages_files.specs.KernelModules.{modules_folder}
use Rattle.stages_files.specs.KernelTable.{reads_kernel, seen_kernel}
use Rattle.command_depmod.specs.declared.course.Wanted.{Wanted}
use Rattle.command_depmod.specs.Search.{reads_search}
use Rattle.command_depmod.specs.Tree.{reads_tree}
use Rattle.command_depmod.specs.Modules.{reads_modules_facts}
use Rattle.command_depmod.specs.Relation.{KernelTree, relation_outcome}
use Rattle.command_depmod.specs.Outputs.{makes_files, hands_out}
use Rattle.command_depmod.specs.Warnings.{warns_unmet}

-- the folder of the modules, and the one into which files are put
abbrev pub modules_of_request : DepmodWords → List ℕ
modules_of_request asked = modules_folder asked.basedir asked.version

-- the folder into which files are put
abbrev pub target_of_request : DepmodWords → List ℕ
target_of_request asked = modules_folder asked.outdir asked.version

-- The tree in a folder, with its relation. The configuration is read, the tree is chosen, and the
-- kernel's table is read. Each module of the tree is read and checked, and then they are related.
abbrev pub reads_related : List ℕ → Option (List ℕ) → Option (List ℕ) → Option (List ℕ)
    → Stage KernelTree
reads_related folder config map symvers = do
  search ← reads_search config
  paths ← reads_tree folder search
  kernel ← reads_kernel map symvers
  facts ← reads_modules_facts folder paths
  given (relation_outcome (record { facts = facts; kernel = seen_kernel kernel }))

-- what a request asks for besides the index itself
abbrev pub wanted_of : DepmodWords → Wanted
wanted_of asked =
    record {
      dry_run = asked.dry_run;
      errsyms = asked.errsyms;
      extra = asked.extra;
      versions = is_some asked.symvers;
    }

-- The warnings of a tree, if they are asked for.
abbrev pub warns_of_tree : Wanted → KernelTree → Stage ⊤
warns_of_tree wanted tree =
    warns_unmet wanted.errsyms wanted.versions (unmet (modules_of tree.facts) tree.kernel)

-- The course of a tree in a folder that was read. Its files are made, and only then is anything
-- written: first the warnings, and then the files into the target.
abbrev pub indexes_tree : Wanted → List ℕ → List ℕ → KernelTree → Stage ⊤
indexes_tree wanted folder target tree = do
  made ← makes_files wanted.extra folder tree
  warned ← warns_of_tree wanted tree
  hands_out wanted.extra wanted.dry_run target made

-- The course of a request: the tree is read, and then it is indexed.
abbrev pub indexes : DepmodWords → Stage ⊤
indexes asked = do
  tree ← reads_related (modules_of_request asked) asked.config asked.filesyms asked.symvers
  indexes_tree (wanted_of asked) (modules_of_request asked) (target_of_request asked) tree

-- The course of `depmod` with these words after it.
abbrev pub depmod_course : List (List ℕ) → Stage ⊤
depmod_course words = if_understood indexes (depmod_request words)
