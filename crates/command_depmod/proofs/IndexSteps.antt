-- The stages of the course of `depmod`, joined.
use Rattle.std.proofs.Common.{ℕ, List}
use Rattle.std.specs.Prelude.{Option, ⊤}
use Rattle.module_facts.specs.declared.facts.Facts.{Facts}
use Rattle.command_depmod.specs.declared.files.DepmodFiles.{DepmodFiles}
use Rattle.km_course.specs.Course.{Stage, ◌>>=◌, given}
use Rattle.stages_files.specs.KernelTable.{Table, reads_kernel, seen_kernel}
use Rattle.command_depmod.specs.Tree.{reads_tree}
use Rattle.command_depmod.specs.Modules.{reads_modules_facts}
use Rattle.command_depmod.specs.Relation.{KernelTree, relation_outcome}
use Rattle.command_depmod.specs.Outputs.{hands_out}
use Rattle.command_depmod.specs.declared.course.Wanted.{Wanted}
use Rattle.command_depmod.specs.Depmod.{warns_of_tree, indexes_tree}

-- the stages after the search list, the tree, the kernel's table and the facts were read
abbrev pub related : Table → List Facts → Stage KernelTree
related kernel facts =
    given (relation_outcome (record { facts = facts; kernel = seen_kernel kernel }))

abbrev pub with_kernel : List ℕ → List (List ℕ) → Table → Stage KernelTree
with_kernel folder paths kernel = reads_modules_facts folder paths >>= λ facts. related kernel facts

abbrev pub with_paths : List ℕ → Option (List ℕ) → Option (List ℕ) → List (List ℕ)
    → Stage KernelTree
with_paths folder map symvers paths =
    reads_kernel map symvers >>= λ kernel. with_kernel folder paths kernel

abbrev pub with_search : List ℕ → Option (List ℕ) → Option (List ℕ) → List (List ℕ)
    → Stage KernelTree
with_search folder map symvers search =
    reads_tree folder search >>= λ paths. with_paths folder map symvers paths

-- the stages after the warnings, the files and the tree
abbrev pub warned : Wanted → List ℕ → DepmodFiles → ⊤ → Stage ⊤
warned wanted target made _ = hands_out wanted.extra wanted.dry_run target made

abbrev pub made : Wanted → List ℕ → KernelTree → DepmodFiles → Stage ⊤
made wanted target tree files = warns_of_tree wanted tree >>= λ w. warned wanted target files w

abbrev pub indexed : Wanted → List ℕ → List ℕ → KernelTree → Stage ⊤
indexed wanted folder target tree = indexes_tree wanted folder target tree
