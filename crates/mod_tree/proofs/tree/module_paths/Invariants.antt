use Rattle.std.proofs.Common.{◌≡◌, ◌++◌, drop}
use Rattle.std.specs.Prelude.{filter}
use Rattle.mod_tree.specs.Shown.{referents}
use Rattle.mod_tree.specs.Tree.{is_module_path}
use Rattle.mod_tree.proofs.tree.module_paths.Given as goal

abbrev pub invariant-loop-path : goal.invariant-loop-path
invariant-loop-path l =
    referents l.modules.items ++ filter is_module_path (drop l.path-index l.path-items)
    ≡ filter is_module_path l.paths
