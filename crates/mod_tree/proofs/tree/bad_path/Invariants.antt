use Rattle.std.proofs.Common.{◌≡◌, ◌≤◌, drop, length}
use Rattle.std.specs.Prelude.{filter, option_copied}
use Rattle.std.specs.List.{list_any}
use Rattle.mod_tree.specs.Shown.{referents}
use Rattle.mod_tree.specs.Tree.{is_bad_byte, least}
use Rattle.mod_tree.proofs.tree.bad_path.Given as goal

abbrev pub invariant-loop-at : goal.invariant-loop-at
invariant-loop-at l =
    (option_copied l.least
    ≡ least (filter (list_any is_bad_byte) (referents (drop l.at l.modules))))
    × (l.at ≤ length l.modules)

abbrev pub decreases-loop-at : goal.decreases-loop-at
decreases-loop-at l = l.at
