use Rattle.std.proofs.Common.{◌≡◌, ◌++◌, drop}
use Rattle.std.specs.Prelude.{All, map}
use Rattle.mod_tree.specs.Shown.{referents}
use Rattle.mod_tree.specs.Chosen.{IsCandidate, path_of}
use Rattle.mod_tree.proofs.chosen.candidates.Given as goal

abbrev pub invariant-loop-path : goal.invariant-loop-path
invariant-loop-path l =
    (map path_of l.list.items ++ referents (drop l.path-index l.modules) ≡ referents l.modules)
    × All (IsCandidate l.search) l.list.items
