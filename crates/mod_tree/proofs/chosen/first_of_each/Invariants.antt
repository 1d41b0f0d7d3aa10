use Rattle.std.proofs.Common.{◌≡◌, ◌++◌, List, ℕ, drop, None}
use Rattle.std.specs.Prelude.{All, map, option_copied}
use Rattle.mod_tree.specs.Shown.{referents}
use Rattle.mod_tree.specs.Chosen.{IsCandidate, path_of, heads}
use Rattle.mod_tree.proofs.chosen.first_of_each.Given as goal

abbrev pub invariant-loop-candidate : goal.invariant-loop-candidate
invariant-loop-candidate l =
    (search : List (List ℕ)) → All (IsCandidate search) l.list
    → referents l.chosen.items
    ++ heads (option_copied l.previous) (map path_of (drop l.candidate-index l.list))
    ≡ heads None (map path_of l.list)
