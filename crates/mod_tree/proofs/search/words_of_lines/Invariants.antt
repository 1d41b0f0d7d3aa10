use Rattle.std.proofs.Common.{◌≡◌, ◌++◌, drop}
use Rattle.std.specs.List.{flat_map}
use Rattle.mod_tree.specs.Search.{words_of_lines}
use Rattle.mod_tree.proofs.search.words_of_lines.Given as goal

abbrev pub invariant-loop-line : goal.invariant-loop-line
invariant-loop-line l =
    l.search ++ flat_map (λ words. words) (drop l.line-index l.line-items)
    ≡ words_of_lines l.line-items
