use Rattle.std.proofs.Common.{◌≡◌, ◌++◌, take, flat_map, codes}
use Rattle.km_names.proofs.texts.cycle_text.Given as goal

-- each name so far, with the arrow after it
abbrev pub invariant-loop-name : goal.invariant-loop-name
invariant-loop-name l =
    l.text
    ≡ codes "cycle " ++ flat_map (λ name. name ++ codes " -> ") (take l.name-index l.name-items)
