use Rattle.std.proofs.Common.{◌≡◌, ◌∷◌, flat_map, reverse, drop}
use Rattle.km_names.specs.declared.conf.TreeIndex.{TreeIndex}
use Rattle.stated_texts.specs.Text.{with_piece}
use Rattle.depmod_core.specs.Dependencies.{path_at}
use Rattle.depmod_core.proofs.dependencies.put_line.Given as goal

abbrev pub invariant-loop-n : goal.invariant-loop-n
invariant-loop-n l =
    l.text
    ≡ with_piece l.initial.text
    (flat_map (λ (place : TreeIndex). 32 ∷ path_at l.tree place.0)
    (reverse (drop l.n l.order)))
