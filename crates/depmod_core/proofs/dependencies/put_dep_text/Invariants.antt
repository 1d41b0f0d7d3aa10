use Rattle.std.proofs.Common.{◌≡◌, flat_map, take}
use Rattle.std.specs.List.{zip}
use Rattle.provider_rel.specs.Seen.{closures_by}
use Rattle.stated_texts.specs.Lines.{ended}
use Rattle.stated_texts.specs.Text.{with_piece}
use Rattle.depmod_core.specs.Dependencies.{line_of}
use Rattle.depmod_core.proofs.dependencies.put_dep_text.Given as goal

abbrev pub invariant-loop-place : goal.invariant-loop-place
invariant-loop-place l =
    l.text
    ≡ with_piece l.initial.text
    (flat_map (λ m. ended (line_of l.tree m))
    (take l.place (zip l.tree (closures_by l.relation))))
