use Rattle.std.proofs.Common.{◌≡◌, flat_map, take}
use Rattle.stated_texts.specs.Lines.{lines_text}
use Rattle.stated_texts.specs.Text.{with_piece}
use Rattle.stated_texts.proofs.StatedSteps.{lines_by}
use Rattle.stated_texts.proofs.stated.put_stated_text.Given as goal

abbrev pub invariant-loop-place : goal.invariant-loop-place
invariant-loop-place l =
    l.text
    ≡ with_piece l.initial.text
    (flat_map (λ facts. lines_text (lines_by l.kind facts)) (take l.place l.tree))
