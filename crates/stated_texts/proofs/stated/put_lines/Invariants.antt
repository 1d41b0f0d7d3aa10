use Rattle.std.proofs.Common.{◌≡◌, flat_map, take}
use Rattle.stated_texts.specs.Lines.{ended}
use Rattle.stated_texts.specs.Kinds.{line_of}
use Rattle.stated_texts.specs.Text.{with_piece}
use Rattle.stated_texts.proofs.stated.put_lines.Given as goal

abbrev pub invariant-loop-stated : goal.invariant-loop-stated
invariant-loop-stated l =
    l.text
    ≡ with_piece l.initial.text
    (flat_map (λ stated. ended (line_of l.kind l.name stated))
    (take l.stated-index l.all))
