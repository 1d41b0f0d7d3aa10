use Rattle.std.proofs.Common.{◌≡◌, take, flat_map}
use Rattle.unmet_file.specs.Line.{line_text}
use Rattle.stated_texts.specs.Lines.{ended}
use Rattle.stated_texts.specs.Text.{with_piece}
use Rattle.depmod_core.proofs.unmet.put_unmet_text.Given as goal

abbrev pub invariant-loop-line : goal.invariant-loop-line
invariant-loop-line l =
    l.text
    ≡ with_piece l.initial.text
    (flat_map (λ line. ended (line_text line)) (take l.line-index l.lines))
