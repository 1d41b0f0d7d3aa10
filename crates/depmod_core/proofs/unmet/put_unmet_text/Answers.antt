use Rattle.std.proofs.Common.{length, get_or, sym, ap, ◌∙◌, arith}
use Rattle.unmet_file.specs.Line.{line_text}
use Rattle.unmet_file.specs.Unmet.{file_text}
use Rattle.stated_texts.specs.Lines.{ended}
use Rattle.stated_texts.proofs.TextSteps.{with-nothing, put-next, put-whole}
use Rattle.depmod_core.proofs.unmet.put_unmet_text.Goals as goal

pub loop-line-init : goal.loop-line-init
loop-line-init c = sym (with-nothing c.args.text.now)

pub loop-line-preserved : goal.loop-line-preserved
loop-line-preserved c =
    put-next (λ line. ended (line_text line)) c.args.text.now c.loop-line.text c.put_line.new.text
    c.args.lines.now c.loop-line.line-index c.line-item.result
    (omega (arith, c.loop-line-test.true, ap length c.as_slice-line-items.ensures))
    (c.line-item.is
    ∙ ap (λ l. get_or l c.loop-line.line-index c.line-item.result)
    c.as_slice-line-items.ensures)
    c.loop-line.invariant c.in_ok-put_line.ensures

pub returns : goal.returns
unfolding file_text
returns c =
    put-whole (λ line. ended (line_text line)) c.args.text.now c.loop-line.text c.args.lines.now
    c.loop-line.line-index
    (omega (arith, c.loop-line-test.false, ap length c.as_slice-line-items.ensures))
    c.loop-line.invariant
