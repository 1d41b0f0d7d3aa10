use Rattle.std.proofs.Common.{◌<◌, ◌++◌, ◌∙◌, length, ap, subst, arith}
use Rattle.command_remove.specs.Lines.{left_lines}
use Rattle.command_remove.proofs.LineLemmas.{all-lines, entry-there, lines-on}
use Rattle.command_remove.proofs.lines.left_lines.Goals as goal

pub loop-i-init : goal.loop-i-init
loop-i-init c = ap (λ t. t ++ left_lines c.args.machine.now.entries) c.new-text.ensures

pub loop-i-preserved : goal.loop-i-preserved
loop-i-preserved c =
    let machine = c.args.machine.now in
    let i = c.loop-i.i in
    let less : i < length machine.entries
    = subst (λ n. i < n) c.module_count-i-end.ensures c.loop-i-test.true in
    let there = entry-there machine i less in
    lines-on machine.entries i there.0 c.loop-i.text c.extend.new.self c.in_ok-line.line less
    there.1
    (c.in_ok-line.ensures there.0 there.1)
    (c.in_ok-extend.ensures.ok ∙ ap (λ l. c.loop-i.text ++ l) c.as_bytes.ensures)
    c.loop-i.invariant

pub returns : goal.returns
returns c =
    let machine = c.args.machine.now in
    all-lines machine.entries c.loop-i.i c.loop-i.text
    (omega (arith, c.loop-i-test.false, c.loop-i.auto.i-end, c.module_count-i-end.ensures))
    c.loop-i.invariant
