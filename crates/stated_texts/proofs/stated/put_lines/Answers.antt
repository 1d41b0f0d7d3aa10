use Rattle.std.proofs.Common.{List, ℕ, sym, ap, ◌∙◌, arith}
use Rattle.std.proofs.lemmas.List.Folds.{flat_map-map}
use Rattle.stated_texts.specs.Lines.{ended}
use Rattle.stated_texts.specs.Kinds.{line_of}
use Rattle.stated_texts.specs.Text.{with_piece}
use Rattle.stated_texts.proofs.TextSteps.{with-nothing, put-next, put-whole}
use Rattle.stated_texts.proofs.stated.put_lines.Goals as goal

pub loop-stated-init : goal.loop-stated-init
loop-stated-init c = sym (with-nothing c.args.text.now)

pub loop-stated-preserved : goal.loop-stated-preserved
loop-stated-preserved c =
    put-next (λ (s : List ℕ). ended (line_of c.args.kind c.args.name.now s))
    c.args.text.now c.loop-stated.text c.put_line.new.text c.args.all.now
    c.loop-stated.stated-index c.stated-item.result
    c.loop-stated-test.true c.stated-item.is c.loop-stated.invariant
    (c.in_ok-put_line.ensures
    ∙ ap (λ (s : List ℕ). with_piece c.loop-stated.text
    (ended (line_of c.args.kind c.args.name.now s))) c.stated.view_is)

pub returns : goal.returns
returns c =
    put-whole (λ (s : List ℕ). ended (line_of c.args.kind c.args.name.now s))
    c.args.text.now c.loop-stated.text c.args.all.now c.loop-stated.stated-index
    (omega (arith, c.loop-stated-test.false)) c.loop-stated.invariant
    ∙ ap (with_piece c.args.text.now)
    (sym (flat_map-map ended
    (line_of c.args.kind c.args.name.now)
    c.args.all.now))
