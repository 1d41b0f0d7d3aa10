use Rattle.std.proofs.Common.{◌<◌, ◌++◌, ◌∷◌, [], sym, ap, ◌∙◌, get_or, length, flat_map, arith}
use Rattle.module_facts.specs.declared.facts.Facts.{Facts}
use Rattle.stated_texts.specs.Lines.{ended, lines_text}
use Rattle.stated_texts.specs.Kinds.{heading}
use Rattle.stated_texts.specs.Text.{with_piece}
use Rattle.stated_texts.proofs.TextSteps.{with-nothing, with_piece-append, put-next, put-whole}
use Rattle.stated_texts.proofs.StatedSteps.{lines_by, lines-seen, stated-at, text-of-lists}
use Rattle.stated_texts.proofs.StatedSteps.{kind-text}
use Rattle.stated_texts.proofs.stated.put_stated_text.Goals as goal

pub loop-place-init : goal.loop-place-init
loop-place-init c = sym (with-nothing c.put_all.new.self)

pub loop-place-preserved : goal.loop-place-preserved
loop-place-preserved c =
    let kind = c.args.kind in
    let tree = c.args.tree.now in
    let i = c.loop-place.place in
    let f : Facts = c.index-modules-place.result in
    let within : i < length tree
    = omega (arith, c.loop-place-test.true, ap length c.as_slice-modules.ensures) in
    let at = c.index-modules-place.is ∙ ap (λ l. get_or l i f) c.as_slice-modules.ensures in
    put-next (λ (facts : Facts). lines_text (lines_by kind facts)) c.put_all.new.self
    c.loop-place.text c.put_lines.new.text tree i f
    within at c.loop-place.invariant
    (c.in_ok-put_lines.ensures
    ∙ ap (λ lines. with_piece c.loop-place.text (lines_text lines))
    (lines-seen kind f _ _
    (c.as_bytes-name.ensures ∙ ap (λ (m : Facts). m.name) (sym c.index-modules-place.is))
    (c.deref.ensures.value
    ∙ stated-at kind tree c.of-lists.result.now i c.index-lists-place.result f
    (c.of-lists.ensures tree c.requires) within c.index-lists-place.is at)))

pub returns : goal.returns
returns c =
    let kind = c.args.kind in
    let tree = c.args.tree.now in
    let lines = λ (facts : Facts). lines_text (lines_by kind facts) in
    put-whole lines c.put_all.new.self c.loop-place.text tree c.loop-place.place
    (omega (arith, c.loop-place-test.false, ap length c.as_slice-modules.ensures))
    c.loop-place.invariant
    ∙ ap (λ t. with_piece t (flat_map lines tree))
    (c.in_ok-put_all.ensures
    ∙ ap (λ text. with_piece c.args.text.now (text ++ 10 ∷ [])) c.heading.ensures)
    ∙ with_piece-append c.args.text.now (ended (heading kind)) (flat_map lines tree)
    ∙ ap (with_piece c.args.text.now)
    (ap (λ bytes. ended (heading kind) ++ bytes) (text-of-lists (lines_by kind) tree)
    ∙ kind-text kind tree)
