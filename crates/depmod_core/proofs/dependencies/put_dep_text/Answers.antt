use Rattle.std.proofs.Common.{◌≡◌, ◌∷◌, [], length, get_or, sym, ap, ◌∙◌, Some, arith}
use Rattle.std.specs.List.{slice_get, zip}
use Rattle.std.proofs.lemmas.List.Folds.{flat_map-map}
use Rattle.std.proofs.lemmas.Option.{slice_get_read}
use Rattle.std.proofs.lemmas.Slice.Zip.{length-zip}
use Rattle.module_facts.specs.declared.facts.Facts.{Facts}
use Rattle.provider_rel.specs.Seen.{closures_by, places_of}
use Rattle.stated_texts.specs.Lines.{ended}
use Rattle.stated_texts.specs.Text.{with_piece}
use Rattle.depmod_core.specs.Dependencies.{Dependent, line_of, dep_text}
use Rattle.stated_texts.proofs.TextSteps.{with-nothing, with_piece-append, put-found, put-whole}
use Rattle.stated_texts.proofs.MapSteps.{zipped}
use Rattle.depmod_core.proofs.dependencies.put_dep_text.Goals as goal

pub loop-place-init : goal.loop-place-init
loop-place-init c = sym (with-nothing c.args.text.now)

pub loop-place-preserved : goal.loop-place-preserved
loop-place-preserved c =
    let tree = c.args.tree.now in
    let closures = closures_by c.args.relation.now in
    let i = c.loop-place.place in
    let f : Facts = c.index-modules-place.result in
    let places = places_of c.closure-order.result.now in
    let at : slice_get tree i ≡ Some f
    = slice_get_read tree (length c.as_slice-modules.result.now) i f
    (ap length c.as_slice-modules.ensures) c.loop-place-test.true
    (c.index-modules-place.is ∙ ap (λ l. get_or l i f) c.as_slice-modules.ensures) in
    put-found (λ (m : Dependent). ended (line_of tree m)) c.args.text.now c.loop-place.text
    c.put.new.self (zip tree closures) i (f, places)
    (zipped tree closures i f places at c.closure-order.ensures) c.loop-place.invariant
    (c.in_ok-put.ensures
    ∙ ap (λ t. with_piece t (10 ∷ [])) c.in_ok-put_line.ensures
    ∙ with_piece-append c.loop-place.text (line_of tree (f, places)) (10 ∷ []))

pub returns : goal.returns
unfolding dep_text
returns c =
    let tree = c.args.tree.now in
    let closures = closures_by c.args.relation.now in
    put-whole (λ (m : Dependent). ended (line_of tree m)) c.args.text.now c.loop-place.text
    (zip tree closures) c.loop-place.place
    (omega (
      arith,
      length-zip tree closures,
      c.loop-place-test.false,
      ap length c.as_slice-modules.ensures,
    )) c.loop-place.invariant
    ∙ ap (with_piece c.args.text.now) (sym (flat_map-map ended (line_of tree) (zip tree closures)))
