use Rattle.std.proofs.Common.{◌≡◌, Some, sym, ap, ◌∙◌, subst, get_or, length, map, arith}
use Rattle.std.specs.List.{slice_get, enumerate_from, zip}
use Rattle.std.specs.FinMap.{empty}
use Rattle.std.proofs.lemmas.List.{take_all}
use Rattle.std.proofs.lemmas.List.FromFn.{length-enumerate_from}
use Rattle.std.proofs.lemmas.Option.{slice_get_read}
use Rattle.std.proofs.lemmas.Slice.Zip.{length-zip}
use Rattle.index_format.specs.Map.{IsKey, IsText, with_value}
use Rattle.index_write.proofs.VisibleWords.{graphic-key}
use Rattle.module_facts.specs.declared.facts.Facts.{Facts}
use Rattle.provider_rel.specs.Tree.{IsTreeModule}
use Rattle.provider_rel.specs.Seen.{closures_by, places_of}
use Rattle.stated_texts.specs.Maps.{map_of}
use Rattle.depmod_core.specs.Dependencies.{Dependent, dep_value, dep_map}
use Rattle.stated_texts.proofs.MapSteps.{value-found, placed, zipped}
use Rattle.stated_texts.proofs.StatedSteps.{tree-module}
use Rattle.depmod_core.proofs.LineSteps.{line-text}
use Rattle.depmod_core.proofs.dependencies.dep_map.Goals as goal

pub add-requires-clause-key : goal.add-requires-clause-key
add-requires-clause-key c =
    let f : Facts = c.index-modules-place.result in
    let good : IsTreeModule f
    = tree-module c.args.tree.now c.as_slice-modules.result.now c.loop-place.place f
    c.as_slice-modules.ensures c.loop-place-test.true c.index-modules-place.is
    c.requires.tree.modules in
    subst IsKey (sym c.as_bytes.ensures) (graphic-key f.name good.name)

pub add-requires-clause-text : goal.add-requires-clause-text
add-requires-clause-text c =
    let f : Facts = c.index-modules-place.result in
    let good : IsTreeModule f
    = tree-module c.args.tree.now c.as_slice-modules.result.now c.loop-place.place f
    c.as_slice-modules.ensures c.loop-place-test.true c.index-modules-place.is
    c.requires.tree.modules in
    subst IsText (sym (c.as_bytes-in-loop-place.ensures ∙ c.in_ok-line.ensures))
    (line-text c.args.tree.now f (places_of c.closure-order.result.now) c.requires.tree.modules
    good)

pub loop-place-preserved : goal.loop-place-preserved
loop-place-preserved c =
    let tree = c.args.tree.now in
    let closures = closures_by c.args.relation.now in
    let i = c.loop-place.place in
    let f : Facts = c.index-modules-place.result in
    let places = places_of c.closure-order.result.now in
    let m : Dependent = (f, places) in
    let at : slice_get tree i ≡ Some f
    = slice_get_read tree (length c.as_slice-modules.result.now) i f
    (ap length c.as_slice-modules.ensures) c.loop-place-test.true
    (c.index-modules-place.is ∙ ap (λ l. get_or l i f) c.as_slice-modules.ensures) in
    value-found (dep_value tree) empty c.loop-place.map c.add.new.self
    (enumerate_from 0 (zip tree closures)) i (i, m)
    (placed (zip tree closures) i m (zipped tree closures i f places at c.closure-order.ensures))
    c.loop-place.invariant
    (c.in_ok-add.ensures.ok
    ∙ ap (λ key. with_value c.loop-place.map key (i, c.as_bytes-in-loop-place.result.now))
    c.as_bytes.ensures
    ∙ ap (λ text. with_value c.loop-place.map f.name (i, text))
    (c.as_bytes-in-loop-place.ensures ∙ c.in_ok-line.ensures))

pub returns : goal.returns
unfolding dep_map
returns c =
    let tree = c.args.tree.now in
    let closures = closures_by c.args.relation.now in
    let all = enumerate_from 0 (zip tree closures) in
    c.loop-place.invariant
    ∙ ap (λ ms. map_of (map (dep_value tree) ms))
    (take_all c.loop-place.place all
    (omega (
      arith,
      length-enumerate_from 0 (zip tree closures),
      length-zip tree closures,
      c.loop-place-test.false,
      ap length c.as_slice-modules.ensures,
    )))
