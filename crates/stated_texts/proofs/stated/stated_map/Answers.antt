use Rattle.std.proofs.Common.{◌≡◌, ◌<◌, List, ℕ, All, Some, sym, ap, subst, ◌∙◌, get_or}
use Rattle.std.proofs.Common.{length, flat_map, arith}
use Rattle.std.specs.List.{slice_get, enumerate_from}
use Rattle.std.specs.FinMap.{empty}
use Rattle.std.specs.Option.{IfSome}
use Rattle.std.proofs.lemmas.List.{take_all}
use Rattle.std.proofs.lemmas.List.FromFn.{length-enumerate_from}
use Rattle.std.proofs.lemmas.Option.{slice_get_read}
use Rattle.index_format.specs.Map.{IsKey}
use Rattle.module_facts.specs.declared.facts.Facts.{Facts}
use Rattle.provider_rel.specs.Tree.{IsTreeModule}
use Rattle.stated_texts.specs.Maps.{with_values, map_of}
use Rattle.stated_texts.specs.Kinds.{key_of, values_by, values_with}
use Rattle.stated_texts.proofs.MapSteps.{values-found, placed}
use Rattle.stated_texts.proofs.StatedSteps.{stated-keys, stated-at, tree-module, kind-map}
use Rattle.stated_texts.proofs.stated.stated_map.Goals as goal

pub add_values-requires-clause-keys : goal.add_values-requires-clause-keys
add_values-requires-clause-keys c =
    let kind = c.args.kind in
    let tree = c.args.tree.now in
    let i = c.loop-place.place in
    let f : Facts = c.index-modules-place.result in
    let good : IsTreeModule f
    = tree-module tree c.as_slice-modules.result.now i f c.as_slice-modules.ensures
    c.loop-place-test.true c.index-modules-place.is c.requires.tree.modules in
    let within : i < length tree
    = omega (arith, c.loop-place-test.true, ap length c.as_slice-modules.ensures) in
    let at = c.index-modules-place.is ∙ ap (λ l. get_or l i f) c.as_slice-modules.ensures in
    subst (All (λ (text : List ℕ). IfSome (key_of kind text) IsKey))
    (sym (c.deref.ensures.value
    ∙ stated-at kind tree c.of-lists.result.now i c.index-lists-place.result f
    (c.of-lists.ensures tree c.requires.stated) within c.index-lists-place.is at))
    (stated-keys kind f good)

pub loop-place-preserved : goal.loop-place-preserved
loop-place-preserved c =
    let kind = c.args.kind in
    let tree = c.args.tree.now in
    let i = c.loop-place.place in
    let f : Facts = c.index-modules-place.result in
    let within : i < length tree
    = omega (arith, c.loop-place-test.true, ap length c.as_slice-modules.ensures) in
    let here = c.index-modules-place.is ∙ ap (λ l. get_or l i f) c.as_slice-modules.ensures in
    let at : slice_get tree i ≡ Some f
    = slice_get_read tree (length c.as_slice-modules.result.now) i f
    (ap length c.as_slice-modules.ensures) c.loop-place-test.true here in
    values-found (values_by kind) empty c.loop-place.map c.add_values.new.key_map
    (enumerate_from 0 tree) i (i, f) (placed tree i f at) c.loop-place.invariant
    (c.in_ok-add_values.ensures
    ∙ ap (λ name. with_values c.loop-place.map (values_with kind i name c.deref.result.now))
    (c.as_bytes-name.ensures ∙ ap (λ (m : Facts). m.name) (sym c.index-modules-place.is))
    ∙ ap (λ all. with_values c.loop-place.map (values_with kind i f.name all))
    (c.deref.ensures.value
    ∙ stated-at kind tree c.of-lists.result.now i c.index-lists-place.result f
    (c.of-lists.ensures tree c.requires.stated) within c.index-lists-place.is here))

pub returns : goal.returns
returns c =
    let all = enumerate_from 0 c.args.tree.now in
    c.loop-place.invariant
    ∙ ap (λ ms. map_of (flat_map (values_by c.args.kind) ms))
    (take_all c.loop-place.place all
    (omega (
      arith,
      length-enumerate_from 0 c.args.tree.now,
      c.loop-place-test.false,
      ap length c.as_slice-modules.ensures,
    )))
    ∙ kind-map c.args.kind c.args.tree.now
