use Rattle.std.proofs.Common.{◌≡◌, [], ℕ, List, Some, option_map, sym, ap, ◌∙◌, arith}
use Rattle.std.specs.FinMap.{empty}
use Rattle.std.specs.List.{slice_get}
use Rattle.std.proofs.lemmas.Option.{slice_get-get_or}
use Rattle.km_names.specs.Ascii.{is_graphic}
use Rattle.index_write.proofs.VisibleWords.{graphic-key}
use Rattle.depmod_core.proofs.KeySteps.{passes-at}
use Rattle.stated_texts.proofs.MapSteps.{value-found}
use Rattle.depmod_core.proofs.built_in.map_of_names.Goals as goal
use Rattle.depmod_core.proofs.built_in.map_of_names.Goals.{in-Some+in_ok-add, in_default}

pub add-requires-clause-key : goal.add-requires-clause-key
add-requires-clause-key c =
    let found : slice_get c.args.names.now c.loop-place.place ≡ Some c.in-Some.name.now
    = sym c.get.ensures ∙ ap (option_map (λ name. name.now)) c.in-Some.is in
    graphic-key c.in-Some.name.now
    (passes-at is_graphic c.args.names.now c.loop-place.place c.in-Some.name.now c.requires
    found)

pub loop-place-preserved : goal.loop-place-preserved
loop-place-preserved c =
    elim c.match-get.branch [
      | in-Some+in_ok-add w ↦
          let found : slice_get c.args.names.now c.loop-place.place ≡ Some w.in-Some.name.now
          = sym c.get.ensures ∙ ap (option_map (λ name. name.now)) w.in-Some.is in
          value-found (λ (name : List ℕ). (name, (0, []))) empty c.loop-place.map c.match-get.map
          c.args.names.now c.loop-place.place w.in-Some.name.now found c.loop-place.invariant
          (w.map-is ∙ w.in_ok-add.ensures.ok)
      | in_default w ↦
          let found
          = slice_get-get_or c.args.names.now c.loop-place.place []
          (omega (arith, c.loop-place-test.true, c.len-place-end.ensures)) in
          absurd (cc (found, w.in_default.ensures))
    ]
