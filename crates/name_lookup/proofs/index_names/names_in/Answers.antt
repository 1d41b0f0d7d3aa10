use Rattle.std.proofs.Common.{sym, ap, ◌∙◌, ◌++◌, ◌∷◌, [], ◌≡◌, None, take, option_map, arith}
use Rattle.std.specs.List.{slice_get}
use Rattle.std.proofs.lemmas.List.{take_more}
use Rattle.std.proofs.lemmas.Option.{get_or_from_slice_get, slice_get_within}
use Rattle.name_lookup.proofs.FoundSteps.{is_there}
use Rattle.name_lookup.proofs.index_names.names_in.Goals as goal
use Rattle.name_lookup.proofs.index_names.names_in.Goals.{in-Some+in_ok-from_slice+in_ok-push}
use Rattle.name_lookup.proofs.index_names.names_in.Goals.{in_default}

pub loop-place-preserved : goal.loop-place-preserved
loop-place-preserved c =
    let names = c.args.set.now in
    let place = c.loop-place.place in
    elim c.match-get.branch [
      | in-Some+in_ok-from_slice+in_ok-push w ↦
          let name = w.in-Some.name.now in
          let here = sym c.get.ensures ∙ ap (option_map (λ n. n.now)) w.in-Some.is in
          w.names-is
          ∙ w.in_ok-push.ensures.ok
          ∙ (λ i. c.loop-place.invariant i ++ w.in_ok-from_slice.ensures i ∷ [])
          ∙ sym (take_more names place name (slice_get_within names place name here)
          ∙ ap (λ n. take place names ++ n ∷ []) (get_or_from_slice_get names place name name here))
      | in_default w ↦
          let none : slice_get names place ≡ None
          = sym c.get.ensures ∙ ap (option_map (λ n. n.now)) w.in_default.is in
          absurd (is_there names place
          (omega (arith, c.loop-place-test.true, c.len-place-end.ensures)) none)
    ]
