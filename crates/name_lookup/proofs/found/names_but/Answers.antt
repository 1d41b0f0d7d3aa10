use Rattle.std.specs.Prelude.{◌&&◌}
use Rattle.std.proofs.Common.{sym, ap, ◌∙◌, ◌++◌, ◌∷◌, [], not, ◌≡◌, None, ℕ, List, option_map}
use Rattle.std.proofs.Common.{arith}
use Rattle.name_table.specs.FirstSeen.{is_among}
use Rattle.std.specs.List.{slice_get}
use Rattle.name_lookup.proofs.FoundSteps.{passing-taken, passing-left, is_there}
use Rattle.name_lookup.proofs.found.names_but.Goals as goal
use Rattle.name_lookup.proofs.found.names_but.Goals.{in-Some+then-not-is_dropped+in_ok-from_slice+in_ok-push}
use Rattle.name_lookup.proofs.found.names_but.Goals.{in-Some+else-not-is_dropped, in_default}

pub loop-place-preserved : goal.loop-place-preserved
loop-place-preserved c =
    let test = λ (name : List ℕ). not (c.args.drops && is_among c.args.dropped.now name) in
    let names = c.args.names.now in
    let place = c.loop-place.place in
    elim c.match-get.branch [
      | in-Some+then-not-is_dropped+in_ok-from_slice+in_ok-push w ↦
          let here = sym c.get.ensures ∙ ap (option_map (λ n. n.now)) w.in-Some.is in
          w.left-is
          ∙ w.in_ok-push.ensures.ok
          ∙ (λ i. c.loop-place.invariant i ++ w.in_ok-from_slice.ensures i ∷ [])
          ∙ sym (passing-taken test names place w.in-Some.name.now here
          (ap not (sym w.is_dropped.ensures ∙ w.if-not-is_dropped.true)))
      | in-Some+else-not-is_dropped w ↦
          let here = sym c.get.ensures ∙ ap (option_map (λ n. n.now)) w.in-Some.is in
          w.left-is
          ∙ c.loop-place.invariant
          ∙ sym (passing-left test names place w.in-Some.name.now here
          (ap not (sym w.is_dropped.ensures ∙ w.if-not-is_dropped.false)))
      | in_default w ↦
          let none : slice_get names place ≡ None
          = sym c.get.ensures ∙ ap (option_map (λ n. n.now)) w.in_default.is in
          absurd (is_there names place
          (omega (arith, c.loop-place-test.true, c.len-place-end.ensures)) none)
    ]
