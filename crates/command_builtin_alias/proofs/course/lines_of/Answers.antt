use Rattle.std.proofs.Common.{◌≡◌, ◌<◌, subst, ◌++◌, ◌∷◌, [], take, sym, ap, ◌∙◌, append_assoc}
use Rattle.km_names.specs.Lines.{lines_text}
use Rattle.command_builtin_alias.proofs.LineSteps.{lines-more, none-there}
use Rattle.command_builtin_alias.proofs.course.lines_of.Goals as goal
use Rattle.command_builtin_alias.proofs.course.lines_of.Goals.{in-Some+in_ok-extend+in_ok-push}
use Rattle.command_builtin_alias.proofs.course.lines_of.Goals.{in_default}

pub loop-place-preserved : goal.loop-place-preserved
loop-place-preserved c =
    let names = c.args.names.now in
    let place = c.loop-place.place in
    elim c.match-get.branch [
      | in-Some+in_ok-extend+in_ok-push w ↦
          w.text-is
          ∙ w.in_ok-push.ensures.ok
          ∙ ap (λ t. t ++ 10 ∷ [])
          (w.in_ok-extend.ensures.ok ∙ ap (λ t. t ++ w.in-Some.name.now) c.loop-place.invariant)
          ∙ append_assoc (lines_text (take place names)) w.in-Some.name.now (10 ∷ [])
          ∙ sym (lines-more names place w.in-Some.name.now w.in-Some.ensures)
      | in_default w ↦ absurd
          (none-there names place
          (subst (λ n. place < n) c.len-place-end.ensures c.loop-place-test.true)
          w.in_default.ensures)
    ]
