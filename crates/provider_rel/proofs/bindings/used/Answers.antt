use Rattle.std.proofs.Common.{◌∷◌, [], ◌++◌, None, ap, ◌∙◌}
use Rattle.provider_rel.proofs.BindingSteps.{used-more, used-same}
use Rattle.provider_rel.proofs.bindings.used.Goals as goal
use Rattle.provider_rel.proofs.bindings.used.Goals.{in-Some+in_ok-push, in_default}

pub loop-place-preserved : goal.loop-place-preserved
loop-place-preserved c =
    let is = c.args.items.now in
    let bound = c.args.bound.now in
    let i = c.loop-place.place-index in
    elim c.match-owner_at.branch [
      | in-Some+in_ok-push w ↦ rw w.used-is
          (w.in_ok-push.ensures.items ∙ ap (λ l. l ++ w.in-Some.owner ∷ []) c.loop-place.invariant
          ∙ used-more is bound i None c.loop-place-test.true w.in-Some.owner w.in-Some.ensures)
      | in_default w ↦ rw w.used-is
          (c.loop-place.invariant
          ∙ used-same is bound i None c.loop-place-test.true w.in_default.ensures)
    ]
