use Rattle.std.proofs.Common.{◌≡◌, ◌++◌, ◌∷◌, [], get_or, sym, ap, ◌∙◌}
use Rattle.std.proofs.lemmas.List.{map_more}
use Rattle.provider_rel.specs.Faces.{modules_of}
use Rattle.provider_rel.specs.Relation.{name_at}
use Rattle.provider_rel.proofs.MakeSteps.{name-some, name-none}
use Rattle.provider_rel.proofs.relation.names_at.Goals as goal
use Rattle.provider_rel.proofs.relation.names_at.Goals.{in-Some+in_ok-from_slice-in-Some, in-None}

pub loop-place-preserved : goal.loop-place-preserved
loop-place-preserved c =
    let tree = c.args.tree.now in
    let places = c.args.places.now in
    let i = c.loop-place.place-index in
    let name = name_at (modules_of tree) in
    let named : c.match-get.push ≡ name (get_or places i 0) = elim c.match-get.branch [
      | in-Some+in_ok-from_slice-in-Some w ↦ w.push-is ∙ w.in_ok-from_slice-in-Some.ensures
          ∙ w.as_bytes.ensures
          ∙ name-some tree (get_or places i 0) w.in-Some.facts.now w.in-Some.ensures.item
      | in-None w ↦ w.push-is ∙ w.new.ensures
          ∙ name-none tree (get_or places i 0) w.in-None.ensures.item
    ] in
    c.in_ok-push.ensures.ok
    ∙ ap (λ n. c.loop-place.names ++ n ∷ []) named
    ∙ ap (λ ns. ns ++ name (get_or places i 0) ∷ []) c.loop-place.invariant
    ∙ sym (map_more name places i 0 c.loop-place-test.true)
