use Rattle.std.proofs.Common.{List, ℕ, None, sym, ap, subst, ◌∙◌}
use Rattle.std.specs.Prelude.{map}
use Rattle.std.proofs.lemmas.Result.{IfOk-weaker}
use Rattle.mod_tree.specs.Shown.{referents}
use Rattle.mod_tree.specs.Chosen.{HasChosen, path_of, heads}
use Rattle.mod_tree.proofs.ChosenSteps.{sorted-chosen, candidates-same}
use Rattle.mod_tree.proofs.chosen.chosen_paths.Goals as goal

pub returns : goal.returns
returns c =
    let words : List (List ℕ) = c.args.search.now in
    let made = c.in_ok-list.ensures in
    let moved = c.in_ok-sort.ensures.permutation in
    let all
    = candidates-same words _ _ c.as_slice.result.now c.as_slice.ensures.value made.each moved
    in
    let chosen
    = sorted-chosen words (referents c.args.modules.now) _ _ made.paths made.each moved
    c.in_ok-sort.ensures.sorted in
    IfOk-weaker c.first_of_each.result _ _
    (λ v is. subst (λ ps. HasChosen words (referents c.args.modules.now) ps)
    (sym (is words all ∙ ap (λ cs. heads None (map path_of cs)) c.as_slice.ensures.value))
    chosen) c.first_of_each.ensures
