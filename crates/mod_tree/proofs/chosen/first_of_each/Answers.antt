use Rattle.std.proofs.Common.{◌≡◌, ◌++◌, List, ℕ, Some, true, false, drop, length, ◌<◌, ◌+◌, sym}
use Rattle.std.proofs.Common.{ap, ◌∙◌, arith}
use Rattle.std.specs.Prelude.{map, option_copied}
use Rattle.std.proofs.lemmas.Bool.{not-true, not-false}
use Rattle.mod_tree.specs.Shown.{referents}
use Rattle.mod_tree.specs.Chosen.{path_of, heads, is_name}
use Rattle.mod_tree.proofs.ChosenSteps.{previous-is, head-skip, head-more, head-all}
use Rattle.mod_tree.proofs.chosen.first_of_each.Goals as goal
use Rattle.mod_tree.proofs.chosen.first_of_each.Goals.{then-ne+in_ok-push, else-ne}

pub loop-candidate-preserved : goal.loop-candidate-preserved
loop-candidate-preserved c = λ words all.
    let l = c.loop-candidate in
    let list = c.args.list.now in
    let at : l.candidate-index < length list = omega arith in
    let name = c.as_slice-name.result in
    let rest : List (List ℕ) = map path_of (drop (l.candidate-index + 1) list) in
    elim c.if-ne.branch [
      | then-ne+in_ok-push w ↦
          let fresh : is_name (option_copied l.previous) name.now ≡ false
          = sym (previous-is l.previous name) ∙ not-true _ (sym c.ne.ensures ∙ w.if-ne.true) in
          ap (λ v. referents v.items ++ heads (Some name.now) rest) w.chosen-is
          ∙ head-more words l.chosen.items _ list l.candidate-index c.candidate-item.result name.now
          (option_copied l.previous) all at c.candidate-item.is c.as_slice-name.ensures.value
          fresh w.in_ok-push.ensures.items
          ∙ l.invariant words all
      | else-ne w ↦
          let same : is_name (option_copied l.previous) name.now ≡ true
          = sym (previous-is l.previous name)
          ∙ not-false _ (sym c.ne.ensures ∙ w.if-ne.false) in
          ap (λ v. referents v.items ++ heads (Some name.now) rest) w.chosen-is
          ∙ head-skip words l.chosen.items list l.candidate-index c.candidate-item.result name.now
          (option_copied l.previous) all at c.candidate-item.is c.as_slice-name.ensures.value
          same
          ∙ l.invariant words all
    ]

pub returns : goal.returns
returns c = λ words all.
    let l = c.loop-candidate in
    head-all l.chosen.items c.args.list.now l.candidate-index (option_copied l.previous)
    (omega arith)
    ∙ l.invariant words all
