use Rattle.std.proofs.Common.{◌∙◌, ◌<◌, length, sym, inl, inr, arith}
use Rattle.std.proofs.lemmas.Bool.{eqb-true}
use Rattle.mod_tree.proofs.SeparatorSteps.{no-own, own-by-parts}
use Rattle.mod_tree.proofs.dependency_line.own_path.Goals as goal
use Rattle.mod_tree.proofs.dependency_line.own_path.Goals.{then-is_empty-via-then-is_empty}
use Rattle.mod_tree.proofs.dependency_line.own_path.Goals.{then-is_empty-via-else-is_empty+then-rest-ne58}

pub returns-then-is_empty : goal.returns-then-is_empty
returns-then-is_empty c =
    let none
    = no-own c.args.text.now c.split_at_separator.result.0.now
    c.split_at_separator.result.1.now c.split_at_separator.ensures.before
    c.split_at_separator.ensures.rest in
    elim c.then-is_empty.branch [
      | then-is_empty-via-then-is_empty w ↦ none
          (inl (eqb-true _ _ (sym c.is_empty.ensures ∙ w.if-is_empty.true)))
      | then-is_empty-via-else-is_empty+then-rest-ne58 w ↦ none (inr w.if-rest-ne58.true)
    ]

pub returns-then-is_module_path : goal.returns-then-is_module_path
returns-then-is_module_path c =
    let own = c.split_at_separator.result.0.now in
    let rest = c.split_at_separator.result.1.now in
    let some : 0 < length rest = grind arith in
    let w
    = own-by-parts c.args.text.now own rest c.split_at_separator.ensures.before
    c.split_at_separator.ensures.rest some c.if-rest-ne58.false in
    (w.1 ∙ sym c.is_module_path.ensures ∙ c.if-is_module_path.true, sym w.0)

pub returns-else-is_module_path : goal.returns-else-is_module_path
returns-else-is_module_path c =
    let own = c.split_at_separator.result.0.now in
    let rest = c.split_at_separator.result.1.now in
    let some : 0 < length rest = grind arith in
    let w
    = own-by-parts c.args.text.now own rest c.split_at_separator.ensures.before
    c.split_at_separator.ensures.rest some c.if-rest-ne58.false in
    w.1 ∙ sym c.is_module_path.ensures ∙ c.if-is_module_path.false
