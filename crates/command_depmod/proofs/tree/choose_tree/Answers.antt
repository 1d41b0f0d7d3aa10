use Rattle.std.proofs.Common.{ℕ, List, ap, sym, subst, ◌∙◌}
use Rattle.std.specs.Prelude.{Err}
use Rattle.mod_tree.specs.Tree.{tree_of}
use Rattle.km_course.specs.Follows.{Answers}
use Rattle.command_depmod.specs.Tree.{tree_outcome}
use Rattle.command_depmod.proofs.TreeSteps.{chosen_ok, chosen_not}
use Rattle.command_depmod.proofs.TreeLaw.{tree-paths}
use Rattle.command_depmod.proofs.tree.choose_tree.Goals as goal

pub returns-in-Ok-clause-answers : goal.returns-in-Ok-clause-answers
returns-in-Ok-clause-answers c =
    chosen_ok _ _ _ _
    (ap (λ order. tree_of c.args.listed.now order c.args.search.now) (sym c.as_bytes.ensures)
    ∙ c.in-Ok.ensures.ok)

pub returns-in-Ok-clause-paths : goal.returns-in-Ok-clause-paths
returns-in-Ok-clause-paths c = tree-paths _ _ _ _ c.in-Ok.ensures.ok

pub returns-in-Err-clause-answers : goal.returns-in-Err-clause-answers
returns-in-Err-clause-answers c =
    subst (λ order. Answers (λ (x : List (List ℕ)). x)
    (tree_outcome c.args.listed.now order c.args.search.now) (Err c.refused.result))
    c.as_bytes.ensures
    (chosen_not _ _ _ c.in-Err.fault c.refused.result c.in-Err.ensures.err c.refused.ensures)
