use Rattle.std.proofs.Common.{Bor, ℕ, List, Some, ◌∙◌, ap, sym, subst}
use Rattle.std.specs.Prelude.{Err, option_map, ⊤}
use Rattle.km_course.specs.Follows.{Answers}
use Rattle.command_remove.specs.Remove.{chosen_outcome}
use Rattle.command_remove.proofs.RemoveSteps.{passes-dry, passes-none, refuses-chosen}
use Rattle.command_remove.proofs.plan.check_chosen.Goals as goal

pub returns-then-dry_run : goal.returns-then-dry_run
returns-then-dry_run c = passes-dry c.args.dry_run c.args.steps.now c.if-dry_run.true

pub returns-in_ok-name-in-Some : goal.returns-in_ok-name-in-Some
returns-in_ok-name-in-Some c =
    subst
    (λ stop. Answers (λ (x : ⊤). x) (chosen_outcome c.args.dry_run c.args.steps.now) (Err stop))
    (sym c.from.ensures)
    (refuses-chosen c.args.dry_run c.args.steps.now c.in_ok-name-in-Some.name c.if-dry_run.false
    (sym c.first_owner.ensures ∙ ap (option_map (λ (n : Bor (List ℕ)). n.now)) c.in-Some.is
    ∙ ap Some (sym c.in_ok-name-in-Some.ensures)))

pub returns-in-None : goal.returns-in-None
returns-in-None c =
    passes-none c.args.dry_run c.args.steps.now c.if-dry_run.false
    (sym c.first_owner.ensures ∙ ap (option_map (λ (n : Bor (List ℕ)). n.now)) c.in-None.is)
