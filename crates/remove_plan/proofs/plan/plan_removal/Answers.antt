use Rattle.std.proofs.Common.{◌≡◌, ◌∙◌, ◌<◌, inr, Some, None, ℕ, Bool, List, ap, sym, subst, arith}
use Rattle.std.proofs.Common.{length, map, Vec, Global}
use Rattle.model_loader.specs.Machine.{Machine}
use Rattle.model_loader.specs.Use.{AreUses}
use Rattle.remove_plan.specs.Marks.{AreAsked, is_marked}
use Rattle.remove_plan.specs.Removal.{in_use, is_asked, removed, removed_by}
use Rattle.remove_plan.specs.Steps.{remove_step}
use Rattle.remove_plan.proofs.MarkLemmas.{set-is}
use Rattle.remove_plan.proofs.UserLemmas.{fault-is}
use Rattle.remove_plan.proofs.RemovalLemmas.{removed-are-least}
use Rattle.remove_plan.proofs.plan.plan_removal.Goals as goal

pub in_use-requires-clause-uses : goal.in_use-requires-clause-uses
in_use-requires-clause-uses c =
    subst (λ (us : List (Vec ℕ Global)). AreUses c.args.machine.now
    (map (λ (u : Vec ℕ Global). u.items) us)) (sym c.deref.ensures.value) c.in_ok-uses.ensures

pub in_use-requires-clause-asked : goal.in_use-requires-clause-asked
in_use-requires-clause-asked c =
    ap length c.deref-2.ensures.value ∙ c.in_ok-asked.ensures.counted

pub returns-in-Some-clause-fault : goal.returns-in-Some-clause-fault
returns-in-Some-clause-fault c =
    let machine = c.args.machine.now in
    let names = c.args.names.now in
    let marks = c.in_ok-asked.asked.items in
    let found : in_use machine (is_asked machine names) ≡ c.in_ok-j.field-0 =
    sym (ap (in_use machine) (set-is machine names marks c.in_ok-asked.ensures))
    ∙ sym
    (c.in_ok-j.ensures.found ∙ ap (λ ms. in_use machine (is_marked ms)) c.deref-2.ensures.value)
    in
    inr (fault-is machine names (Some (c.in-Some.j, c.in-Some.k)) (found ∙ c.in-Some.is)
    ∙ ap Some (sym c.in_ok-used_by.ensures))

pub returns-clause-plan : goal.returns-clause-plan
returns-clause-plan c =
    let machine = c.args.machine.now in
    let names = c.args.names.now in
    let rules = c.args.rules.now in
    let ignored = c.args.ignore_remove in
    let marks = c.in_ok-asked.asked.items in
    let set : is_marked marks ≡ is_asked machine names
    = set-is machine names marks c.in_ok-asked.ensures in
    let going : c.in_ok-going.going.items ≡ removed_by machine names =
    c.in_ok-going.ensures.places ∙ ap (λ ms. removed machine (is_marked ms)) c.deref-4.ensures.value
    ∙ ap (removed machine) set in
    c.in_ok-plan.ensures
    ∙ ap (λ ms. map (remove_step machine rules ignored (is_marked ms)) c.deref-6.result.now)
    c.deref-5.ensures.value
    ∙ ap (λ r. map (remove_step machine rules ignored r) c.deref-6.result.now) set
    ∙ ap (map (remove_step machine rules ignored (is_asked machine names)))
    (c.deref-6.ensures.value ∙ going)

pub returns-clause-least : goal.returns-clause-least
returns-clause-least c = removed-are-least c.args.machine.now c.args.names.now

pub returns-clause-passed : goal.returns-clause-passed
returns-clause-passed c =
    let machine = c.args.machine.now in
    let names = c.args.names.now in
    let marks = c.in_ok-asked.asked.items in
    let found : in_use machine (is_asked machine names) ≡ c.in_ok-j.field-0 =
    sym (ap (in_use machine) (set-is machine names marks c.in_ok-asked.ensures))
    ∙ sym
    (c.in_ok-j.ensures.found ∙ ap (λ ms. in_use machine (is_marked ms)) c.deref-2.ensures.value)
    in
    fault-is machine names None (found ∙ c.in_default.is)
