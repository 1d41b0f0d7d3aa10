use Rattle.std.proofs.Common.{◌≡◌, ◌∙◌, ◌<◌, ℕ, ap, arith, sym, subst, length, map, Some, None}
use Rattle.std.specs.List.{range_with_len}
use Rattle.km_names.specs.First.{first}
use Rattle.remove_plan.specs.Marks.{is_marked}
use Rattle.remove_plan.specs.Removal.{used_member}
use Rattle.remove_plan.proofs.UserLemmas.{first-end, first-here, first-later, used-is, used-within}
use Rattle.remove_plan.proofs.users.first_used.Goals as goal

pub loop-j-preserved : goal.loop-j-preserved
loop-j-preserved c =
    let machine = c.args.machine.now in
    let set = is_marked c.args.asked.now in
    let j = c.loop-j.j in
    let less : j < length machine.entries
    = subst (λ n. j < n) c.module_count-j-end.ensures c.loop-j-test.true in
    let none : used_member machine set j ≡ None
    = sym (used-is machine set c.args.users.now c.requires.users j less) ∙ sym c.used.ensures
    ∙ c.in_default.is in
    c.loop-j.invariant ∙ first-later (used_member machine set) j (length machine.entries) less none

pub returns-in-Some-clause-found : goal.returns-in-Some-clause-found
returns-in-Some-clause-found c =
    let machine = c.args.machine.now in
    let set = is_marked c.args.asked.now in
    let j = c.loop-j.j in
    let less : j < length machine.entries
    = subst (λ n. j < n) c.module_count-j-end.ensures c.loop-j-test.true in
    let here : used_member machine set j ≡ Some c.in-Some.found
    = sym (used-is machine set c.args.users.now c.requires.users j less) ∙ sym c.used.ensures
    ∙ c.in-Some.is in
    sym (c.loop-j.invariant
    ∙ first-here (used_member machine set) j (length machine.entries) c.in-Some.found less
    here)

pub returns-in-Some-clause-within : goal.returns-in-Some-clause-within
returns-in-Some-clause-within c =
    let machine = c.args.machine.now in
    let set = is_marked c.args.asked.now in
    let j = c.loop-j.j in
    let less : j < length machine.entries
    = subst (λ n. j < n) c.module_count-j-end.ensures c.loop-j-test.true in
    used-within machine set c.args.users.now c.requires.users j less c.in-Some.found
    (sym c.in-Some.is ∙ c.used.ensures)

pub returns-clause-found : goal.returns-clause-found
returns-clause-found c =
    let machine = c.args.machine.now in
    let set = is_marked c.args.asked.now in
    sym (c.loop-j.invariant
    ∙ first-end (used_member machine set) c.loop-j.j (length machine.entries)
    (omega (arith, c.loop-j-test.false, c.module_count-j-end.ensures)))
