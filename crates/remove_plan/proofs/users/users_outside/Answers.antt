use Rattle.std.proofs.Common.{◌≡◌, ◌∙◌, ◌<◌, ◌+◌, ◌&&◌, ℕ, ap, sym, arith, length, cond, rules}
use Rattle.std.proofs.Common.{subst, Some, None}
use Rattle.std.specs.Prelude.{nat_eq, not}
use Rattle.std.specs.List.{list_any}
use Rattle.std.specs.Option.{option_or}
use Rattle.std.specs.Prelude.{slice_index_or}
use Rattle.std.proofs.lemmas.List.{with_items_is}
use Rattle.remove_plan.specs.Marks.{AreUsers, is_marked}
use Rattle.remove_plan.proofs.MarkLemmas.{all-inside, use-is, users-first, users-next, uses-length}
use Rattle.remove_plan.proofs.MarkLemmas.{uses-within}
use Rattle.remove_plan.proofs.users.users_outside.Goals as goal

pub loop-k-init : goal.loop-k-init
loop-k-init c = record {
  counted = c.module_count-count.ensures;
  users
      = users-first c.args.machine.now (is_marked c.args.asked.now) c.module_count-count.result
      c.in_ok-users.users.items c.module_count-count.ensures
      (c.in_ok-users.ensures.items_if_clones_equal
      (λ x is. first_of (search rules, cc, grind arith)));
}

pub loop-k-preserved : goal.loop-k-preserved
loop-k-preserved c =
    let machine = c.args.machine.now in
    let uses = c.args.uses.now in
    let set = is_marked c.args.asked.now in
    let k = c.loop-k.k in
    let inside : k < length machine.entries
    = omega (arith, c.loop-k-test.true, c.loop-k.invariant.counted) in
    let more = c.note_outside.new.users in
    let long : length more ≡ c.loop-k.users.len
    = c.note_outside.ensures.counted ∙ c.deref_mut.ensures.len in
    record {
      counted = c.loop-k.invariant.counted;
      users =
          subst (AreUsers machine set (k + 1)) (sym (with_items_is c.loop-k.users more long))
          (users-next machine set k c.loop-k.users.items more
          (c.note_outside.ensures.counted ∙ ap length c.deref_mut.ensures.value)
          (λ j. c.note_outside.ensures.at j
          ∙ ap (λ l. option_or (slice_index_or l j None)
          (cond (list_any (nat_eq j) c.as_slice.result.now && not (set k)) (Some k) None))
          c.deref_mut.ensures.value
          ∙ ap (λ l. option_or (slice_index_or c.loop-k.users.items j None)
          (cond (list_any (nat_eq j) l && not (set k)) (Some k) None)) c.as_slice.ensures.value
          ∙ ap (λ b. option_or (slice_index_or c.loop-k.users.items j None)
          (cond (b && not (set k)) (Some k) None))
          (use-is machine uses c.requires.uses k j c.index-uses-k.result
          (omega (arith, inside, uses-length machine uses c.requires.uses))
          c.index-uses-k.is))
          c.loop-k.invariant.users);
    }

pub note_outside-requires-clause-uses : goal.note_outside-requires-clause-uses
note_outside-requires-clause-uses c =
    let machine = c.args.machine.now in
    let uses = c.args.uses.now in
    let k = c.loop-k.k in
    let inside : k < length machine.entries
    = omega (arith, c.loop-k-test.true, c.loop-k.invariant.counted) in
    all-inside (length machine.entries) (length c.deref_mut.result.now) c.index-uses-k.result.items
    c.as_slice.result.now c.as_slice.ensures.value
    (ap length c.deref_mut.ensures.value ∙ c.loop-k.invariant.users.counted)
    (uses-within machine uses c.requires.uses k c.index-uses-k.result
    (omega (arith, inside, uses-length machine uses c.requires.uses)) inside
    c.index-uses-k.is)
