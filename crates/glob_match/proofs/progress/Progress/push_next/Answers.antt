use Rattle.std.proofs.Common.{sym, ap, subst, ◌∙◌, ◌++◌, ◌&&◌, ◌+◌, ◌-◌, ◌≤◌, length, take, drop}
use Rattle.std.proofs.Common.{nat_le, slice_index, arith}
use Rattle.glob_match.specs.Words.{HasPlaces, any_up_to}
use Rattle.glob_match.specs.Progress.{HasRead, Stands}
use Rattle.glob_match.specs.declared.place.Pending.TheVariants.{Low}
use Rattle.glob_match.proofs.StateLemmas.{moved_state}
use Rattle.glob_match.proofs.ReadLemmas.{stars_read, run_read, run_decided}
use Rattle.glob_match.proofs.RunLemmas.{one_byte, length-run, run_stars, go_on, stays_open}
use Rattle.glob_match.proofs.progress.Progress.push_next.Goals as goal

pub returns-clause-read : goal.returns-clause-read
returns-clause-read c text pattern over s =
    let old = c.args.self.now.state in
    let new = c.fill.new.self in
    let b = c.args.file.now in
    let from = c.args.from in
    let end = c.end.result in
    let first = c.if-file-from-eq42.true in
    let run = c.end.ensures.run in
    let order = run.order in
    let within : end ≤ length b = omega (arith, c.end.ensures.high, c.requires.within) in
    rw (c.in-Outside.is)
    (stars_read text pattern old.first old.reached.items old.listed.items
    (rw (c.in-Outside.is) at s) new.first new.reached.items new.listed.items
    (take (end - from) (drop from b))
    (omega (arith, length-run b from end within first run, order))
    (run_stars b from end within first run)
    (λ test h. subst
    (λ z. HasPlaces new.first new.reached.items (λ n. nat_le n z && any_up_to test n))
    over.size_is (c.in_ok-fill.ensures.places test h)))

pub returns-2-clause-read : goal.returns-2-clause-read
returns-2-clause-read c text pattern over s =
    let p = c.args.self.now in
    let old = p.state in
    let new = c.list_set.new.self in
    let b = c.args.file.now in
    let from = c.args.from in
    let low = c.in-Some.low in
    let i = c.in-Some-items.items in
    let on = c.in-Some-items.ensures in
    let run = take (i.end + 1 - from) (drop from b) in
    let within = c.requires.within in
    moved_state text _ _ old new c.in_ok-list_set.ensures.same new.listed.items
    (run_read text pattern old.first old.reached.items old.listed.items c.in-Some.negated (Low low)
    (subst (λ place. Stands text pattern place old.first old.reached.items old.listed.items)
    c.in-Some.ensures s) run (Low (slice_index b i.end)) new.listed.items
    (stays_open b from c.args.to low i within on)
    (λ items o.
    run_decided text c.deref.result.now
    (λ n. ap (λ bs. slice_index bs n) c.deref.ensures.value ∙ over.same n) c.in-Some.negated
    old.first items old.listed.items low (slice_index b i.end) run on.items.test
    new.listed.items
    (go_on b from c.args.to low i within on)
    (λ test h. c.in_ok-list_set.ensures.listed test on.items.test h on.items.bits)
    o))

pub returns-3-clause-read : goal.returns-3-clause-read
returns-3-clause-read c text pattern over s =
    subst (λ bs. HasRead c.push.new.self text (pattern ++ bs))
    (sym (one_byte c.args.file.now c.args.from
    (omega (arith, c.requires.order, c.requires.within))))
    (c.in_ok-push.ensures.read text pattern over s)
