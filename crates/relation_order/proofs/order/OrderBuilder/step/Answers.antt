use Rattle.std.proofs.Common.{arith, sym, ap, ◌∙◌, subst, true}
use Rattle.std.proofs.lemmas.List.{length-set}
use Rattle.std.proofs.lemmas.Bool.{false≢true}
use Rattle.relation_order.specs.Sets.{has, goes, marked}
use Rattle.relation_order.specs.Placing.{Placing}
use Rattle.relation_order.proofs.PlaceSteps.{first-inside, freed-inside, none-there, first-listed}
use Rattle.relation_order.proofs.PlaceSteps.{first-is-next, marks-more, listed-more}
use Rattle.relation_order.proofs.Placing.{none-next}
use Rattle.relation_order.proofs.order.OrderBuilder.step.Goals as goal

pub index_mut-requires : goal.index_mut-requires
index_mut-requires c =
    let l
    = first-inside c.args.lists.now c.args.members.now c.args.self.now.order.items
    c.args.self.now.ready.keys c.pop_first.new.self.keys c.args.self.now.waits.items
    c.in-Some.next c.requires.placing c.in-Some.ensures.removal in
    omega (arith, c.requires.fits.listed_long, c.args.self.now.listed.ok.0)

pub take_at-freed-requires : goal.take_at-freed-requires
take_at-freed-requires c =
    let l
    = first-inside c.args.lists.now c.args.members.now c.args.self.now.order.items
    c.args.self.now.ready.keys c.pop_first.new.self.keys c.args.self.now.waits.items
    c.in-Some.next c.requires.placing c.in-Some.ensures.removal in
    omega (arith, c.requires.fits.waits_long)

pub place_all-requires-clause-within : goal.place_all-requires-clause-within
place_all-requires-clause-within c =
    freed-inside c.args.lists.now c.args.members.now c.args.self.now.order.items
    c.args.self.now.ready.keys c.args.self.now.waits.items c.in-Some.next
    c.take_at-freed.result.items c.deref.result.now c.requires.placing
    c.take_at-freed.ensures.taken c.deref.ensures.value

pub place_all-requires-clause-fits : goal.place_all-requires-clause-fits
place_all-requires-clause-fits c =
    let l
    = first-inside c.args.lists.now c.args.members.now c.args.self.now.order.items
    c.args.self.now.ready.keys c.pop_first.new.self.keys c.args.self.now.waits.items
    c.in-Some.next c.requires.placing c.in-Some.ensures.removal in
    record {
      marks
          = λ y. marks-more c.args.self.now.listed.items c.args.self.now.order.items c.in-Some.next
          (omega (arith, c.requires.fits.listed_long)) c.requires.fits.marks y
          ∙ ap (λ xs. has xs y) (sym c.in_ok-push.ensures.items);
      listed_long
          = length-set c.args.self.now.listed.items c.in-Some.next true
          ∙ c.requires.fits.listed_long;
      waits_long = c.take_at-freed.ensures.long ∙ c.requires.fits.waits_long;
      looked_long = c.requires.fits.looked_long;
      looked_within = c.requires.fits.looked_within;
      looked
          = λ x. listed-more c.args.members.now c.args.self.now.listed.items _ c.in-Some.next
          (c.requires.fits.looked x);
    }

pub returns-in_ok-place_all-clause-placing : goal.returns-in_ok-place_all-clause-placing
returns-in_ok-place_all-clause-placing c =
    c.in_ok-place_all.ensures.placing
    (subst (λ xs. Placing (goes c.args.lists.now) (marked c.args.members.now) xs
    c.pop_first.new.self.keys (goes c.take_at-freed.new.lists.items) c.deref.result.now)
    (sym c.in_ok-push.ensures.items)
    (first-listed c.args.lists.now c.args.members.now c.args.self.now.order.items
    c.args.self.now.ready.keys c.pop_first.new.self.keys c.args.self.now.waits.items
    c.take_at-freed.new.lists.items c.in-Some.next c.deref.result.now c.requires.placing
    c.in-Some.ensures.removal c.in-Some.ensures.all_above
    (λ y. ap (λ ys. has ys y) c.deref.ensures.value ∙ c.take_at-freed.ensures.taken y)
    c.take_at-freed.ensures.rest))

pub returns-in_ok-place_all-clause-order : goal.returns-in_ok-place_all-clause-order
returns-in_ok-place_all-clause-order c =
    c.in_ok-place_all.ensures.order ∙ c.in_ok-push.ensures.items
    ∙ sym (first-is-next c.args.lists.now c.args.members.now c.args.self.now.order.items
    c.args.self.now.ready.keys c.pop_first.new.self.keys c.args.self.now.waits.items
    c.in-Some.next c.requires.placing c.in-Some.ensures.removal c.in-Some.ensures.all_above)

pub returns-in_default-clause-order : goal.returns-in_default-clause-order
returns-in_default-clause-order c =
    sym (none-next (goes c.args.lists.now) (marked c.args.members.now) c.args.self.now.order.items
    c.args.self.now.ready.keys (goes c.args.self.now.waits.items) c.requires.placing
    (none-there c.args.self.now.ready.keys
    (λ l. false≢true (c.in_default.ensures.variant.1 l))))
