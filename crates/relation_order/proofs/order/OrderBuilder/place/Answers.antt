use Rattle.std.proofs.Common.{◌<◌, length, subst, arith, sym, ap, ◌∙◌, false, eqb}
use Rattle.std.specs.Prelude.{◌||◌, ◌&&◌, All, slice_index, slice_index_or}
use Rattle.std.proofs.lemmas.List.{get_or_default, length-set}
use Rattle.relation_order.specs.Sets.{has, goes, marked}
use Rattle.relation_order.specs.Search.{Inside}
use Rattle.relation_order.proofs.PlaceSteps.{has-insert_key, open-member, none-open}
use Rattle.relation_order.proofs.LookedSteps.{targets-inside, looked-here, front-here, looked-next}
use Rattle.relation_order.proofs.Placing.{made-ready, made-waiting}
use Rattle.relation_order.proofs.order.OrderBuilder.place.Goals as goal

pub returns-in_ok-add_at-clause-placing : goal.returns-in_ok-add_at-clause-placing
returns-in_ok-add_at-clause-placing c = λ left p.
    let items = c.deref.result.now in
    let at = c.first_open-at.result in
    let o = c.first_open-at.ensures.open (omega arith) in
    let w
    = open-member c.args.graph.now.lists.now c.args.graph.now.members.now c.deref-2.result.now
    c.args.self.now.order.items c.args.item at c.index-lists-item.result items (omega arith)
    c.index-lists-item.is
    (λ y. ap (λ bs. slice_index_or bs y false) c.deref-2.ensures.value
    ∙ c.requires.fits.marks y) c.deref.ensures.value (omega arith) o.0 o.1 in
    made-waiting (goes c.args.graph.now.lists.now) (marked c.args.graph.now.members.now)
    c.args.self.now.order.items c.args.self.now.ready.keys left
    (goes c.args.self.now.waits.items) (goes c.add_at.new.lists.items) c.args.item
    (slice_index items at) p
    (λ z y. c.in_ok-add_at.ensures.added z y
    ∙ ap (λ x. goes c.args.self.now.waits.items z y || (eqb z x && eqb y c.args.item))
    (c.index-then-at-len.ensures
    ∙ get_or_default c.index-lists-item.result.items at
    c.index-then-at-len.result.now 0 (omega arith)
    ∙ ap (λ xs. slice_index xs at) (sym c.deref.ensures.value))) w.0 w.1 w.2

pub returns-in_ok-insert-clause-placing : goal.returns-in_ok-insert-clause-placing
returns-in_ok-insert-clause-placing c = λ left p.
    made-ready (goes c.args.graph.now.lists.now) (marked c.args.graph.now.members.now)
    c.args.self.now.order.items c.args.self.now.ready.keys c.insert.new.self.keys left
    (goes c.args.self.now.waits.items) c.args.item p
    (λ y. ap (λ ks. has ks y) c.in_ok-insert.ensures.keys
    ∙ has-insert_key c.args.self.now.ready.keys c.args.item y)
    (none-open c.args.graph.now.lists.now c.args.graph.now.members.now c.deref-2.result.now
    c.args.self.now.order.items c.args.item c.first_open-at.result c.index-lists-item.result
    c.deref.result.now (omega arith) c.index-lists-item.is
    (λ y. ap (λ bs. slice_index_or bs y false) c.deref-2.ensures.value
    ∙ c.requires.fits.marks y) c.deref.ensures.value
    (omega (arith, c.len.ensures, c.deref.ensures)) c.first_open-at.ensures.front)

pub first_open-at-requires : goal.first_open-at-requires
first_open-at-requires c =
    let low : c.args.item < length c.args.graph.now.lists.now
    = omega (arith, c.requires.within, c.args.graph.now.long) in
    let place : c.args.item < length c.args.self.now.looked.items
    = omega (arith, c.requires.within, c.requires.fits.looked_long) in
    let n = length c.args.graph.now.members.now in
    let inside
    = targets-inside c.args.graph.now.lists.now c.args.graph.now.members.now
    c.args.self.now.listed.items c.deref-2.result.now c.args.self.now.looked.items
    c.args.item c.index-lists-item.result c.deref.result.now low place c.index-lists-item.is
    c.deref.ensures.value c.deref-2.ensures.value c.requires.fits.looked_within
    c.requires.fits.looked n
    (subst (λ m. Inside m c.args.graph.now.lists.now) (sym c.args.graph.now.long)
    c.args.graph.now.inside) in
    record {
      in_members = inside;
      in_listed
          = subst (λ m. All (λ y. y < m) c.deref.result.now)
          (sym (ap length c.deref-2.ensures.value ∙ c.requires.fits.listed_long)) inside;
      from
          = looked-here c.args.graph.now.lists.now c.args.graph.now.members.now
          c.args.self.now.listed.items c.deref-2.result.now c.args.self.now.looked.items
          c.args.item c.index-lists-item.result c.deref.result.now low place
          c.index-lists-item.is c.deref.ensures.value c.deref-2.ensures.value
          c.requires.fits.looked_within c.requires.fits.looked c.index.result.now
          c.index.ensures;
      front
          = front-here c.args.graph.now.lists.now c.args.graph.now.members.now
          c.args.self.now.listed.items c.deref-2.result.now c.args.self.now.looked.items
          c.args.item c.index-lists-item.result c.deref.result.now low place
          c.index-lists-item.is c.deref.ensures.value c.deref-2.ensures.value
          c.requires.fits.looked_within c.requires.fits.looked c.index.result.now
          c.index.ensures;
    }

pub returns-in_ok-add_at-clause-fits : goal.returns-in_ok-add_at-clause-fits
returns-in_ok-add_at-clause-fits c =
    let low : c.args.item < length c.args.graph.now.lists.now
    = omega (arith, c.requires.within, c.args.graph.now.long) in
    let place : c.args.item < length c.args.self.now.looked.items
    = omega (arith, c.requires.within, c.requires.fits.looked_long) in
    let next
    = looked-next c.args.graph.now.lists.now c.args.graph.now.members.now
    c.args.self.now.listed.items c.deref-2.result.now c.args.self.now.looked.items
    c.args.item c.index-lists-item.result c.deref.result.now low place c.index-lists-item.is
    c.deref.ensures.value c.deref-2.ensures.value c.requires.fits.looked_within
    c.requires.fits.looked c.first_open-at.result c.first_open-at.ensures.within
    c.first_open-at.ensures.front in
    record {
      marks = c.requires.fits.marks;
      listed_long = c.requires.fits.listed_long;
      waits_long = c.in_ok-add_at.ensures.long ∙ c.requires.fits.waits_long;
      looked_long
          = length-set c.args.self.now.looked.items c.args.item c.first_open-at.result
          ∙ c.requires.fits.looked_long;
      looked_within = λ x. (next x).0;
      looked = λ x. (next x).1;
    }

pub returns-in_ok-insert-clause-fits : goal.returns-in_ok-insert-clause-fits
returns-in_ok-insert-clause-fits c =
    let low : c.args.item < length c.args.graph.now.lists.now
    = omega (arith, c.requires.within, c.args.graph.now.long) in
    let place : c.args.item < length c.args.self.now.looked.items
    = omega (arith, c.requires.within, c.requires.fits.looked_long) in
    let next
    = looked-next c.args.graph.now.lists.now c.args.graph.now.members.now
    c.args.self.now.listed.items c.deref-2.result.now c.args.self.now.looked.items
    c.args.item c.index-lists-item.result c.deref.result.now low place c.index-lists-item.is
    c.deref.ensures.value c.deref-2.ensures.value c.requires.fits.looked_within
    c.requires.fits.looked c.first_open-at.result c.first_open-at.ensures.within
    c.first_open-at.ensures.front in
    record {
      marks = c.requires.fits.marks;
      listed_long = c.requires.fits.listed_long;
      waits_long = c.requires.fits.waits_long;
      looked_long
          = length-set c.args.self.now.looked.items c.args.item c.first_open-at.result
          ∙ c.requires.fits.looked_long;
      looked_within = λ x. (next x).0;
      looked = λ x. (next x).1;
    }
