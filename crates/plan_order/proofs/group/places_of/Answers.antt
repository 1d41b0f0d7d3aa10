use Rattle.std.proofs.Common.{◌+◌, arith, ap, sym, ◌∙◌, subst, take, get_or}
use Rattle.std.proofs.lemmas.List.{get_or_default}
use Rattle.std.specs.Prelude.{All, ◌<◌, length}
use Rattle.plan_order.proofs.Places.{PlacesOf, places-more, places-past, all-more}
use Rattle.plan_order.proofs.group.places_of.Goals.{in-Some+in_ok-push, in_default}
use Rattle.plan_order.proofs.group.places_of.Goals as goal

pub loop-item-preserved : goal.loop-item-preserved
loop-item-preserved c =
    let o = c.loop-item in
    let members = c.args.members.now in
    let items = c.args.items.now in
    elim c.match-place_of.branch [
      | in-Some+in_ok-push w ↦
          let s = w.in-Some.ensures in
          let made
          = ap (λ (v : Rattle.std.specs.Global.Vec Rattle.std.specs.Prelude.ℕ). v.items)
          w.places-is
          ∙ w.in_ok-push.ensures.items in
          record {
            inside
                = subst (λ xs. All (λ i. i < length c.args.members.now) xs) (sym made)
                (all-more (length c.args.members.now) o.places.items w.in-Some.place
                o.invariant.inside s.0);
            places
                = subst (PlacesOf c.args.members.now (take (o.item-index + 1) c.args.items.now))
                (sym made)
                (places-more c.args.members.now c.args.items.now o.places.items o.item-index
                w.in-Some.place c.requires (omega arith) s.0 s.1 o.invariant.places);
          }
      | in_default w ↦
          let same
          = ap (λ (v : Rattle.std.specs.Global.Vec Rattle.std.specs.Prelude.ℕ). v.items)
          w.places-is in
          let item = get_or c.args.items.now o.item-index 0 in
          record {
            inside
                = subst (λ xs. All (λ i. i < length c.args.members.now) xs) (sym same)
                o.invariant.inside;
            places
                = subst (PlacesOf c.args.members.now (take (o.item-index + 1) c.args.items.now))
                (sym same)
                (places-past c.args.members.now c.args.items.now o.places.items o.item-index item
                (omega arith)
                (get_or_default c.args.items.now o.item-index 0 item (omega arith))
                w.in_default.ensures o.invariant.places);
          }
    ]
