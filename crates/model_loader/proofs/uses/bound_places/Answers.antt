use Rattle.std.proofs.Common.{◌≡◌, ◌∙◌, ◌<◌, ◌||◌, ℕ, ap, sym, length, get_or, Vec}
use Rattle.std.proofs.Common.{Global}
use Rattle.std.specs.Prelude.{nat_eq}
use Rattle.std.specs.List.{list_any}
use Rattle.model_loader.specs.Uses.{bound_place, is_place}
use Rattle.model_loader.proofs.MetLemmas.{bound-more, place-none, place-push}
use Rattle.model_loader.proofs.uses.bound_places.Goals as goal
use Rattle.model_loader.proofs.uses.bound_places.Goals.{in-Some+in_ok-push, in_default}

pub loop-need-preserved : goal.loop-need-preserved
loop-need-preserved c =
    let needs = c.args.entry.now.needs in
    let free = c.args.entry.now.free in
    let t = c.args.table.now in
    let places = c.args.places.now in
    let k = c.args.k in
    let i = c.loop-need.need-index in
    let n = c.need-item.result in
    let same = c.as_slice-need-items.ensures in
    let less : i < length needs = rw (← same) c.loop-need-test.true in
    let is : n ≡ get_or needs i n = rw same at c.need-item.is in
    let old = c.loop-need.bound.items in
    let next : (j : ℕ)
    → list_any (nat_eq j) c.match-bound_place.bound.items
    ≡ (list_any (nat_eq j) old || is_place j (bound_place t places free k n))
    =
    elim c.match-bound_place.branch [
      | in-Some+in_ok-push w ↦
          place-push old c.match-bound_place.bound.items (bound_place t places free k n)
          w.in-Some.place (sym c.bound_place.ensures ∙ w.in-Some.is)
          (ap (λ (v : Vec ℕ Global). v.items) w.bound-is ∙ w.in_ok-push.ensures.items)
      | in_default w ↦
          place-none old c.match-bound_place.bound.items (bound_place t places free k n)
          (sym c.bound_place.ensures ∙ w.in_default.is)
          (ap (λ (v : Vec ℕ Global). v.items) w.bound-is)
    ] in
    bound-more t places free k needs i n old c.match-bound_place.bound.items less is next
    c.loop-need.invariant
