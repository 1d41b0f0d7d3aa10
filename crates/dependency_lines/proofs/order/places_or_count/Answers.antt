use Rattle.std.proofs.Common.{◌≤◌, ◌+◌, [], length, get_or, set, subst, sym, arith}
use Rattle.std.proofs.lemmas.List.{get_or_read}
use Rattle.dependency_lines.specs.Places.{ArePlaces, number_at}
use Rattle.dependency_lines.proofs.Placed.{placing-more}
use Rattle.dependency_lines.proofs.order.places_or_count.Goals as goal

pub loop-place-preserved : goal.loop-place-preserved
loop-place-preserved c =
    let lines = c.args.lines.now in
    let places = c.loop-place.places.items in
    let place = c.loop-place.place in
    let count = c.len-count.ensures in
    let is = c.number-number.ensures in
    let read
    = get_or_read places _ _
    (omega (arith, c.if-number-count.false, c.loop-place.invariant.long, count))
    c.index.ensures 0 in
    let free : length lines ≤ get_or places (number_at lines place ([], (0, []))) 0
    = subst (λ n. length lines ≤ get_or places n 0) is
    (omega (arith, read, c.if-index-count.false, count)) in
    subst (λ n. ArePlaces lines (set places n place) (place + 1)) (sym is)
    (placing-more lines places place ([], (0, [])) (omega (arith, c.loop-place-test.true, count))
    (omega (arith, c.if-number-count.false, count, is)) free c.loop-place.invariant)
