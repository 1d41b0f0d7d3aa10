use Rattle.std.proofs.Common.{◌≡◌, ◌∙◌, ◌<◌, arith, length, get_or, refl, true, length-set}
use Rattle.remove_plan.proofs.MarkLemmas.{mark-more}
use Rattle.remove_plan.proofs.marks.mark.Goals as goal

pub loop-place-preserved : goal.loop-place-preserved
loop-place-preserved c =
    let places = c.args.places.now in
    let i = c.loop-place.place-index in
    let p = get_or places i 0 in
    let less : i < length places = c.loop-place-test.true in
    let within : p < length c.loop-place.marks
    = omega (arith, c.requires i 0 less, c.loop-place.invariant.counted) in
    record {
      counted = length-set c.loop-place.marks p true ∙ c.loop-place.invariant.counted;
      at
          = mark-more c.args.marks.now c.loop-place.marks places i p within less refl
          c.loop-place.invariant.at;
    }
