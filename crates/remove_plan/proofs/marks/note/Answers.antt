use Rattle.std.proofs.Common.{◌≡◌, ◌∙◌, ◌<◌, arith, length, get_or, refl, length-set}
use Rattle.remove_plan.proofs.MarkLemmas.{note-more}
use Rattle.remove_plan.proofs.marks.note.Goals as goal

pub loop-place-preserved : goal.loop-place-preserved
loop-place-preserved c =
    let places = c.args.places.now in
    let i = c.loop-place.place-index in
    let p = get_or places i 0 in
    let less : i < length places = c.loop-place-test.true in
    let within : p < length c.loop-place.users
    = omega (arith, c.requires i 0 less, c.loop-place.invariant.counted) in
    record {
      counted = length-set c.loop-place.users p c.or.result ∙ c.loop-place.invariant.counted;
      at
          = note-more c.args.users.now c.loop-place.users places i p c.args.user c.or.result within
          less refl c.loop-place.invariant.at c.or.ensures;
    }
