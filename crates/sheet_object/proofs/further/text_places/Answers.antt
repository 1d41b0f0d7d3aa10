use Rattle.std.proofs.Common.{◌∷◌, [], ◌++◌, ◌∙◌, length, map, ap, sym, arith, zero-add}
use Rattle.std.specs.List.{range_with_len}
use Rattle.std.proofs.lemmas.List.FromFn.{map-range_with_len_more}
use Rattle.sheet_object.specs.Further.{text_place}
use Rattle.sheet_object.proofs.FurtherLemmas.{text_place-more}
use Rattle.sheet_object.proofs.further.text_places.Goals as goal

pub loop-space-preserved : goal.loop-space-preserved
loop-space-preserved c =
    let spaces = c.args.spaces.now in
    let i = c.loop-space.space-index in
    let x = c.space-item.result in
    let f = text_place spaces in
    let now = c.loop-space.invariant in
    record {
      places =
          c.in_ok-push.ensures.items
          ∙ ap (λ l. l ++ c.loop-space.place ∷ []) now.places
          ∙ ap (λ n. map f (range_with_len 0 i) ++ n ∷ []) now.place
          ∙ sym (map-range_with_len_more f 0 i i (zero-add i));
      place
          = omega (
            arith,
            now.place,
            ap length c.as_bytes.ensures,
            c.in-Some.ensures.1,
            text_place-more spaces i x c.loop-space-test.true c.space-item.is,
          );
    }
