use Rattle.std.proofs.Common.{◌∙◌, ◌∷◌, [], ◌+◌, ℕ, List, ap, length}
use Rattle.std.proofs.Common.{map, Vec, Global}
use Rattle.std.proofs.lemmas.List.{length-map, map-append}
use Rattle.model_loader.proofs.MetLemmas.{listed-more}
use Rattle.model_loader.proofs.PlaceLemmas.{length-pushed}
use Rattle.model_loader.proofs.uses.all_bound_places.Goals as goal

abbrev items_of : Vec ℕ Global → List ℕ
items_of u = u.items

pub loop-k-preserved : goal.loop-k-preserved
loop-k-preserved c =
    let old = c.loop-k.all.items in
    let v = c.in_ok-bound_places.field-0 in
    let inv = c.loop-k.invariant in
    record {
      counted
          = ap length c.in_ok-push.ensures.items ∙ length-pushed old v
          ∙ ap (λ n. n + 1) inv.counted;
      at =
          listed-more c.args.table.now c.args.places.now c.args.entries.now c.loop-k.k
          (map items_of old) _ v.items c.index-entries-k.result
          (length-map old items_of ∙ inv.counted)
          (ap (map items_of) c.in_ok-push.ensures.items ∙ map-append items_of old (v ∷ []))
          c.loop-k-test.true c.index-entries-k.is c.in_ok-bound_places.ensures inv.at;
    }
