use Rattle.std.proofs.Common.{◌≡◌, ◌+◌, ◌<◌, [], length, take, set, get_or, sym, ap, subst, ◌∙◌}
use Rattle.std.proofs.Common.{arith, length-append}
use Rattle.std.proofs.lemmas.List.{length-map, get_or_default}
use Rattle.symbol_binding.specs.declared.unbound.Unbound.TheVariants.{Double}
use Rattle.provider_rel.specs.Items.{doubles_with, item_doubles}
use Rattle.provider_rel.specs.Sharing.{AreCounts, earlier_at}
use Rattle.provider_rel.proofs.LinkSteps.{counts-more, item-doubles, earlier-short, doubles-more}
use Rattle.provider_rel.proofs.doubles.count_doubles.Goals as goal

pub overflow_add-index_mut : goal.overflow_add-index_mut
overflow_add-index_mut c =
    let counts = c.loop-k.counts.items in
    let earlier = c.loop-k.invariant.counts in
    let p = c.first_at-place.result in
    let within : p < length counts = omega (arith, earlier.long, c.first_at-place.ensures.within) in
    let many : c.index_mut.result.now
    ≡ length (earlier_at c.args.items.now c.args.names.now c.loop-k.k p)
    =
    c.index_mut.ensures.value ∙ get_or_default counts p c.index_mut.result.now 0 within
    ∙ earlier.counts_are p c.first_at-place.ensures.within in
    omega (
      arith,
      many,
      earlier-short c.args.names.now c.args.items.now c.requires.names c.loop-k.k p,
      c.loop-k-test.true,
      c.requires.few,
    )

pub loop-k-preserved : goal.loop-k-preserved
loop-k-preserved c =
    let counts = c.loop-k.counts.items in
    let earlier = c.loop-k.invariant.counts in
    let p = c.first_at-place.result in
    let k = c.loop-k.k in
    let i = c.index-items-k.result in
    let is = c.args.items.now in
    let names = c.args.names.now in
    let table = c.requires.names in
    let within = c.loop-k-test.true in
    let inside = c.first_at-place.ensures.within in
    let at = c.first_at-place.ensures.first in
    let here : p < length counts = omega (arith, earlier.long, inside) in
    let written : c.index_mut.result.now ≡ get_or counts p 0
    = c.index_mut.ensures.value ∙ get_or_default counts p c.index_mut.result.now 0 here in
    let read : c.index.result.now ≡ length (earlier_at is names k p)
    = c.index.ensures ∙ get_or_default counts p c.index.result.now 0 here
    ∙ earlier.counts_are p inside in
    let short = earlier-short names is table k p in
    let many : c.from-count.result ≡ length (doubles_with (take k is) i) =
    c.from-count.ensures ∙ read
    ∙ sym (length-map (earlier_at is names k p)
    (λ j. Double i.export.name (get_or is j i).path i.path))
    ∙ ap length (item-doubles names is table k p i within at) in
    let few : c.from-count.result ≡ length (earlier_at is names k p)
    = c.from-count.ensures ∙ read in
    record {
      counts
          = subst (λ n. AreCounts is names (k + 1) (set counts p (n + 1))) (sym written)
          (counts-more names is table k p i counts within inside c.index-items-k.is at earlier);
      count
          = omega (
            arith,
            c.loop-k.invariant.count,
            many,
            ap length (doubles-more is k i within c.index-items-k.is),
            length-append (item_doubles [] (take k is)) (doubles_with (take k is) i),
          );
      bound = omega (arith, c.loop-k.invariant.bound, few, short, within, c.requires.few);
    }
