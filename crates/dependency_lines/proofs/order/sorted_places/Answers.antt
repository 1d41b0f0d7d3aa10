use Rattle.std.proofs.Common.{◌<◌, length, subst, arith, rules}
use Rattle.std.proofs.lemmas.Fn.{always_returns_same}
use Rattle.std.proofs.lemmas.List.{get_or_default}
use Rattle.std.proofs.lemmas.List.Sorted.{All-permutation}
use Rattle.dependency_lines.specs.Places.{AreFirst}
use Rattle.dependency_lines.proofs.Kept.{at-first}
use Rattle.dependency_lines.proofs.Sorting.{place_number, places-sorted}
use Rattle.dependency_lines.proofs.order.sorted_places.Goals as goal

pub returns-clause-order : goal.returns-clause-order
returns-clause-order c =
    let ms = c.args.lines.now in
    let first
    = subst (λ n. AreFirst n c.in_ok-places.places.items) c.len.ensures c.in_ok-places.ensures
    in
    places-sorted ms c.in_ok-places.places.items c.sort_by_key.new.self.items
    (at-first ms c.in_ok-places.places.items first)
    (c.in_ok-sort_by_key.ensures.sorted (place_number ms)
    (always_returns_same _ _ _ (λ a r q k. search rules)))
    (c.in_ok-sort_by_key.ensures.stable (place_number ms)
    (always_returns_same _ _ _ (λ a r q k. search rules)))

pub returns-clause-inside : goal.returns-clause-inside
returns-clause-inside c =
    let ms = c.args.lines.now in
    let places = c.in_ok-places.places.items in
    let first
    = subst (λ n. AreFirst n c.in_ok-places.places.items) c.len.ensures c.in_ok-places.ensures
    in
    All-permutation (λ place. place < length ms) places c.sort_by_key.new.self.items
    c.in_ok-sort_by_key.ensures.permutation
    (λ k d l. let e
    = first.each k (omega (arith, l, first.long)) in omega
    (arith, get_or_default places k d 0 l, e, l, first.long))
