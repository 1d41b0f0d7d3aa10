use Rattle.std.proofs.Common.{◌≡◌, ◌+◌, map, length, List, ℕ, true, false, sym, ap, ◌∙◌, arith}
use Rattle.std.specs.Prelude.{Option, is_some}
use Rattle.std.specs.BTreeMap as tree
use Rattle.std.specs.Map.Iter.{deref}
use Rattle.std.proofs.lemmas.Map.Iter.{rest_more, rest_all}
use Rattle.outside_calls.specs.Contents.{rest_after}
use Rattle.outside_calls.specs.Listing.{test_of, listed_of, passing}
use Rattle.outside_calls.proofs.RisingLemmas.{in_bytes-rises}
use Rattle.outside_calls.proofs.Listed.{counted_more, counted_same, is_some-mapped}
use Rattle.outside_calls.proofs.mem_listing.count_listed.Goals as goal

pub loop-path-init : goal.loop-path-init
loop-path-init c =
    let same
    = c.into_iter-path-iterator.ensures.into_iter_gives ∙ c.keys-path-items.ensures.rest in (
      ap (λ keys. 0
          + length (listed_of (test_of c.args.listing) c.args.prefix.now
          (map (λ path. path.items) keys))) same
          ∙ omega arith,
      omega (arith, ap length same),
      omega (
        arith,
        c.keys-path-items.ensures.fits,
        c.keys-path-items.ensures.len,
        ap length c.keys-path-items.ensures.rest,
      ),
    )

pub overflow_add-count : goal.overflow_add-count
overflow_add-count c = omega (arith, c.loop-path.invariant.1, c.loop-path.invariant.2)

pub loop-path-preserved-then-is_some : goal.loop-path-preserved-then-is_some
loop-path-preserved-then-is_some c =
    let h : List ℕ → Option (List ℕ)
    = λ path. passing (test_of c.args.listing) (rest_after c.args.prefix.now path) in
    let left = rest_more deref _ _ _ _ c.in-Some.is c.next.ensures.steps in
    let is : is_some (h c.in-Some.path.now.items) ≡ true =
    ap (λ path. is_some (h path)) (sym c.as_slice.ensures.value) ∙ ap is_some (sym c.rest.ensures)
    ∙ is_some-mapped (λ rest. rest.now) c.rest.result ∙ sym c.if-is_some.ensures in (
      counted_more h c.in-Some.path.now.items (map (λ path. path.items) c.next.new.self)
          c.loop-path.count _ is
          (ap (λ keys. c.loop-path.count
          + length (listed_of (test_of c.args.listing) c.args.prefix.now
          (map (λ path. path.items) keys))) (sym left)
          ∙ c.loop-path.invariant.0),
      omega (arith, c.loop-path.invariant.1, ap length left),
      c.loop-path.invariant.2,
    )

pub loop-path-preserved : goal.loop-path-preserved
loop-path-preserved c =
    let h : List ℕ → Option (List ℕ)
    = λ path. passing (test_of c.args.listing) (rest_after c.args.prefix.now path) in
    let left = rest_more deref _ _ _ _ c.in-Some.is c.next.ensures.steps in
    let is : is_some (h c.in-Some.path.now.items) ≡ false =
    ap (λ path. is_some (h path)) (sym c.as_slice.ensures.value) ∙ ap is_some (sym c.rest.ensures)
    ∙ is_some-mapped (λ rest. rest.now) c.rest.result ∙ sym c.if-is_some.ensures in (
      counted_same h c.in-Some.path.now.items (map (λ path. path.items) c.next.new.self)
          c.loop-path.count _ is
          (ap (λ keys. c.loop-path.count
          + length (listed_of (test_of c.args.listing) c.args.prefix.now
          (map (λ path. path.items) keys))) (sym left)
          ∙ c.loop-path.invariant.0),
      omega (arith, c.loop-path.invariant.1, ap length left),
      c.loop-path.invariant.2,
    )

pub returns-clause-count : goal.returns-clause-count
returns-clause-count c =
    let none = rest_all deref _ _ _ c.in-None.is c.next.ensures.steps in
    omega (
      arith,
      ap (λ keys. length
          (listed_of (test_of c.args.listing) c.args.prefix.now
          (map (λ path. path.items) keys))) none,
      c.loop-path.invariant.0,
    )

pub returns-clause-rising : goal.returns-clause-rising
returns-clause-rising c =
    in_bytes-rises (tree.keys c.args.files.now) c.keys-path-items.ensures.ordered
