use Rattle.std.proofs.Common.{◌≡◌, map, ◌∷◌, ◌++◌, [], List, ℕ, Some, None, sym, ap, ◌∙◌}
use Rattle.std.proofs.Common.{append-nil}
use Rattle.std.specs.Map.Iter.{deref}
use Rattle.std.specs.Option.{option_map}
use Rattle.std.specs.Prelude.{Option}
use Rattle.std.proofs.lemmas.Map.Iter.{rest_more, rest_all}
use Rattle.outside_calls.specs.Contents.{rest_after}
use Rattle.outside_calls.specs.Listing.{test_of, listed_of, passing}
use Rattle.outside_calls.proofs.Listed.{listed_more, listed_same}
use Rattle.outside_calls.proofs.mem_listing.collect_listed.Goals as goal

pub loop-path-init : goal.loop-path-init
loop-path-init g c =
    ap (λ names. names
    ++ listed_of (test_of c.args.listing) c.args.prefix.now
    (map (λ path. path.items) c.into_iter-path-iterator.result)) c.new-names.ensures
    ∙ ap (λ keys. listed_of (test_of c.args.listing) c.args.prefix.now
    (map (λ path. path.items) keys))
    (c.into_iter-path-iterator.ensures.into_iter_gives ∙ c.keys-path-items.ensures.rest)

pub loop-path-preserved-in_ok-push : goal.loop-path-preserved-in_ok-push
loop-path-preserved-in_ok-push g c =
    let h : List ℕ → Option (List ℕ)
    = λ path. passing (test_of c.args.listing) (rest_after c.args.prefix.now path) in
    let left = rest_more deref _ _ _ _ c.in-Some.is c.next.ensures.steps in
    let is : h c.in-Some.path.now.items ≡ Some c.in-Some-rest.rest.now =
    ap h (sym c.as_slice.ensures.value) ∙ sym c.rest.ensures
    ∙ ap (option_map (λ rest. rest.now)) c.in-Some-rest.is in
    ap (λ names. names
    ++ listed_of (test_of c.args.listing) c.args.prefix.now
    (map (λ path. path.items) c.next.new.self))
    (c.in_ok-push.ensures.ok
    ∙ ap (λ item. c.loop-path.names ++ item ∷ []) c.in_ok-from_slice.ensures)
    ∙ listed_more h c.in-Some.path.now.items c.in-Some-rest.rest.now
    (map (λ path. path.items) c.next.new.self) c.loop-path.names _ is
    (ap (λ keys. c.loop-path.names
    ++ listed_of (test_of c.args.listing) c.args.prefix.now
    (map (λ path. path.items) keys)) (sym left)
    ∙ c.loop-path.invariant)

pub loop-path-preserved : goal.loop-path-preserved
loop-path-preserved g c =
    let h : List ℕ → Option (List ℕ)
    = λ path. passing (test_of c.args.listing) (rest_after c.args.prefix.now path) in
    let left = rest_more deref _ _ _ _ c.in-Some.is c.next.ensures.steps in
    let is : h c.in-Some.path.now.items ≡ None =
    ap h (sym c.as_slice.ensures.value) ∙ sym c.rest.ensures
    ∙ ap (option_map (λ rest. rest.now)) c.in_default.is in
    listed_same h c.in-Some.path.now.items (map (λ path. path.items) c.next.new.self)
    c.loop-path.names _ is
    (ap (λ keys. c.loop-path.names
    ++ listed_of (test_of c.args.listing) c.args.prefix.now
    (map (λ path. path.items) keys)) (sym left)
    ∙ c.loop-path.invariant)

pub returns : goal.returns
returns g c =
    let none = rest_all deref _ _ _ c.in-None.is c.next.ensures.steps in
    sym (append-nil c.loop-path.names)
    ∙ ap (λ keys. c.loop-path.names
    ++ listed_of (test_of c.args.listing) c.args.prefix.now (map (λ path. path.items) keys))
    (sym none)
    ∙ c.loop-path.invariant
