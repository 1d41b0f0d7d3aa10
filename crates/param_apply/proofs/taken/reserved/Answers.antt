use Rattle.std.proofs.Common.{◌≡◌, ◌+◌, ◌<◌, ◌∙◌, ℕ, Bool, List, [], ◌∷◌, ◌++◌, Some, sym, ap}
use Rattle.std.proofs.Common.{arith, length, take}
use Rattle.std.specs.Prelude.{◌||◌, slice_get}
use Rattle.std.specs.List.{list_any}
use Rattle.std.proofs.lemmas.List.{take_more}
use Rattle.std.proofs.lemmas.List.Folds.{list_any-append}
use Rattle.std.proofs.lemmas.Option.{get_or_from_slice_get, slice_get_within}
use Rattle.image_layout.proofs.SymbolLemmas.{length_layout}
use Rattle.param_apply.specs.Places.{is_relocated_by}
use Rattle.param_apply.proofs.taken.reserved.Goals as goal
use Rattle.std.proofs.Math.Bool.{or-false}

any-more : {X : Type 0} (test : X → Bool) (xs : List X) (i : ℕ) (x : X) → slice_get xs i ≡ Some x
    → list_any test (take (i + 1) xs) ≡ (list_any test (take i xs) || test x)
any-more test xs i x is =
    ap (list_any test)
    (take_more xs i x (slice_get_within xs i x is)
    ∙ ap (λ y. take i xs ++ y ∷ []) (get_or_from_slice_get xs i x x is))
    ∙ list_any-append test (take i xs) (x ∷ [])
    ∙ ap (λ b. list_any test (take i xs) || b) (or-false (test x))

pub mark_place-requires : goal.mark_place-requires
mark_place-requires c =
    omega (
      arith,
      c.place.ensures.inside.target,
      length_layout c.args.object.now.sections c.in_ok-layout.layout c.in_ok-layout.ensures,
    )

pub loop-i-preserved : goal.loop-i-preserved
loop-i-preserved c =
    let o = c.args.object.now in
    let i = c.loop-i.i in
    let p = c.place.result.now in
    record {
      length = c.mark_place.ensures.same ∙ c.loop-i.invariant.length;
      taken = λ x less.
          let inside : x < length c.loop-i.taken.items = omega (arith, c.loop-i.invariant.length) in
          c.mark_place.ensures.marked o c.in_ok-layout.ensures x inside
          ∙ ap (λ b. b || is_relocated_by o x p) (c.loop-i.invariant.taken x less)
          ∙ sym (any-more (is_relocated_by o x) o.places i p c.place.ensures.place);
    }
