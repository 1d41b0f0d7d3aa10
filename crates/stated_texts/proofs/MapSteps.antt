-- Values that are put into maps.
use Rattle.std.proofs.Common.{◌≡◌, sym, ap, ◌∙◌, ℕ, zero, suc, ◌+◌, ◌<◌, List, [], ◌∷◌, ◌++◌}
use Rattle.std.proofs.Common.{length, map, take, get_or, Option, Some, flat_map, zero-add, arith}
use Rattle.std.specs.List.{cons_option, filter_map, slice_get, zip, enumerate_from}
use Rattle.std.proofs.lemmas.List.{take_more, map-append}
use Rattle.std.proofs.lemmas.List.Sums.{fold-append}
use Rattle.std.proofs.lemmas.List.Elements.{filter_map-append}
use Rattle.std.proofs.lemmas.Grind.{flat_map-append}
use Rattle.std.proofs.lemmas.List.{append-nil}
use Rattle.std.proofs.lemmas.Option.{get_or_from_slice_get, slice_get_within}
use Rattle.index_format.specs.Map.{KeyValues, with_value}
use Rattle.index_format.specs.Listing.{KeyValue}
use Rattle.stated_texts.specs.Maps.{with_values}

-- values that are put in after others
pub with_values-append : (m : KeyValues) (xs ys : List KeyValue)
    → with_values m (xs ++ ys) ≡ with_values (with_values m xs) ys
with_values-append m xs ys =
    fold-append (λ (before : KeyValues) (value : KeyValue). with_value before value.0 value.1) m xs
    ys

-- the step of a loop that puts values, of which there are more
more-values : (start m next : KeyValues) (xs ys zs : List KeyValue) → m ≡ with_values start xs
    → next ≡ with_values m ys → xs ++ ys ≡ zs → next ≡ with_values start zs
more-values start m next xs ys zs before after joined =
    after ∙ ap (λ u. with_values u ys) before ∙ sym (with_values-append start xs ys)
    ∙ ap (with_values start) joined

-- the items up to one that was looked up
pub taken : {X : Type 0} (xs : List X) (i : ℕ) (x : X) → slice_get xs i ≡ Some x
    → take (i + 1) xs ≡ take i xs ++ x ∷ []
taken xs i x found =
    take_more xs i x (slice_get_within xs i x found)
    ∙ ap (λ y. take i xs ++ y ∷ []) (get_or_from_slice_get xs i x x found)

-- one for each item
pub value-found : {X : Type 0} (f : X → KeyValue) (start m next : KeyValues) (xs : List X) (i : ℕ)
    (x : X)
    → slice_get xs i ≡ Some x → m ≡ with_values start (map f (take i xs))
    → next ≡ with_values m (f x ∷ []) → next ≡ with_values start (map f (take (i + 1) xs))
value-found f start m next xs i x found before after =
    more-values start m next (map f (take i xs)) (f x ∷ []) (map f (take (i + 1) xs)) before after
    (sym (map-append f (take i xs) (x ∷ [])) ∙ ap (map f) (sym (taken xs i x found)))

-- some for each item
pub values-found : {X : Type 0} (f : X → List KeyValue) (start m next : KeyValues) (xs : List X)
    (i : ℕ) (x : X)
    → slice_get xs i ≡ Some x → m ≡ with_values start (flat_map f (take i xs))
    → next ≡ with_values m (f x) → next ≡ with_values start (flat_map f (take (i + 1) xs))
values-found f start m next xs i x found before after =
    more-values start m next (flat_map f (take i xs)) (f x) (flat_map f (take (i + 1) xs)) before
    after
    (ap (λ values. flat_map f (take i xs) ++ values) (sym (append-nil (f x)))
    ∙ sym (flat_map-append f (take i xs) (x ∷ []))
    ∙ ap (flat_map f) (sym (taken xs i x found)))

-- one for each item that has one
pub value-kept : {X : Type 0} (h : X → Option KeyValue) (start m next : KeyValues) (xs : List X)
    (i : ℕ) (x : X)
    → i < length xs → x ≡ get_or xs i x → m ≡ with_values start (filter_map h (take i xs))
    → next ≡ with_values m (cons_option (h x) [])
    → next ≡ with_values start (filter_map h (take (i + 1) xs))
value-kept h start m next xs i x inside is before after =
    more-values start m next (filter_map h (take i xs)) (cons_option (h x) [])
    (filter_map h (take (i + 1) xs)) before after
    (ap (λ y. filter_map h (take i xs) ++ cons_option (h y) []) is
    ∙ sym (filter_map-append h (take i xs) (get_or xs i x ∷ []))
    ∙ ap (filter_map h) (sym (take_more xs i x inside)))

-- the item at a place of two lists side by side, and with its place
pub zipped : {X Y : Type 0} (xs : List X) (ys : List Y) (i : ℕ) (x : X) (y : Y)
    → slice_get xs i ≡ Some x → slice_get ys i ≡ Some y → slice_get (zip xs ys) i ≡ Some (x, y)
zipped [] ys i x y a b = cc
zipped (x' ∷ xs) [] i x y a b = cc
zipped (x' ∷ xs) (y' ∷ ys) zero x y a b =
    let one : x' ≡ x = cc in
    let other : y' ≡ y = cc in
    λ i. Some (one i, other i)
zipped (x' ∷ xs) (y' ∷ ys) (suc i) x y a b = zipped xs ys i x y a b

numbered : {X : Type 0} (n : ℕ) (xs : List X) (i : ℕ) (x : X) → slice_get xs i ≡ Some x
    → slice_get (enumerate_from n xs) i ≡ Some (n + i, x)
numbered n [] i x found = cc
numbered n (y ∷ ys) zero x found =
    let one : y ≡ x = cc in
    let same : n ≡ n + 0 = omega arith in
    λ k. Some (same k, one k)
numbered n (y ∷ ys) (suc i) x found =
    let same : n + 1 + i ≡ n + suc i = omega arith in
    numbered (n + 1) ys i x found ∙ ap (λ k. Some (k, x)) same

pub placed : {X : Type 0} (xs : List X) (i : ℕ) (x : X) → slice_get xs i ≡ Some x
    → slice_get (enumerate_from 0 xs) i ≡ Some (i, x)
placed xs i x found = numbered 0 xs i x found ∙ ap (λ k. Some (k, x)) (zero-add i)
