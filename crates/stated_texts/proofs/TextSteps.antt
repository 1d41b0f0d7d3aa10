-- Texts in the making: how pieces add up, and what was measured or kept.
use Rattle.std.proofs.Common.{◌≡◌, refl, sym, ap, ◌∙◌, ℕ, ◌+◌, ◌<◌, ◌≤◌, min, List, [], ◌∷◌, ◌++◌}
use Rattle.std.proofs.Common.{length, take, get_or, flat_map, Option, Some, None, option_map}
use Rattle.std.proofs.Common.{arith, append_assoc, length-append}
use Rattle.std.proofs.lemmas.List.{take_more, take_all, append-nil}
use Rattle.std.proofs.lemmas.Grind.{flat_map-append}
use Rattle.std.proofs.lemmas.Option.{get_or_from_slice_get, slice_get_within}
use Rattle.std.specs.List.{slice_get}
use Rattle.stated_texts.specs.declared.text.Text.{Text}
use Rattle.stated_texts.specs.Text.{measured, kept, with_piece}

-- one piece, whatever it is
pub piece-is : (t : Text) (piece : List ℕ) (n : ℕ) (bytes : Option (List ℕ))
    → t.length ≤ 18446744073709551615 → n ≡ min (t.length + length piece) 18446744073709551615
    → bytes ≡ option_map (λ before. before ++ piece) t.kept
    → record { length = n; kept = bytes } ≡ with_piece t piece
unfolding with_piece
piece-is t [] n bytes fits is keeps =
    let same : n ≡ t.length = omega arith in
    λ i. record { length = same i; kept = (keeps ∙ no-more t.kept) i }
  where
    no-more : (o : Option (List ℕ)) → option_map (λ before. before ++ []) o ≡ o
    no-more None = refl
    no-more (Some before) = ap Some (append-nil before)
piece-is t (b ∷ more) n bytes fits is keeps = λ i. record { length = is i; kept = keeps i }

-- one after the other
kept-append : (a b : List ℕ) (o : Option (List ℕ))
    → option_map (λ before. before ++ b) (option_map (λ before. before ++ a) o)
    ≡ option_map (λ before. before ++ (a ++ b)) o
kept-append a b None = refl
kept-append a b (Some before) = ap Some (append_assoc before a b)

pub with_piece-append : (t : Text) (a b : List ℕ)
    → with_piece (with_piece t a) b ≡ with_piece t (a ++ b)
unfolding with_piece
with_piece-append t [] b = refl
with_piece-append t (x ∷ a) [] = ap (with_piece t) (sym (append-nil (x ∷ a)))
with_piece-append t (x ∷ a) (y ∷ b) =
    let long : min (min (t.length + length (x ∷ a)) 18446744073709551615 + length (y ∷ b))
    18446744073709551615
    ≡ min (t.length + length (x ∷ a ++ y ∷ b)) 18446744073709551615
    = omega (arith, length-append (x ∷ a) (y ∷ b)) in
    λ i. record { length = long i; kept = kept-append (x ∷ a) (y ∷ b) t.kept i }

-- the step of a loop that puts a piece for each item
pub put-at : {X : Type 0} (f : X → List ℕ) (t s next : Text) (xs : List X) (i : ℕ) (d : X)
    → i < length xs → s ≡ with_piece t (flat_map f (take i xs))
    → next ≡ with_piece s (f (get_or xs i d)) → next ≡ with_piece t (flat_map f (take (i + 1) xs))
put-at f t s next xs i d inside before after =
    let x = get_or xs i d in
    after
    ∙ ap (λ u. with_piece u (f x)) before
    ∙ with_piece-append t (flat_map f (take i xs)) (f x)
    ∙ ap (with_piece t) (
    ap (λ bytes. flat_map f (take i xs) ++ bytes) (sym (append-nil (f x)))
    ∙ sym (flat_map-append f (take i xs) (x ∷ []))
    ∙ ap (flat_map f) (sym (take_more xs i d inside)))

pub put-next : {X : Type 0} (f : X → List ℕ) (t s next : Text) (xs : List X) (i : ℕ) (x : X)
    → i < length xs → x ≡ get_or xs i x → s ≡ with_piece t (flat_map f (take i xs))
    → next ≡ with_piece s (f x) → next ≡ with_piece t (flat_map f (take (i + 1) xs))
put-next f t s next xs i x inside is before after =
    put-at f t s next xs i x inside before (after ∙ ap (λ y. with_piece s (f y)) is)

pub put-found : {X : Type 0} (f : X → List ℕ) (t s next : Text) (xs : List X) (i : ℕ) (x : X)
    → slice_get xs i ≡ Some x → s ≡ with_piece t (flat_map f (take i xs))
    → next ≡ with_piece s (f x) → next ≡ with_piece t (flat_map f (take (i + 1) xs))
put-found f t s next xs i x found before after =
    put-next f t s next xs i x (slice_get_within xs i x found)
    (sym (get_or_from_slice_get xs i x x found)) before after

-- the end of such a loop
pub put-whole : {X : Type 0} (f : X → List ℕ) (t s : Text) (xs : List X) (i : ℕ) → length xs ≤ i
    → s ≡ with_piece t (flat_map f (take i xs)) → s ≡ with_piece t (flat_map f xs)
put-whole f t s xs i past is = is ∙ ap (λ ys. with_piece t (flat_map f ys)) (take_all i xs past)

-- nothing is a piece that changes nothing
pub with-nothing : (t : Text) → with_piece t [] ≡ t
unfolding with_piece
with-nothing t = refl

-- what was measured is the length
pub measured-length : (t : Text) (bytes : List ℕ) → t ≡ with_piece measured bytes
    → t.length ≡ min (length bytes) 18446744073709551615
unfolding with_piece
measured-length t [] is = ap (λ u. u.length) is
measured-length t (b ∷ bytes) is = ap (λ u. u.length) is ∙ omega arith

-- what was kept are the bytes
pub kept-bytes : (t : Text) (bytes : List ℕ) → t ≡ with_piece kept bytes → t.kept ≡ Some bytes
unfolding with_piece
kept-bytes t [] is = ap (λ u. u.kept) is
kept-bytes t (b ∷ bytes) is = ap (λ u. u.kept) is
