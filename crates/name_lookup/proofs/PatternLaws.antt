-- Patterns that begin with plain bytes, and patterns of only plain bytes.
use Rattle.std.proofs.Common.{◌≡◌, ℕ, Bool, true, false, List, [], ◌∷◌, ◌++◌, length, take, drop}
use Rattle.std.proofs.Common.{Option, Some, None, refl, sym, ap, ◌∙◌}
use Rattle.std.specs.Prelude.{◌||◌, ◌&&◌, ◌==◌, nat_eq}
use Rattle.std.specs.List.{list_any}
use Rattle.std.specs.Option.{option_map, option_map_or}
use Rattle.std.specs.Str.{bytes_eq}
use Rattle.std.specs.Cmp.Lexicographic.{pointwise}
use Rattle.std.proofs.lemmas.Bool.{true≢false}
use Rattle.std.proofs.Math.Dec.{eqb-suc-zero}
use Rattle.glob_match.specs.Decision.{is_match}
use Rattle.glob_match.proofs.MatchLemmas.{is_match-parts}
use Rattle.glob_pattern.specs.Parts.{Part, One, parts_from, parts_take}
use Rattle.glob_pattern.specs.Pattern.{star, question, bracket}
use Rattle.name_lookup.specs.Wildcards.{is_wildcard}

-- neither of two tests passes
neither : (a b : Bool) → (a || b) ≡ false → (a ≡ false) × (b ≡ false)
neither true b h = absurd (true≢false h)
neither false b h = (refl, h)

-- a plain byte at the front of a pattern
front-part : (c : ℕ) (p : List ℕ) → is_wildcard c ≡ false
    → parts_from None (c ∷ p) ≡ option_map (λ ps. One (λ b. b == c) ∷ ps) (parts_from None p)
front-part c p plain =
    let s = neither (c == star) (c == question || c == bracket) plain in
    let q = neither (c == question) (c == bracket) s.1 in
    rw (s.0, q.0, q.1) refl

takes-first : (c y : ℕ) (ys : List ℕ) (parts : Option (List Part))
    → option_map_or (λ ps. parts_take ps (y ∷ ys)) (option_map (λ ps. One (λ b. b == c) ∷ ps) parts)
    false
    ≡ ((y == c) && option_map_or (λ ps. parts_take ps ys) parts false)
takes-first c y ys None = none (y == c)
  where
    none : (b : Bool) → false ≡ (b && false)
    none true = refl
    none false = refl
takes-first c y ys (Some ps) = refl

takes-none : (c : ℕ) (parts : Option (List Part))
    → option_map_or (λ ps. parts_take ps []) (option_map (λ ps. One (λ b. b == c) ∷ ps) parts) false
    ≡ false
takes-none c None = refl
takes-none c (Some ps) = refl

match-first : (c : ℕ) (p : List ℕ) (y : ℕ) (ys : List ℕ) → is_wildcard c ≡ false
    → is_match (c ∷ p) (y ∷ ys) ≡ ((y == c) && is_match p ys)
match-first c p y ys plain =
    is_match-parts (c ∷ p) (y ∷ ys)
    ∙ ap (λ parts. option_map_or (λ ps. parts_take ps (y ∷ ys)) parts false) (front-part c p plain)
    ∙ takes-first c y ys (parts_from None p)
    ∙ ap (λ t. (y == c) && t) (sym (is_match-parts p ys))

match-none : (c : ℕ) (p : List ℕ) → is_wildcard c ≡ false → is_match (c ∷ p) [] ≡ false
match-none c p plain =
    is_match-parts (c ∷ p) []
    ∙ ap (λ parts. option_map_or (λ ps. parts_take ps []) parts false) (front-part c p plain)
    ∙ takes-none c (parts_from None p)

match-empty : (y : ℕ) (ys : List ℕ) → is_match [] (y ∷ ys) ≡ false
match-empty y ys = is_match-parts [] (y ∷ ys) ∙ eqb-suc-zero (length ys)

empty-matches : is_match [] [] ≡ true
empty-matches = is_match-parts [] []

and-more : (a b c : Bool) → (a && (b && c)) ≡ ((a && b) && c)
and-more true b c = refl
and-more false b c = refl

-- a pattern that begins with plain bytes
pub match-front : (front rest x : List ℕ) → list_any is_wildcard front ≡ false
    → is_match (front ++ rest) x
    ≡ (pointwise nat_eq (take (length front) x) front && is_match rest (drop (length front) x))
match-front [] rest x plain = refl
match-front (c ∷ front) rest [] plain = match-none c (front ++ rest) (neither _ _ plain).0
match-front (c ∷ front) rest (y ∷ ys) plain =
    let p = neither (is_wildcard c) (list_any is_wildcard front) plain in
    match-first c (front ++ rest) y ys p.0
    ∙ ap (λ b. (y == c) && b) (match-front front rest ys p.1)
    ∙ and-more (y == c) (pointwise nat_eq (take (length front) ys) front)
    (is_match rest (drop (length front) ys))

-- a pattern of plain bytes is a name
pub match-plain : (p x : List ℕ) → list_any is_wildcard p ≡ false → is_match p x ≡ bytes_eq x p
match-plain [] [] plain = empty-matches
match-plain [] (y ∷ ys) plain = match-empty y ys
match-plain (c ∷ p) [] plain = match-none c p (neither _ _ plain).0
match-plain (c ∷ p) (y ∷ ys) plain =
    let w = neither (is_wildcard c) (list_any is_wildcard p) plain in
    match-first c p y ys w.0 ∙ ap (λ b. (y == c) && b) (match-plain p ys w.1)
