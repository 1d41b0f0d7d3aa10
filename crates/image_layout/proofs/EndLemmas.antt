-- Where sections end that are placed in order.
use Rattle.std.proofs.Common.{◌≡◌, ◌≤◌, ◌<◌, ◌+◌, ◌∙◌, ℕ, Bool, true, false, List, [], ◌∷◌, ◌++◌}
use Rattle.std.proofs.Common.{Some, refl, sym, ap, arith, length, take, drop, get_or, cond}
use Rattle.std.proofs.Common.{append-nil}
use Rattle.std.specs.List.{slice_get}
use Rattle.std.proofs.lemmas.List.{take_more, take-append-drop}
use Rattle.std.proofs.lemmas.List.Elements.{filter-append}
use Rattle.std.proofs.lemmas.Option.{get_or_from_slice_get, slice_get_within}
use Rattle.elf_sections.specs.declared.section.Section.{Section}
use Rattle.image_layout.specs.declared.class.Class.{Class}
use Rattle.image_layout.specs.Offsets.{aligned, is_in, end_of, of_class}
use Rattle.image_layout.proofs.Aligning.{aligned_above}

pub take-item : {X : Type 0} (xs : List X) (i : ℕ) (x : X) → slice_get xs i ≡ Some x
    → take (i + 1) xs ≡ take i xs ++ x ∷ []
take-item xs i x is =
    let within : i < length xs = slice_get_within xs i x is in
    let here : get_or xs i x ≡ x = get_or_from_slice_get xs i x x is in
    take_more xs i x within ∙ ap (λ y. take i xs ++ y ∷ []) here

pub end_of-append : (place : ℕ) (xs ys : List Section)
    → end_of place (xs ++ ys) ≡ end_of (end_of place xs) ys
unfolding end_of
end_of-append place [] ys = refl
end_of-append place (s ∷ xs) ys = end_of-append (aligned place s.align + s.size) xs ys

pub end_of-above : (place : ℕ) (xs : List Section) → place ≤ end_of place xs
unfolding end_of
end_of-above place [] = omega arith
end_of-above place (s ∷ xs) =
    omega (arith, end_of-above (aligned place s.align + s.size) xs, aligned_above place s.align)

-- A section more, which is of the class or isn't.
end-next : (start : ℕ) (class : Class) (xs : List Section) (s : Section) (inside : Bool)
    → is_in class s ≡ inside
    → end_of start (of_class class (xs ++ s ∷ []))
    ≡ cond inside (aligned (end_of start (of_class class xs)) s.align + s.size)
    (end_of start (of_class class xs))
unfolding end_of
end-next start class xs s true is =
    rw (filter-append, end_of-append, is) refl
end-next start class xs s false is =
    rw (filter-append, is, append-nil) refl

pub end-with : (start : ℕ) (class : Class) (xs : List Section) (i : ℕ) (s : Section)
    → slice_get xs i ≡ Some s
    → end_of start (of_class class (take (i + 1) xs))
    ≡ cond (is_in class s)
    (aligned (end_of start (of_class class (take i xs))) s.align + s.size)
    (end_of start (of_class class (take i xs)))
end-with start class xs i s is =
    ap (λ ys. end_of start (of_class class ys)) (take-item xs i s is)
    ∙ end-next start class (take i xs) s (is_in class s) refl

-- The first sections end no later than all.
pub end-part : (start : ℕ) (class : Class) (xs : List Section) (i : ℕ)
    → end_of start (of_class class (take i xs)) ≤ end_of start (of_class class xs)
end-part start class xs i =
    let whole : end_of start (of_class class xs)
    ≡ end_of (end_of start (of_class class (take i xs))) (of_class class (drop i xs))
    =
    ap (λ ys. end_of start (of_class class ys)) (sym (take-append-drop i xs))
    ∙ ap (end_of start) (filter-append (is_in class) (take i xs) (drop i xs))
    ∙ end_of-append start (of_class class (take i xs)) (of_class class (drop i xs)) in
    rw whole (end_of-above (end_of start (of_class class (take i xs))) (of_class class (drop i xs)))
