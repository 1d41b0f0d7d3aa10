-- Lists and their members.
use Rattle.std.proofs.Common.{◌≡◌, Bool, true, false, List, [], ◌∷◌, ◌++◌, map, filter, flat_map}
use Rattle.std.proofs.Common.{filter_map, find, Option, Some, None, cond, refl, sym, subst, ap, ◌∙◌}
use Rattle.std.proofs.Common.{◌⊎◌, inl, inr}
use Rattle.std.proofs.lemmas.Bool.{or_parts, true≢false}
use Rattle.std.proofs.lemmas.Option.{none-some, same_Some}
use Rattle.std.specs.List.{list_any, cons_option}
use Rattle.km_names.specs.First.{first}
use Rattle.laws_closed_plans.specs.Members.{Member}

pub Member-left : {X : Type 0} (x : X) (xs ys : List X) → Member x xs → Member x (xs ++ ys)
Member-left x [] ys in' = absurd in'
Member-left x (y ∷ xs) ys (inl is) = inl is
Member-left x (y ∷ xs) ys (inr later) = inr (Member-left x xs ys later)

pub Member-right : {X : Type 0} (x : X) (xs ys : List X) → Member x ys → Member x (xs ++ ys)
Member-right x [] ys in' = in'
Member-right x (y ∷ xs) ys in' = inr (Member-right x xs ys in')

pub Member-cases : {X : Type 0} (x : X) (xs ys : List X) → Member x (xs ++ ys)
    → Member x xs ⊎ Member x ys
Member-cases x [] ys in' = inr in'
Member-cases x (y ∷ xs) ys (inl is) = inl (inl is)
Member-cases x (y ∷ xs) ys (inr later) =
    elim (Member-cases x xs ys later) [ inl here ↦ inl (inr here) | inr there ↦ inr there ]

pub Member-map : {X Y : Type 0} (f : X → Y) (x : X) (xs : List X) → Member x xs
    → Member (f x) (map f xs)
Member-map f x [] in' = in'
Member-map f x (y ∷ xs) (inl is) = inl (ap f is)
Member-map f x (y ∷ xs) (inr later) = inr (Member-map f x xs later)

pub Member-flat_map : {X Y : Type 0} (f : X → List Y) (x : X) (y : Y) (xs : List X) → Member x xs
    → Member y (f x) → Member y (flat_map f xs)
Member-flat_map f x y [] in' gives = absurd in'
Member-flat_map f x y (z ∷ xs) (inl is) gives = Member-left y (f z) (flat_map f xs) (rw is gives)
Member-flat_map f x y (z ∷ xs) (inr later) gives =
    Member-right y (f z) (flat_map f xs) (Member-flat_map f x y xs later gives)

-- what passes a test stays
Member-kept : {X : Type 0} (x z : X) (xs : List X) (b : Bool) → b ≡ true → (z ≡ x) ⊎ Member x xs
    → Member x (cond b (z ∷ xs) xs)
Member-kept x z xs true passes in' = in'
Member-kept x z xs false passes in' = absurd (true≢false (sym passes))

Member-still : {X : Type 0} (x z : X) (xs : List X) (b : Bool) → Member x xs
    → Member x (cond b (z ∷ xs) xs)
Member-still x z xs true in' = inr in'
Member-still x z xs false in' = in'

pub Member-filter : {X : Type 0} (p : X → Bool) (x : X) (xs : List X) → Member x xs → p x ≡ true
    → Member x (filter p xs)
Member-filter p x [] in' passes = in'
Member-filter p x (z ∷ xs) (inl is) passes =
    Member-kept x z (filter p xs) (p z) (ap p is ∙ passes) (inl is)
Member-filter p x (z ∷ xs) (inr later) passes =
    Member-still x z (filter p xs) (p z) (Member-filter p x xs later passes)

Member-cons_option : {Y : Type 0} (y : Y) (o : Option Y) (ys : List Y) → Member y ys
    → Member y (cons_option o ys)
Member-cons_option y None ys in' = in'
Member-cons_option y (Some z) ys in' = inr in'

pub Member-filter_map : {X Y : Type 0} (f : X → Option Y) (x : X) (y : Y) (xs : List X)
    → Member x xs → f x ≡ Some y → Member y (filter_map f xs)
Member-filter_map f x y [] in' gives = absurd in'
Member-filter_map f x y (z ∷ xs) (inl is) gives = rw (is, gives) (inl refl)
Member-filter_map f x y (z ∷ xs) (inr later) gives =
    Member-cons_option y (f z) (filter_map f xs) (Member-filter_map f x y xs later gives)

-- no member passes
pub none_passes : {X : Type 0} (p : X → Bool) (x : X) (xs : List X) → list_any p xs ≡ false
    → Member x xs → p x ≡ false
none_passes p x [] none in' = absurd in'
none_passes p x (y ∷ xs) none (inl is) = ap p (sym is) ∙ (or_parts (p y) (list_any p xs) none).0
none_passes p x (y ∷ xs) none (inr later) =
    none_passes p x xs (or_parts (p y) (list_any p xs) none).1 later

-- nothing is found where no member passes
pub find-none : {X : Type 0} (p : X → Bool) (xs : List X) → ((x : X) → Member x xs → p x ≡ false)
    → find p xs ≡ None
find-none p [] fails = refl
find-none p (x ∷ xs) fails = rw (fails x (inl refl)) (find-none p xs (λ y in'. fails y (inr in')))

found-head : {X : Type 0} (b : Bool) (x : X) (rest : Option X) → cond b (Some x) rest ≡ None
    → (b ≡ false) × (rest ≡ None)
found-head true x rest none = absurd (none-some x (sym none))
found-head false x rest none = (refl, none)

-- no member passes where nothing is found
pub none-found : {X : Type 0} (p : X → Bool) (x : X) (xs : List X) → find p xs ≡ None → Member x xs
    → p x ≡ false
none-found p x [] none in' = absurd in'
none-found p x (y ∷ xs) none (inl is) = ap p (sym is) ∙ (found-head (p y) y (find p xs) none).0
none-found p x (y ∷ xs) none (inr later) =
    none-found p x xs (found-head (p y) y (find p xs) none).1 later

found-either : {X : Type 0} (p : X → Bool) (x y : X) (xs : List X) (b : Bool) → p y ≡ b
    → cond b (Some y) (find p xs) ≡ Some x → (find p xs ≡ Some x → Member x xs × (p x ≡ true))
    → Member x (y ∷ xs) × (p x ≡ true)
found-either p x y xs true is is' later =
    let same : y ≡ x = same_Some y x is' in (inl same, ap p (sym same) ∙ is)
found-either p x y xs false is found later = let h = later found in (inr h.0, h.1)

-- what is found is a member that passes
pub found : {X : Type 0} (p : X → Bool) (x : X) (xs : List X) → find p xs ≡ Some x
    → Member x xs × (p x ≡ true)
found p x [] is = absurd (none-some x is)
found p x (y ∷ xs) is = found-either p x y xs (p y) refl is (found p x xs)

-- a list of tests that pass
pub first-none : {F : Type 0} (t : Option F) (ts : List (Option F)) → first (t ∷ ts) ≡ None
    → (t ≡ None) × (first ts ≡ None)
first-none None ts none = (refl, none)
first-none (Some f) ts none = absurd (none-some f (sym none))

pub first-pass : {F : Type 0} (t : Option F) (ts : List (Option F)) → t ≡ None → first ts ≡ None
    → first (t ∷ ts) ≡ None
first-pass t ts passes none = rw passes none

-- the same, of one test at each member
pub first-each : {X F : Type 0} (t : X → Option F) (xs : List X)
    → ((x : X) → Member x xs → t x ≡ None) → first (map t xs) ≡ None
first-each t [] passes = refl
first-each t (x ∷ xs) passes =
    first-pass (t x) (map t xs) (passes x (inl refl))
    (first-each t xs (λ y in'. passes y (inr in')))

pub each-first : {X F : Type 0} (t : X → Option F) (x : X) (xs : List X) → first (map t xs) ≡ None
    → Member x xs → t x ≡ None
each-first t x [] none in' = absurd in'
each-first t x (y ∷ xs) none (inl is) = ap t (sym is) ∙ (first-none (t y) (map t xs) none).0
each-first t x (y ∷ xs) none (inr later) =
    each-first t x xs (first-none (t y) (map t xs) none).1 later

-- x stands before y
pub record Precedes {X : Type 0} (x y : X) (xs : List X) : Type 0 where
  pub front : List X
  pub back : List X
  pub split : xs ≡ front ++ y ∷ back
  pub early : Member x front

pub split_at : {X : Type 0} (x : X) (xs : List X) → Member x xs
    → (front : List X) × (back : List X) × (xs ≡ front ++ x ∷ back)
split_at x [] in' = absurd in'
split_at x (y ∷ xs) (inl is) = ([], xs, ap (λ z. z ∷ xs) is)
split_at x (y ∷ xs) (inr later) =
    let s = split_at x xs later in (y ∷ s.0, s.1, ap (λ zs. y ∷ zs) s.2)

Precedes-head : {X : Type 0} (x y : X) (xs : List X) → Member y xs → Precedes x y (x ∷ xs)
Precedes-head x y xs in' =
    let s = split_at y xs in' in
    record { front = x ∷ s.0; back = s.1; split = ap (λ zs. x ∷ zs) s.2; early = inl refl }

Precedes-tail : {X : Type 0} (x y z : X) (xs : List X) → Precedes x y xs → Precedes x y (z ∷ xs)
Precedes-tail x y z xs p =
    record {
      front = z ∷ p.front;
      back = p.back;
      split = ap (λ zs. z ∷ zs) p.split;
      early = inr p.early;
    }

-- of two members one stands before the other, or they are one
pub Member-order : {X : Type 0} (x y : X) (xs : List X) → Member x xs → Member y xs
    → (x ≡ y) ⊎ (Precedes x y xs ⊎ Precedes y x xs)
Member-order x y [] a b = absurd a
Member-order x y (z ∷ xs) (inl a) (inl b) = inl (sym a ∙ b)
Member-order x y (z ∷ xs) (inl a) (inr b) =
    inr (inl (subst (λ w. Precedes w y (z ∷ xs)) a (Precedes-head z y xs b)))
Member-order x y (z ∷ xs) (inr a) (inl b) =
    inr (inr (subst (λ w. Precedes w x (z ∷ xs)) b (Precedes-head z x xs a)))
Member-order x y (z ∷ xs) (inr a) (inr b) =
    elim (Member-order x y xs a b) [
      | inl same ↦ inl same
      | inr order ↦ elim order [
        | inl p ↦ inr (inl (Precedes-tail x y z xs p))
        | inr p ↦ inr
            (inr (Precedes-tail y x z xs p))
      ]
    ]

-- what a map gives comes from a member
pub from-map : {X Y : Type 0} (f : X → Y) (y : Y) (xs : List X) → Member y (map f xs)
    → (x : X) × Member x xs × (f x ≡ y)
from-map f y [] in' = absurd in'
from-map f y (x ∷ xs) (inl is) = (x, inl refl, is)
from-map f y (x ∷ xs) (inr later) = let h = from-map f y xs later in (h.0, inr h.1, h.2)
