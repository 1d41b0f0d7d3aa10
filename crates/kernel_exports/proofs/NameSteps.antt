-- What tables of names say of the lists that they were made of.
use Rattle.std.proofs.Common.{◌≡◌, ℕ, suc, ◌+◌, ◌≤◌, Bool, true, false, ◌||◌, not, List, [], ◌∷◌}
use Rattle.std.proofs.Common.{length, map, cond, ltb, Option, Some, None, is_some, option_and_then}
use Rattle.std.proofs.Common.{find, refl, sym, ap, ◌∙◌, arith}
use Rattle.std.proofs.lemmas.Bool.Decides.{nat_tests}
use Rattle.std.proofs.lemmas.List.Folds.{find_at}
use Rattle.std.proofs.lemmas.Option.{slice_get_past}
use Rattle.std.proofs.lemmas.Iterator.Adapters.{position_from-zero}
use Rattle.std.proofs.lemmas.Cmp.{nat_list_eq_equiv}
use Rattle.std.proofs.lemmas.Slice.Eq.{bytes_eq-Decides}
use Rattle.std.specs.List.{position, position_from, position_or_len, prefix_len, slice_get}
use Rattle.std.specs.List.{list_any}
use Rattle.std.specs.Str.{bytes_eq}
use Rattle.name_table.specs.NameTable.{Table, IsTableOf, states, place_of}

prefix_len-map : {X Y : Type 0} (p : Y → Bool) (f : X → Y) (xs : List X)
    → prefix_len p (map f xs) ≡ prefix_len (λ x. p (f x)) xs
prefix_len-map p f [] = refl
prefix_len-map p f (x ∷ xs) = ap (λ n. cond (p (f x)) (1 + n) 0) (prefix_len-map p f xs)

length-map' : {X Y : Type 0} (f : X → Y) (xs : List X) → length (map f xs) ≡ length xs
length-map' f [] = refl
length-map' f (x ∷ xs) = ap (λ n. suc n) (length-map' f xs)

position-map : {X Y : Type 0} (p : Y → Bool) (f : X → Y) (xs : List X)
    → position p (map f xs) ≡ position (λ x. p (f x)) xs
position-map p f xs =
    ap (λ n. cond (ltb n (length (map f xs))) (Some n) None) (prefix_len-map (λ y. not (p y)) f xs)
    ∙ ap (λ l. cond (ltb (position_or_len (λ x. p (f x)) xs) l)
    (Some (position_or_len (λ x. p (f x)) xs)) None) (length-map' f xs)

prefix_len-same : {X : Type 0} (p q : X → Bool) → ((x : X) → p x ≡ q x) → (xs : List X)
    → prefix_len p xs ≡ prefix_len q xs
prefix_len-same p q same [] = refl
prefix_len-same p q same (x ∷ xs) =
    ap (λ b. cond b (1 + prefix_len p xs) 0) (same x)
    ∙ ap (λ n. cond (q x) (1 + n) 0) (prefix_len-same p q same xs)

-- what is found stands at the first place
find-placed : {X : Type 0} (p : X → Bool) (xs : List X)
    → option_and_then (slice_get xs) (position p xs) ≡ find p xs
find-placed p xs = go (ltb (position_or_len p xs) (length xs)) refl ∙ sym (find_at p xs)
  where
    go : (b : Bool) → ltb (position_or_len p xs) (length xs) ≡ b
        → option_and_then (slice_get xs) (cond b (Some (position_or_len p xs)) None)
        ≡ slice_get xs (position_or_len p xs)
    go true is = refl
    go false is =
        let past : length xs ≤ position_or_len p xs = grind (arith, nat_tests) in
        sym (slice_get_past xs (position_or_len p xs) past)

-- what has a name stands at the place that the table of the names has for it
pub table-find : {X : Type 0} (f : X → Option (List ℕ)) (test : X → Bool) (name : List ℕ)
    → ((x : X) → states name (f x) ≡ test x)
    → (t : Table) (xs : List X) → IsTableOf t (map f xs)
    → option_and_then (slice_get xs) (place_of t name) ≡ find test xs
table-find f test name same t xs is =
    ap (option_and_then (slice_get xs)) (is.places name ∙ position-map (states name) f xs ∙ agree)
    ∙ find-placed test xs
  where
    agree : position (λ x. states name (f x)) xs ≡ position test xs
    agree
        = ap (λ n. cond (ltb n (length xs)) (Some n) None)
        (prefix_len-same (λ x. not (states name (f x))) (λ x. not (test x))
        (λ x. ap not (same x)) xs)

any-map : {X Y : Type 0} (p : Y → Bool) (f : X → Y) (test : X → Bool) → ((x : X) → p (f x) ≡ test x)
    → (k : ℕ) (xs : List X) → is_some (position_from p k (map f xs)) ≡ list_any test xs
any-map p f test same k [] = refl
any-map p f test same k (x ∷ xs) = go (any-map p f test same (k + 1) xs) (p (f x)) refl
  where
    go : is_some (position_from p (k + 1) (map f xs)) ≡ list_any test xs → (b : Bool) → p (f x) ≡ b
        → is_some (cond (p (f x)) (Some k) (position_from p (k + 1) (map f xs)))
        ≡ (test x || list_any test xs)
    go later true is =
        ap (λ b. is_some (cond b (Some k) (position_from p (k + 1) (map f xs)))) is
        ∙ ap (λ b. b || list_any test xs) (sym is ∙ same x)
    go later false is =
        ap (λ b. is_some (cond b (Some k) (position_from p (k + 1) (map f xs)))) is
        ∙ later
        ∙ ap (λ b. b || list_any test xs) (sym is ∙ same x)

-- the table has a place for a name exactly where one of the list has it
pub table-any : {X : Type 0} (f : X → Option (List ℕ)) (test : X → Bool) (name : List ℕ)
    → ((x : X) → states name (f x) ≡ test x)
    → (t : Table) (xs : List X) → IsTableOf t (map f xs)
    → is_some (place_of t name) ≡ list_any test xs
table-any f test name same t xs is =
    ap is_some (is.places name ∙ position_from-zero (states name) (map f xs))
    ∙ any-map (states name) f test same 0 xs

-- names are compared
pub bytes-same : (a b : List ℕ) → bytes_eq a b ≡ true → a ≡ b
bytes-same a b = (bytes_eq-Decides a b).0

pub bytes-refl : (a : List ℕ) → bytes_eq a a ≡ true
bytes-refl a = (bytes_eq-Decides a a).1 refl

pub bytes-turn : (a b : List ℕ) → bytes_eq a b ≡ bytes_eq b a
bytes-turn a b = nat_list_eq_equiv.symm a b
