-- Names and their places.
use Rattle.std.proofs.Common.{◌≡◌, ℕ, suc, zero, ◌+◌, ◌<◌, Bool, true, false, ◌||◌, cond, List, []}
use Rattle.std.proofs.Common.{◌∷◌, length, map, Some, None, is_some, refl, sym, ap, ◌∙◌, arith}
use Rattle.std.proofs.Common.{add-zero, position, Bor}
use Rattle.std.proofs.lemmas.Iterator.Adapters.{position_from-zero}
use Rattle.std.proofs.lemmas.List.{length-map}
use Rattle.std.proofs.lemmas.List.Quantifiers.{position-Some}
use Rattle.std.proofs.lemmas.Cmp.{nat_list_eq_equiv}
use Rattle.std.proofs.lemmas.List.Folds.{list_all-map}
use Rattle.std.specs.List.{list_all, list_any, position_from, range_with_len, slice_get}
use Rattle.std.specs.Str.{bytes_eq}
use Rattle.name_table.specs.NameTable.{states, first_place}
use Rattle.name_table.specs.FirstSeen.{is_among}
use Rattle.sheet_object.specs.Sheet.{is_text}
use Rattle.sheet_object.specs.Writing.{names_of}

position_from-map : {X Y : Type 0} (f : X → Y) (p : Y → Bool) (i : ℕ) (xs : List X)
    → position_from p i (map f xs) ≡ position_from (λ x. p (f x)) i xs
position_from-map f p i [] = refl
position_from-map f p i (x ∷ xs) =
    ap (λ o. cond (p (f x)) (Some i) o) (position_from-map f p (i + 1) xs)

-- the first place of a name, where each item has one
pub first_place-is : {X : Type 0} (f : X → List ℕ) (xs : List X) (name : List ℕ)
    → first_place (map (λ n. Some n) (map f xs)) name ≡ position (λ x. bytes_eq (f x) name) xs
first_place-is f xs name =
    position_from-zero (states name) (map (λ n. Some n) (map f xs))
    ∙ position_from-map (λ n. Some n) (states name) 0 (map f xs)
    ∙ position_from-map f (λ n. bytes_eq n name) 0 xs
    ∙ sym (position_from-zero (λ x. bytes_eq (f x) name) xs)

pub first_place-names : (names : List (List ℕ)) (name : List ℕ)
    → first_place (map (λ n. Some n) names) name ≡ position (λ n. bytes_eq n name) names
first_place-names names name =
    position_from-zero (states name) (map (λ n. Some n) names)
    ∙ position_from-map (λ n. Some n) (states name) 0 names
    ∙ sym (position_from-zero (λ n. bytes_eq n name) names)

-- it is one of the items
pub first_place-within : {X : Type 0} (f : X → List ℕ) (xs : List X) (name : List ℕ) (k : ℕ)
    → first_place (map (λ n. Some n) (map f xs)) name ≡ Some k → k < length xs
first_place-within f xs name k is =
    let within : k < length (map (λ n. Some n) (map f xs))
    = (position-Some (states name) (map (λ n. Some n) (map f xs)) k None is).0 in
    omega (arith, within, length-map (map f xs) (λ (n : List ℕ). Some n), length-map xs f)

some_from : {X : Type 0} (p : X → Bool) (i : ℕ) (xs : List X)
    → is_some (position_from p i xs) ≡ list_any p xs
some_from p i [] = refl
some_from p i (x ∷ xs) =
    elim (p x) as
    (λ b. is_some (cond b (Some i) (position_from p (i + 1) xs)) ≡ (b || list_any p xs)) [
      | true ↦ refl
      | false ↦ some_from p (i + 1) xs
    ]

among-turned : (name : List ℕ) (names : List (List ℕ))
    → list_any (λ n. bytes_eq n name) names ≡ is_among names name
among-turned name [] = refl
among-turned name (n ∷ names) = λ i. nat_list_eq_equiv.symm n name i || among-turned name names i

-- a name that is found is among the names
pub is_among-first_place : (names : List (List ℕ)) (name : List ℕ)
    → is_some (first_place (map (λ n. Some n) names) name) ≡ is_among names name
is_among-first_place names name =
    ap is_some (position_from-zero (states name) (map (λ n. Some n) names)
    ∙ position_from-map (λ n. Some n) (states name) 0 names)
    ∙ some_from (λ n. bytes_eq n name) 0 names
    ∙ among-turned name names

-- the number that a list made of numbers has at a place
made-at : (f : ℕ → ℕ) (a n i : ℕ) → i < n
    → slice_get (map f (range_with_len a n)) i ≡ Some (f (a + i))
made-at f a zero i less = absurd (omega arith)
made-at f a (suc n) zero less = ap (λ k. Some (f k)) (sym (add-zero a))
made-at f a (suc n) (suc i) less =
    let same : a + 1 + i ≡ a + suc i
    = omega arith in made-at f (a + 1) n i (omega arith) ∙ ap (λ k. Some (f k)) same

pub made-number : (f : ℕ → ℕ) (n i : ℕ) → i < n
    → slice_get (map f (range_with_len 0 n)) i ≡ Some (f i)
made-number f n i less =
    let same : 0 + i ≡ i = omega arith in made-at f 0 n i less ∙ ap (λ k. Some (f k)) same

pub map-same : {X : Type 0} (xs : List X) → map (λ (x : X). x) xs ≡ xs
map-same [] = refl
map-same (x ∷ xs) = ap (λ l. x ∷ l) (map-same xs)

-- a name that is found is one of the names
pub name-within : (names : List (List ℕ)) (name : List ℕ) (k : ℕ)
    → first_place (map (λ n. Some n) names) name ≡ Some k → k < length names
name-within names name k is =
    let within : k < length (map (λ n. Some n) names)
    = (position-Some (states name) (map (λ n. Some n) names) k None is).0 in
    omega (arith, within, length-map names (λ (n : List ℕ). Some n))

-- texts by slices are texts by their bytes
pub names_are_texts : (keys : List (Bor (List ℕ))) (names : List (List ℕ)) → names_of keys ≡ names
    → list_all (λ (k : Bor (List ℕ)). is_text k.now) keys ≡ list_all is_text names
names_are_texts keys names is =
    sym (list_all-map is_text (λ (k : Bor (List ℕ)). k.now) keys) ∙ ap (list_all is_text) is
