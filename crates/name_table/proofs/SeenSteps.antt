-- Names without repeats, with one more name.
use Rattle.std.proofs.Common.{◌≡◌, ℕ, Bool, true, false, cond, not, ◌||◌, List, [], ◌∷◌, ◌++◌, map}
use Rattle.std.proofs.Common.{filter, refl, sym, ap, ◌∙◌, append-nil}
use Rattle.std.specs.List.{list_any}
use Rattle.std.specs.Str.{bytes_eq}
use Rattle.std.proofs.lemmas.Cmp.{nat_list_eq_equiv}
use Rattle.std.proofs.lemmas.List.Elements.{filter-append}
use Rattle.std.proofs.lemmas.List.Folds.{list_any-append}
use Rattle.indexmap.specs.IndexSet.{insert_key}
use Rattle.name_table.specs.FirstSeen.{first_seen, is_among, with_name}

abbrev is_other : List ℕ → List ℕ → Bool
is_other x y = not (bytes_eq y x)

-- one item more is looked at, where another is left out
any-later : (x y o : List ℕ) (os : List (List ℕ)) → bytes_eq y x ≡ false
    → list_any (bytes_eq y) (filter (is_other x) os) ≡ list_any (bytes_eq y) os → (b : Bool)
    → bytes_eq o x ≡ b
    → list_any (bytes_eq y)
    (cond (not (bytes_eq o x)) (o ∷ filter (is_other x) os) (filter (is_other x) os))
    ≡ bytes_eq y o || list_any (bytes_eq y) os
any-later x y o os apart later true same =
    let gone : bytes_eq y o ≡ false
    = nat_list_eq_equiv.symm y o ∙ nat_list_eq_equiv.congr o x y same
    ∙ nat_list_eq_equiv.symm x y ∙ apart in
    ap (λ b. list_any (bytes_eq y)
    (cond (not b) (o ∷ filter (is_other x) os) (filter (is_other x) os))) same
    ∙ later ∙ ap (λ b. b || list_any (bytes_eq y) os) (sym gone)
any-later x y o os apart later false kept =
    ap (λ b. list_any (bytes_eq y)
    (cond (not b) (o ∷ filter (is_other x) os) (filter (is_other x) os))) kept
    ∙ ap (λ b. bytes_eq y o || b) later

-- leaving another item out changes nothing for this one
any-others : (x y : List ℕ) → bytes_eq y x ≡ false → (xs : List (List ℕ))
    → list_any (bytes_eq y) (filter (is_other x) xs) ≡ list_any (bytes_eq y) xs
any-others x y apart [] = refl
any-others x y apart (o ∷ os) =
    any-later x y o os apart (any-others x y apart os) (bytes_eq o x) refl

-- the others of the items seen, and one item more
seen-later : (x y : List ℕ) (seen : List (List ℕ)) (b : Bool) → bytes_eq y x ≡ b → (r : Bool)
    → list_any (bytes_eq y) seen ≡ r
    → x ∷ filter (is_other x) (cond (list_any (bytes_eq y) seen) seen (seen ++ y ∷ []))
    ≡ cond (bytes_eq y x || list_any (bytes_eq y) (filter (is_other x) seen))
    (x ∷ filter (is_other x) seen) (x ∷ filter (is_other x) seen ++ y ∷ [])
seen-later x y seen true same r any =
    ap (λ l. x ∷ l) (by r any)
    ∙ sym (ap (λ b. cond (b || list_any (bytes_eq y) (filter (is_other x) seen))
    (x ∷ filter (is_other x) seen) (x ∷ filter (is_other x) seen ++ y ∷ [])) same)
  where
    by : (r : Bool) → list_any (bytes_eq y) seen ≡ r
        → filter (is_other x) (cond (list_any (bytes_eq y) seen) seen (seen ++ y ∷ []))
        ≡ filter (is_other x) seen
    by true any = ap (λ b. filter (is_other x) (cond b seen (seen ++ y ∷ []))) any
    by false any =
        ap (λ b. filter (is_other x) (cond b seen (seen ++ y ∷ []))) any
        ∙ filter-append (is_other x) seen (y ∷ [])
        ∙ ap (λ b. filter (is_other x) seen ++ cond (not b) (y ∷ []) []) same
        ∙ append-nil (filter (is_other x) seen)
seen-later x y seen false apart r any =
    by r any
    ∙ sym (ap
    (λ b. cond b (x ∷ filter (is_other x) seen) (x ∷ filter (is_other x) seen ++ y ∷ []))
    tested)
  where
    tested : bytes_eq y x || list_any (bytes_eq y) (filter (is_other x) seen)
        ≡ list_any (bytes_eq y) seen
    tested
        = ap (λ b. b || list_any (bytes_eq y) (filter (is_other x) seen)) apart
        ∙ any-others x y apart seen

    by : (r : Bool) → list_any (bytes_eq y) seen ≡ r
        → x ∷ filter (is_other x) (cond (list_any (bytes_eq y) seen) seen (seen ++ y ∷ []))
        ≡ cond (list_any (bytes_eq y) seen) (x ∷ filter (is_other x) seen)
        (x ∷ filter (is_other x) seen ++ y ∷ [])
    by true any =
        ap (λ b. x ∷ filter (is_other x) (cond b seen (seen ++ y ∷ []))) any
        ∙ sym (ap
        (λ b. cond b (x ∷ filter (is_other x) seen) (x ∷ filter (is_other x) seen ++ y ∷ []))
        any)
    by false any =
        ap (λ b. x ∷ filter (is_other x) (cond b seen (seen ++ y ∷ []))) any
        ∙ ap (λ l. x ∷ l)
        (filter-append (is_other x) seen (y ∷ [])
        ∙ ap (λ b. filter (is_other x) seen ++ cond (not b) (y ∷ []) []) apart)
        ∙ sym (ap
        (λ b. cond b (x ∷ filter (is_other x) seen) (x ∷ filter (is_other x) seen ++ y ∷ []))
        any)

-- one item more: it is new, or a repeat
pub first_seen-push : (xs : List (List ℕ)) (y : List ℕ)
    → first_seen (xs ++ y ∷ [])
    ≡ cond (list_any (bytes_eq y) (first_seen xs)) (first_seen xs) (first_seen xs ++ y ∷ [])
first_seen-push [] y = refl
first_seen-push (x ∷ xs) y =
    ap (λ l. x ∷ filter (is_other x) l) (first_seen-push xs y)
    ∙ seen-later x y (first_seen xs) (bytes_eq y x) refl (list_any (bytes_eq y) (first_seen xs))
    refl

-- names by the keys that they stand in
module _ {K : Type 0} (bytes : K → List ℕ) where
  pub any-shown : (name : List ℕ) (ks : List K)
      → list_any (bytes_eq name) (map bytes ks) ≡ list_any (λ k. bytes_eq name (bytes k)) ks
  any-shown name [] = refl
  any-shown name (k ∷ ks) = ap (λ b. bytes_eq name (bytes k) || b) (any-shown name ks)

  shown-push : (ks : List K) (k : K) → map bytes (ks ++ k ∷ []) ≡ map bytes ks ++ bytes k ∷ []
  shown-push [] k = refl
  shown-push (x ∷ ks) k = ap (λ l. bytes x ∷ l) (shown-push ks k)

  -- the names of some keys after one more is put in
  keys-put : (ks : List K) (k : K)
      → map bytes (insert_key (λ x y. bytes_eq (bytes x) (bytes y)) ks k)
      ≡ with_name (map bytes ks) (bytes k)
  keys-put ks k = by (list_any (λ y. bytes_eq (bytes k) (bytes y)) ks) refl
    where
      by : (b : Bool) → list_any (λ y. bytes_eq (bytes k) (bytes y)) ks ≡ b
          → map bytes (cond (list_any (λ y. bytes_eq (bytes k) (bytes y)) ks) ks (ks ++ k ∷ []))
          ≡ cond (list_any (bytes_eq (bytes k)) (map bytes ks)) (map bytes ks)
          (map bytes ks ++ bytes k ∷ [])
      by true is =
          ap (λ b. map bytes (cond b ks (ks ++ k ∷ []))) is
          ∙ sym (ap (λ b. cond b (map bytes ks) (map bytes ks ++ bytes k ∷ []))
          (any-shown (bytes k) ks ∙ is))
      by false is =
          ap (λ b. map bytes (cond b ks (ks ++ k ∷ []))) is
          ∙ shown-push ks k
          ∙ sym (ap (λ b. cond b (map bytes ks) (map bytes ks ++ bytes k ∷ []))
          (any-shown (bytes k) ks ∙ is))

  -- a set's names after one more is put in, by the keys of the map that it stands in
  pub with_name-put : (ks new : List K) (k : K)
      → new ≡ insert_key (λ x y. bytes_eq (bytes x) (bytes y)) ks k
      → map bytes new ≡ with_name (map bytes ks) (bytes k)
  with_name-put ks new k put = ap (map bytes) put ∙ keys-put ks k

pub seen_with_name : (names seen : List (List ℕ)) (name : List ℕ) → seen ≡ first_seen names
    → with_name seen name ≡ first_seen (names ++ name ∷ [])
seen_with_name names seen name is = ap (λ l. with_name l name) is ∙ sym (first_seen-push names name)

-- equal names are among the same
among-same : (names : List (List ℕ)) (name other : List ℕ) → bytes_eq other name ≡ true
    → is_among names other ≡ is_among names name
among-same [] name other same = refl
among-same (n ∷ ns) name other same =
    λ i. nat_list_eq_equiv.congr other name n same i || among-same ns name other same i

-- another name is among the names with one more
among-put : (names : List (List ℕ)) (name other : List ℕ) (known : Bool)
    → is_among names name ≡ known → (same : Bool) → bytes_eq other name ≡ same
    → is_among (cond known names (names ++ name ∷ [])) other ≡ is_among names other || same
among-put names name other true there true same =
    let other_there : is_among names other ≡ true = among-same names name other same ∙ there in
    rw other_there refl
among-put names name other true there false apart = either (is_among names other)
  where
    either : (b : Bool) → b ≡ b || false
    either true = refl
    either false = refl
among-put names name other false new t same =
    list_any-append (bytes_eq other) names (name ∷ [])
    ∙ ap (λ b. is_among names other || (b || false)) same ∙ last (is_among names other) t
  where
    last : (b t : Bool) → b || (t || false) ≡ b || t
    last true t = refl
    last false true = refl
    last false false = refl

pub among_with_name : (names : List (List ℕ)) (name other : List ℕ)
    → is_among (with_name names name) other ≡ is_among names other || bytes_eq other name
among_with_name names name other = by (is_among names name) refl
  where
    by : (known : Bool) → is_among names name ≡ known
        → is_among (with_name names name) other ≡ is_among names other || bytes_eq other name
    by known is
        = ap (λ b. is_among (cond b names (names ++ name ∷ [])) other) is
        ∙ among-put names name other known is (bytes_eq other name) refl
