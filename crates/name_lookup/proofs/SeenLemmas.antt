-- A list in which each name stands once serves as the whole one.
use Rattle.std.proofs.Common.{◌≡◌, refl, sym, ap, ◌∙◌, ℕ, ◌+◌, ◌==◌, Bool, true, false, cond, not}
use Rattle.std.proofs.Common.{List, [], ◌∷◌, ◌++◌, length, filter, take, drop, arith}
use Rattle.std.proofs.lemmas.Bool.{ne_eqb}
use Rattle.std.specs.Str.{bytes_eq}
use Rattle.std.proofs.lemmas.Slice.Eq.{bytes_eq-Decides}
use Rattle.index_read.proofs.RepeatLemmas.{filter-swap, filter-twice}
use Rattle.index_read.specs.Contents.{wild_values}
use Rattle.modprobe_conf.specs.declared.rule.Rule.{Rule}
use Rattle.name_table.specs.FirstSeen.{first_seen}
use Rattle.name_lookup.specs.Maps.{Maps, texts}
use Rattle.name_lookup.specs.Found.{first_list, is_dropped, kept, lists}
use Rattle.name_lookup.specs.Seen.{seen_lists}

abbrev is_other : List ℕ → List ℕ → Bool
is_other x y = not (bytes_eq y x)

-- What fails a test needn't be left out before.
fails : (p : List ℕ → Bool) (y : List ℕ) → p y ≡ false → (xs : List (List ℕ))
    → filter p (filter (is_other y) xs) ≡ filter p xs
fails p y failed [] = refl
fails p y failed (x ∷ xs) =
    elim (bytes_eq x y) as
    (λ t. bytes_eq x y ≡ t
    → filter p (cond (not t) (x ∷ filter (is_other y) xs) (filter (is_other y) xs))
    ≡ cond (p x) (x ∷ filter p xs) (filter p xs)) [
      | true ↦ λ e.
          let same : x ≡ y = (bytes_eq-Decides x y).0 e in
          fails p y failed xs
          ∙ sym (ap (λ t. cond t (x ∷ filter p xs) (filter p xs)) (ap p same ∙ failed))
      | false ↦ λ e. ap (λ l. cond (p x) (x ∷ l) l) (fails p y failed xs)
    ] refl

seen-filter : (p : List ℕ → Bool) (xs : List (List ℕ))
    → first_seen (filter p xs) ≡ filter p (first_seen xs)
seen-filter p [] = refl
seen-filter p (x ∷ xs) =
    elim (p x) as
    (λ t. p x ≡ t → first_seen (cond t (x ∷ filter p xs) (filter p xs))
    ≡ cond t (x ∷ filter p (filter (is_other x) (first_seen xs)))
    (filter p (filter (is_other x) (first_seen xs)))) [
      | true ↦ λ e. ap (λ l. x ∷ l)
          (ap (filter (is_other x)) (seen-filter p xs) ∙ filter-swap (is_other x) p (first_seen xs))
      | false ↦ λ e. seen-filter p xs ∙ sym (fails p x e (first_seen xs))
    ] refl

pub seen-twice : (xs : List (List ℕ)) → first_seen (first_seen xs) ≡ first_seen xs
seen-twice [] = refl
seen-twice (x ∷ xs) =
    ap (λ l. x ∷ l)
    (ap (filter (is_other x)) (seen-filter (is_other x) (first_seen xs))
    ∙ filter-twice (is_other x) (first_seen (first_seen xs))
    ∙ ap (filter (is_other x)) (seen-twice xs))

some : (x : List ℕ) (xs : List (List ℕ)) → (length (x ∷ xs) == 0) ≡ false
some x xs = ne_eqb (length (x ∷ xs)) 0 (λ e. absurd (omega (arith, e)))

kept_first : (rules : List Rule) (everywhere : Bool) (n : ℕ) (before : List (List (List ℕ)))
    (l : List (List ℕ)) (after : List (List (List ℕ)))
    → kept rules everywhere (first_list n (before ++ first_seen l ∷ after))
    ≡ kept rules everywhere (first_list n (before ++ l ∷ after))
kept_first rules everywhere n [] [] after = refl
kept_first rules everywhere n [] (y ∷ ys) after =
    let seen = filter (is_other y) (first_seen ys) in
    ap (λ t. kept rules everywhere
    (cond t (first_list (n + 1) after) (record { list = n; names = y ∷ seen }))) (some y seen)
    ∙ ap (λ names. record {
      list = n;
      names = filter (λ name. not (is_dropped rules everywhere n name)) names;
    }) (seen-twice (y ∷ ys))
    ∙ sym (ap (λ t. kept rules everywhere
    (cond t (first_list (n + 1) after) (record { list = n; names = y ∷ ys }))) (some y ys))
kept_first rules everywhere n (first ∷ rest) l after =
    elim (length first == 0) as
    (λ t. kept rules everywhere
    (cond t (first_list (n + 1) (rest ++ first_seen l ∷ after))
    (record { list = n; names = first }))
    ≡ kept rules everywhere
    (cond t (first_list (n + 1) (rest ++ l ∷ after)) (record { list = n; names = first }))) [
      | true ↦ kept_first rules everywhere (n + 1) rest l after
      | false ↦ refl
    ]

pub kept-seen : (rules : List Rule) (maps : Maps) (everywhere : Bool) (x : List ℕ)
    → kept rules everywhere (first_list 1 (seen_lists rules maps x))
    ≡ kept rules everywhere (first_list 1 (lists rules maps x))
kept-seen rules maps everywhere x =
    kept_first rules everywhere 1 (take 4 (lists rules maps x)) (texts (wild_values maps.alias x))
    (drop 5 (lists rules maps x))
