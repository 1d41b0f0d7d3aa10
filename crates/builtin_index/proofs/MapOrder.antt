-- The order in which values are put into a map matters only for values of one priority.
use Rattle.std.proofs.Common.{◌≡◌, ℕ, ◌<◌, ◌+◌, Bool, true, false, ◌&&◌, cond, nat_le, List, []}
use Rattle.std.proofs.Common.{◌∷◌, ◌++◌, length, map, take, get_or, Option, Some, None, option_map}
use Rattle.std.proofs.Common.{refl, sym, ap, ◌∙◌, subst, arith, All}
use Rattle.std.specs.Prelude.{nat_lt, unwrap_or}
use Rattle.std.specs.declared.cmp.Ordering.{Ordering}
use Rattle.std.specs.declared.cmp.Ordering.TheVariants.{Less, Equal, Greater}
use Rattle.std.specs.Ordering.{nat_cmp, is_eq, eq_by_cmp}
use Rattle.std.specs.Cmp.Lexicographic.{slice_cmp, nat_list_cmp_total}
use Rattle.std.specs.Cmp.{eq_by_cmp_equiv}
use Rattle.std.specs.List.{list_all, filter_map, cons_option}
use Rattle.std.specs.Option.{option_to_list}
use Rattle.std.proofs.lemmas.List.{take_more, map-append}
use Rattle.std.proofs.lemmas.List.Sums.{fold-append}
use Rattle.std.specs.List.Sorted.{IsSortedByKey, IsStableByKey}
use Rattle.std.specs.FinMap.{empty, get, get-insert, same_map, nat_cmp-IsAntisymmetric}
use Rattle.std.specs.FinMap.{slice_cmp-IsAntisymmetric}
use Rattle.std.proofs.lemmas.Bool.Decides.{nat_tests}
use Rattle.std.proofs.lemmas.List.Elements.{filter_map-append, All-nil, All-cons, All-head}
use Rattle.std.proofs.lemmas.List.Elements.{All-tail}
use Rattle.km_names.specs.AliasForm.{normal_alias}
use Rattle.index_format.specs.Map.{Value, KeyValues, values_of, place, with_value}
use Rattle.index_format.specs.Listing.{KeyValue}
use Rattle.index_format.proofs.StableOrder.{insert_by, sorted_by, stable-sorted_by}
use Rattle.builtin_index.specs.declared.aliases.Stated.{Stated}
use Rattle.index_format.specs.Listing.{with_values}
use Rattle.builtin_index.specs.Parts.{alias_shown, value_at, IsWord}

-- ---- two values of one key

abbrev pub more : ℕ → List Value → Bool
more p vs = list_all (λ y. nat_lt p y.0) vs

swapped-tests : (a b d : Bool) → (a && (b && d)) ≡ (b && (a && d))
swapped-tests true true d = refl
swapped-tests true false d = refl
swapped-tests false true d = refl
swapped-tests false false d = refl

never : (a b d : Bool) → b ≡ false → (a && (b && d)) ≡ false
never true b d h = ap (λ x. x && d) h
never false b d h = refl

more-place : (p : ℕ) (vs : List Value) (v : Value)
    → more p (place vs v) ≡ (nat_lt p v.0 && more p vs)
more-place p [] v = refl
more-place p (x ∷ xs) v =
    elim (more v.0 (x ∷ xs)) as
    (λ b. more p (cond b (v ∷ x ∷ xs) (x ∷ place xs v)) ≡ (nat_lt p v.0 && more p (x ∷ xs))) [
      | true ↦ refl
      | false ↦ ap (λ t. nat_lt p x.0 && t) (more-place p xs v)
          ∙ swapped-tests (nat_lt p x.0) (nat_lt p v.0) (more p xs)
    ]

pub both-parts : (a b : Bool) → (a && b) ≡ true → (a ≡ true) × (b ≡ true)
both-parts true b h = (refl, h)
both-parts false b h = absurd (cc)

less-test : (p q x : ℕ) → p < q → nat_lt q x ≡ true → nat_lt p x ≡ true
less-test p q x low h = grind (arith, nat_tests)

is-less : (p q : ℕ) → p < q → nat_lt p q ≡ true
is-less p q low = grind (arith, nat_tests)

is-not-less : (p q : ℕ) → p < q → nat_lt q p ≡ false
is-not-less p q low = grind (arith, nat_tests)

more-less : (p q : ℕ) (vs : List Value) → p < q → more q vs ≡ true → more p vs ≡ true
more-less p q [] low h = refl
more-less p q (x ∷ xs) low h =
    let parts = both-parts (nat_lt q x.0) (more q xs) h in
    ap (λ b. b && more p xs) (less-test p q x.0 low parts.0) ∙ more-less p q xs low parts.1

placed-both : (vs : List Value) (u w : Value) → u.0 < w.0
    → place (place vs u) w ≡ place (place vs w) u
placed-both [] u w low =
    ap (λ b. cond (b && true) (w ∷ u ∷ []) (u ∷ w ∷ [])) (is-not-less u.0 w.0 low)
    ∙ sym (ap (λ b. cond (b && true) (u ∷ w ∷ []) (w ∷ u ∷ [])) (is-less u.0 w.0 low))
placed-both (x ∷ xs) u w low =
    go (more u.0 (x ∷ xs)) (more w.0 (x ∷ xs)) refl refl (placed-both xs u w low)
  where
    go : (b d : Bool) → more u.0 (x ∷ xs) ≡ b → more w.0 (x ∷ xs) ≡ d
        → place (place xs u) w ≡ place (place xs w) u
        → place (cond b (u ∷ x ∷ xs) (x ∷ place xs u)) w
        ≡ place (cond d (w ∷ x ∷ xs) (x ∷ place xs w)) u
    go true true p q later =
        ap (λ t. cond (t && more w.0 (x ∷ xs)) (w ∷ u ∷ x ∷ xs) (u ∷ place (x ∷ xs) w))
        (is-not-less u.0 w.0 low)
        ∙ ap (λ t. u ∷ cond t (w ∷ x ∷ xs) (x ∷ place xs w)) q
        ∙ sym (ap (λ t. cond (t && more u.0 (x ∷ xs)) (u ∷ w ∷ x ∷ xs) (w ∷ place (x ∷ xs) u))
        (is-less u.0 w.0 low)
        ∙ ap (λ t. cond t (u ∷ w ∷ x ∷ xs) (w ∷ place (x ∷ xs) u)) p)
    go true false p q later =
        let tests : (nat_lt u.0 x.0 && more u.0 (place xs w)) ≡ true
        = ap (λ t. nat_lt u.0 x.0 && t)
        (more-place u.0 xs w ∙ ap (λ t. t && more u.0 xs) (is-less u.0 w.0 low))
        ∙ p in
        ap (λ t. cond (t && more w.0 (x ∷ xs)) (w ∷ u ∷ x ∷ xs) (u ∷ place (x ∷ xs) w))
        (is-not-less u.0 w.0 low)
        ∙ ap (λ t. u ∷ cond t (w ∷ x ∷ xs) (x ∷ place xs w)) q
        ∙ sym (ap (λ t. cond t (u ∷ x ∷ place xs w) (x ∷ place (place xs w) u)) tests)
    go false true p q later =
        let clash : false ≡ true = sym p ∙ more-less u.0 w.0 (x ∷ xs) low q in
        absurd (cc)
    go false false p q later =
        let none : (nat_lt w.0 x.0 && more w.0 (place xs u)) ≡ false
        = ap (λ t. nat_lt w.0 x.0 && t) (more-place w.0 xs u)
        ∙ never (nat_lt w.0 x.0) (nat_lt w.0 u.0) (more w.0 xs) (is-not-less u.0 w.0 low) in
        let other : (nat_lt u.0 x.0 && more u.0 (place xs w)) ≡ false
        = ap (λ t. nat_lt u.0 x.0 && t)
        (more-place u.0 xs w ∙ ap (λ t. t && more u.0 xs) (is-less u.0 w.0 low))
        ∙ p in
        ap (λ t. cond t (w ∷ x ∷ place xs u) (x ∷ place (place xs u) w)) none
        ∙ ap (λ vs. x ∷ vs) later
        ∙ sym (ap (λ t. cond t (u ∷ x ∷ place xs w) (x ∷ place (place xs w) u)) other)

-- ---- two values of a map

abbrev pub same_key : List ℕ → List ℕ → Bool
same_key x y = eq_by_cmp (slice_cmp nat_cmp) x y

pub key-equal : (x y : List ℕ) → same_key x y ≡ true → x ≡ y
key-equal x y h = go (slice_cmp nat_cmp x y) refl h
  where
    go : (r : Ordering) → slice_cmp nat_cmp x y ≡ r → is_eq r ≡ true → x ≡ y
    go Less e k = absurd (cc)
    go Equal e k = slice_cmp-IsAntisymmetric nat_cmp-IsAntisymmetric x y e
    go Greater e k = absurd (cc)

key-same : (x : List ℕ) → same_key x x ≡ true
key-same x = (eq_by_cmp_equiv nat_list_cmp_total).refl x

-- what a key has after one value, and after two
after-one : (m : KeyValues) (k q : List ℕ) (v : Value)
    → get (with_value m k v) q ≡ cond (same_key q k) (Some (place (values_of m k) v)) (get m q)
after-one m k q v = get-insert nat_list_cmp_total m k (place (values_of m k) v) q

pub values-after : (m : KeyValues) (k q : List ℕ) (v : Value)
    → values_of (with_value m k v) q
    ≡ unwrap_or (cond (same_key q k) (Some (place (values_of m k) v)) (get m q)) []
values-after m k q v = ap (λ o. unwrap_or o []) (after-one m k q v)

after-two : (m : KeyValues) (k l q : List ℕ) (v w : Value)
    → get (with_value (with_value m k v) l w) q
    ≡ cond (same_key q l)
    (Some (place
    (unwrap_or (cond (same_key l k) (Some (place (values_of m k) v)) (get m l)) []) w))
    (cond (same_key q k) (Some (place (values_of m k) v)) (get m q))
after-two m k l q v w =
    after-one (with_value m k v) l q w
    ∙ (λ i. cond (same_key q l) (Some (place (values-after m k l v i) w)) (after-one m k q v i))

-- of one key
one-key : (m : KeyValues) (k q : List ℕ) (v w : Value)
    → get (with_value (with_value m k v) k w) q
    ≡ cond (same_key q k) (Some (place (place (values_of m k) v) w)) (get m q)
one-key m k q v w =
    after-two m k k q v w
    ∙ ap (λ b. cond (same_key q k)
    (Some (place (unwrap_or (cond b (Some (place (values_of m k) v)) (get m k)) []) w))
    (cond (same_key q k) (Some (place (values_of m k) v)) (get m q))) (key-same k)
    ∙ over (same_key q k)
  where
    over : (b : Bool)
        → cond b (Some (place (place (values_of m k) v) w))
        (cond b (Some (place (values_of m k) v)) (get m q))
        ≡ cond b (Some (place (place (values_of m k) v) w)) (get m q)
    over true = refl
    over false = refl

-- of two keys
two-keys : (m : KeyValues) (k l q : List ℕ) (v w : Value) → same_key l k ≡ false
    → get (with_value (with_value m k v) l w) q
    ≡ cond (same_key q l) (Some (place (values_of m l) w))
    (cond (same_key q k) (Some (place (values_of m k) v)) (get m q))
two-keys m k l q v w apart =
    after-two m k l q v w
    ∙ ap (λ b. cond (same_key q l)
    (Some (place (unwrap_or (cond b (Some (place (values_of m k) v)) (get m l)) []) w))
    (cond (same_key q k) (Some (place (values_of m k) v)) (get m q))) apart

either-way : {X : Type 0} (a b : Bool) (x y z : X) → (a ≡ true → b ≡ true → ⊥)
    → cond a x (cond b y z) ≡ cond b y (cond a x z)
either-way true true x y z apart = absurd (apart refl refl)
either-way true false x y z apart = refl
either-way false true x y z apart = refl
either-way false false x y z apart = refl

-- two values of different priorities may be put in in either order
values-swap : (m : KeyValues) (k l : List ℕ) (v w : Value) → v.0 < w.0
    → with_value (with_value m k v) l w ≡ with_value (with_value m l w) k v
values-swap m k l v w low = go (same_key l k) refl
  where
    go : (b : Bool) → same_key l k ≡ b
        → with_value (with_value m k v) l w ≡ with_value (with_value m l w) k v
    go true is =
        let same : k ≡ l = sym (key-equal l k is) in
        subst (λ x. with_value (with_value m k v) x w ≡ with_value (with_value m x w) k v) same
        (same_map nat_list_cmp_total (slice_cmp-IsAntisymmetric nat_cmp-IsAntisymmetric) _ _
        (λ q.
        one-key m k q v w
        ∙ ap (λ vs. cond (same_key q k) (Some vs) (get m q)) (placed-both (values_of m k) v w low)
        ∙ sym (one-key m k q w v)))
    go false apart =
        let other : same_key k l ≡ false = (eq_by_cmp_equiv nat_list_cmp_total).symm k l ∙ apart in
        same_map nat_list_cmp_total (slice_cmp-IsAntisymmetric nat_cmp-IsAntisymmetric) _ _
        (λ q.
        two-keys m k l q v w apart
        ∙ either-way (same_key q l) (same_key q k) (Some (place (values_of m l) w))
        (Some (place (values_of m k) v)) (get m q)
        (λ one two.
        let met : false ≡ true
        = sym apart ∙ ap (λ x. same_key x k) (sym (key-equal q l one)) ∙ two in
        cc)
        ∙ sym (two-keys m l k q w v other))

-- ---- aliases by the places of their modules

abbrev at : Stated → ℕ
at stated = stated.place

abbrev values : List Stated → List KeyValue
values list = filter_map value_at (map alias_shown list)

-- the value of an alias, by its normal form
abbrev value : Stated → Option (List ℕ) → Option KeyValue
value s o = option_map (λ key. (key, (at s, (alias_shown s).1))) o

more-test : (a b : ℕ) → nat_le a b ≡ false → b < a
more-test a b e = grind (arith, nat_tests)

-- one that goes behind another of a lower place
gone-behind : (m : KeyValues) (x y : Stated) (ys : List Stated) → at y < at x
    → ((n : KeyValues)
    → with_values n (values (insert_by at x ys)) ≡ with_values n (values (x ∷ ys)))
    → with_values m (values (y ∷ insert_by at x ys)) ≡ with_values m (values (x ∷ y ∷ ys))
gone-behind m x y ys low later = go (normal_alias y.alias.now) (normal_alias x.alias.now) refl refl
  where
    go : (o p : Option (List ℕ)) → normal_alias y.alias.now ≡ o → normal_alias x.alias.now ≡ p
        → with_values m
        (cons_option (value y (normal_alias y.alias.now)) (values (insert_by at x ys)))
        ≡ with_values m
        (cons_option (value x (normal_alias x.alias.now))
        (cons_option (value y (normal_alias y.alias.now)) (values ys)))
    go None p e f =
        ap (λ o. with_values m (cons_option (value y o) (values (insert_by at x ys)))) e
        ∙ later m
        ∙ ap (λ o. with_values m
        (cons_option (value x (normal_alias x.alias.now))
        (cons_option (value y o) (values ys)))) (sym e)
    go (Some k) None e f =
        let n = with_value m k (at y, (alias_shown y).1) in
        ap (λ o. with_values m (cons_option (value y o) (values (insert_by at x ys)))) e
        ∙ later n
        ∙ ap (λ p. with_values n (cons_option (value x p) (values ys))) f
        ∙ sym (
        ap (λ p. with_values m
        (cons_option (value x p)
        (cons_option (value y (normal_alias y.alias.now)) (values ys)))) f
        ∙ ap (λ o. with_values m (cons_option (value y o) (values ys))) e)
    go (Some k) (Some l) e f =
        let n = with_value m k (at y, (alias_shown y).1) in
        ap (λ o. with_values m (cons_option (value y o) (values (insert_by at x ys)))) e
        ∙ later n
        ∙ ap (λ p. with_values n (cons_option (value x p) (values ys))) f
        ∙ ap (λ u. with_values u (values ys))
        (values-swap m k l (at y, (alias_shown y).1) (at x, (alias_shown x).1) low)
        ∙ sym (
        ap (λ p. with_values m
        (cons_option (value x p)
        (cons_option (value y (normal_alias y.alias.now)) (values ys)))) f
        ∙ ap (λ o. with_values (with_value m l (at x, (alias_shown x).1))
        (cons_option (value y o) (values ys))) e)

insert-same : (x : Stated) (ys : List Stated) (m : KeyValues)
    → with_values m (values (insert_by at x ys)) ≡ with_values m (values (x ∷ ys))
insert-same x [] m = refl
insert-same x (y ∷ ys) m =
    elim (nat_le (at x) (at y)) as
    (λ t. nat_le (at x) (at y) ≡ t
    → with_values m (values (cond t (x ∷ y ∷ ys) (y ∷ insert_by at x ys)))
    ≡ with_values m (values (x ∷ y ∷ ys))) [
      | true ↦ λ _. refl
      | false ↦ λ e. gone-behind m x y ys (more-test (at x) (at y) e) (insert-same x ys)
    ] refl

front-same : (m : KeyValues) (x : Stated) (xs ys : List Stated)
    → ((n : KeyValues) → with_values n (values xs) ≡ with_values n (values ys))
    → with_values m (values (x ∷ xs)) ≡ with_values m (values (x ∷ ys))
front-same m x xs ys same =
    elim (value_at (alias_shown x)) as
    (λ o. with_values m (cons_option o (values xs)) ≡ with_values m (cons_option o (values ys))) [
      | None ↦ same m
      | Some v ↦ same (with_value m v.0 v.1)
    ]

sorted-same : (list : List Stated) (m : KeyValues)
    → with_values m (values (sorted_by at list)) ≡ with_values m (values list)
sorted-same [] m = refl
sorted-same (x ∷ xs) m =
    insert-same x (sorted_by at xs) m ∙ front-same m x (sorted_by at xs) xs (sorted-same xs)

-- what a stable sort by the places leaves has the same values
abbrev with_place : ℕ → Stated
with_place p =
    record {
      place = p;
      «module» = record { ref_ptr = (0, 0); now = [] };
      alias = record { ref_ptr = (0, 0); now = [] };
    }

sorted-is : (before after : List Stated) → IsSortedByKey at nat_cmp after
    → IsStableByKey at nat_cmp before after → after ≡ sorted_by at before
sorted-is before after rises stable =
    stable-sorted_by at with_place (λ p. refl) before after rises stable

pub sorted-values : (before after : List Stated) (m : KeyValues) → IsSortedByKey at nat_cmp after
    → IsStableByKey at nat_cmp before after
    → with_values m (values after) ≡ with_values m (values before)
sorted-values before after m rises stable =
    ap (λ l. with_values m (values l)) (sorted-is before after rises stable) ∙ sorted-same before m

-- and the same words
words-insert : (x : Stated) (ys : List Stated) → IsWord x → All IsWord ys
    → All IsWord (insert_by at x ys)
words-insert x [] one all = All-cons IsWord x [] one all
words-insert x (y ∷ ys) one all =
    elim (nat_le (at x) (at y)) as (λ t. All IsWord (cond t (x ∷ y ∷ ys) (y ∷ insert_by at x ys))) [
      | true ↦ All-cons IsWord x (y ∷ ys) one all
      | false ↦ All-cons IsWord y (insert_by at x ys) (All-head IsWord y ys all)
          (words-insert x ys one (All-tail IsWord y ys all))
    ]

words-sorted : (list : List Stated) → All IsWord list → All IsWord (sorted_by at list)
words-sorted [] all = All-nil IsWord
words-sorted (x ∷ xs) all =
    words-insert x (sorted_by at xs) (All-head IsWord x xs all)
    (words-sorted xs (All-tail IsWord x xs all))

pub sorted-words : (before after : List Stated) → IsSortedByKey at nat_cmp after
    → IsStableByKey at nat_cmp before after → All IsWord before → All IsWord after
sorted-words before after rises stable all =
    subst (All IsWord) (sym (sorted-is before after rises stable)) (words-sorted before all)

-- the values of one alias more
one-value : (o : Option KeyValue) → cons_option o [] ≡ option_to_list o
one-value None = refl
one-value (Some v) = refl

values-more : (list : List Stated) (i : ℕ) (d : Stated) → i < length list
    → values (take i list) ++ option_to_list (value_at (alias_shown (get_or list i d)))
    ≡ values (take (i + 1) list)
values-more list i d inside =
    let x = get_or list i d in
    sym (
    ap values (take_more list i d inside)
    ∙ ap (filter_map value_at) (map-append alias_shown (take i list) (x ∷ []))
    ∙ filter_map-append value_at (map alias_shown (take i list)) (alias_shown x ∷ [])
    ∙ ap (λ vs. values (take i list) ++ vs) (one-value (value_at (alias_shown x))))

-- the map of one alias more
with_values-append : (m : KeyValues) (xs ys : List KeyValue)
    → with_values m (xs ++ ys) ≡ with_values (with_values m xs) ys
with_values-append m xs ys =
    fold-append (λ (before : KeyValues) (value : KeyValue). with_value before value.0 value.1) m xs
    ys

pub map-more : (list : List Stated) (i : ℕ) (d : Stated) (m next : KeyValues) → i < length list
    → m ≡ with_values empty (values (take i list))
    → next ≡ with_values m (option_to_list (value_at (alias_shown (get_or list i d))))
    → next ≡ with_values empty (values (take (i + 1) list))
map-more list i d m next inside before after =
    let one = option_to_list (value_at (alias_shown (get_or list i d))) in
    after
    ∙ ap (λ u. with_values u one) before
    ∙ sym (with_values-append empty (values (take i list)) one)
    ∙ ap (with_values empty) (values-more list i d inside)
