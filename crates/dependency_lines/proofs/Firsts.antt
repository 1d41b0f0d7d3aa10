-- The first values of an index are the modules of its map.
use Rattle.std.proofs.Common.{◌≡◌, ℕ, suc, ◌+◌, Bool, true, false, cond, List, [], ◌∷◌, ◌++◌}
use Rattle.std.proofs.Common.{length, map, take, flat_map, Some, None, unwrap_or, refl, sym, ap}
use Rattle.std.proofs.Common.{◌∙◌, subst, arith}
use Rattle.std.specs.Prelude.{T, ◌||◌, ◌==◌, not, is_some, slice_get, nat_lt, nat_le}
use Rattle.std.specs.List.{list_any, position, position_or_len}
use Rattle.std.specs.Str.{bytes_eq}
use Rattle.std.specs.Ordering.{is_eq, is_lt}
use Rattle.std.specs.declared.cmp.Ordering.{Ordering}
use Rattle.std.specs.declared.cmp.Ordering.TheVariants.{Less, Equal, Greater}
use Rattle.std.specs.FinMap.Entries.{below_all}
use Rattle.std.specs.FinMap.{entries, find, is_sorted, entries_sorted, get-entries}
use Rattle.std.proofs.lemmas.Slice.Eq.{bytes_eq-Decides}
use Rattle.std.proofs.lemmas.Bool.{true≢false, and_parts, and_from, lt-ltb}
use Rattle.std.proofs.lemmas.Bool.Decides.{nat_tests, same_from_decides, Decides-like, Decides-ltb}
use Rattle.std.proofs.Math.Path.{fun_ext}
use Rattle.index_format.specs.Map.{Value, KeyValues, values_of}
use Rattle.index_format.specs.Listing.{KeyValue}
use Rattle.index_format.proofs.TreeLemmas.{R}
use Rattle.index_read.proofs.OrderLemmas.{equal_keys, self_equal}
use Rattle.index_read.specs.Firsts.{firsts_of}
use Rattle.name_lookup.specs.Maps.{has_value}
use Rattle.dependency_lines.specs.Modules.{first_value, first_values, insert_module, by_number}
use Rattle.dependency_lines.specs.Modules.{modules_of, place_of}

-- ---- keys

pub bytes-sym : (a b : List ℕ) → bytes_eq a b ≡ bytes_eq b a
bytes-sym a b =
    same_from_decides (bytes_eq a b) (bytes_eq b a) (bytes_eq-Decides a b)
    (Decides-like (bytes_eq b a) (λ e. sym e) (λ e. sym e) (bytes_eq-Decides b a))

pub eq-bytes : (a b : List ℕ) → is_eq (R a b) ≡ bytes_eq a b
eq-bytes a b =
    same_from_decides (is_eq (R a b)) (bytes_eq a b)
    (equal_keys a b, λ e. subst (λ k. is_eq (R a k) ≡ true) e (self_equal a)) (bytes_eq-Decides a b)

pub less : (o : Ordering) → is_lt o ≡ true → o ≡ Less
less Less e = refl
less Equal e = absurd (true≢false (sym e))
less Greater e = absurd (true≢false (sym e))

-- ---- what is found under a key

abbrev Entry : Type 0
Entry = List ℕ × List Value

abbrev firsts : List Entry → List KeyValue
firsts es = flat_map (λ (e : Entry). first_value e.0 e.1) es

none-below : (q : List ℕ) (es : List Entry) → below_all R q es ≡ true → find R q es ≡ None
none-below q [] h = refl
none-below q (e ∷ es) h =
    let w = and_parts _ _ h in
    ap (λ o. cond (is_eq o) (Some e.1) (find R q es)) (less (R q e.0) w.0) ∙ none-below q es w.1

find-firsts : (q : List ℕ) (es : List Entry) → is_sorted R es ≡ true
    → find R q (firsts es) ≡ slice_get (unwrap_or (find R q es) []) 0
find-firsts q [] up = refl
find-firsts q (e ∷ es) up =
    let w = and_parts _ _ up in go (is_eq (R q e.0)) refl e.1 w.0 (find-firsts q es w.1)
  where
    go : (b : Bool) → is_eq (R q e.0) ≡ b → (vs : List Value) → below_all R e.0 es ≡ true
        → find R q (firsts es) ≡ slice_get (unwrap_or (find R q es) []) 0
        → find R q (first_value e.0 vs ++ firsts es)
        ≡ slice_get (unwrap_or (cond b (Some vs) (find R q es)) []) 0
    go true t [] below ih =
        ih
        ∙ ap (λ o. slice_get (unwrap_or o []) 0)
        (none-below q es
        (subst (λ k. below_all R k es ≡ true) (sym (equal_keys q e.0 t)) below))
    go true t (v ∷ vs) below ih = ap (λ b. cond b (Some v) (find R q (firsts es))) t
    go false t [] below ih = ih
    go false t (v ∷ vs) below ih = ap (λ b. cond b (Some v) (find R q (firsts es))) t ∙ ih

below-firsts : (k : List ℕ) (es : List Entry) → below_all R k es ≡ true
    → below_all R k (firsts es) ≡ true
below-firsts k [] h = refl
below-firsts k (e ∷ es) h = let w = and_parts _ _ h in go e.1 w.0 (below-firsts k es w.1)
  where
    go : (vs : List Value) → is_lt (R k e.0) ≡ true → below_all R k (firsts es) ≡ true
        → below_all R k (first_value e.0 vs ++ firsts es) ≡ true
    go [] l ih = ih
    go (v ∷ vs) l ih = and_from _ _ l ih

pub sorted-firsts : (es : List Entry) → is_sorted R es ≡ true → is_sorted R (firsts es) ≡ true
sorted-firsts [] up = refl
sorted-firsts (e ∷ es) up = let w = and_parts _ _ up in go e.1 w.0 (sorted-firsts es w.1)
  where
    go : (vs : List Value) → below_all R e.0 es ≡ true → is_sorted R (firsts es) ≡ true
        → is_sorted R (first_value e.0 vs ++ firsts es) ≡ true
    go [] below ih = ih
    go (v ∷ vs) below ih = and_from _ _ (below-firsts e.0 es below) ih

back : (b : Bool) → T b → b ≡ true
back true h = refl
back false h = absurd h

pub map-sorted : (m : KeyValues) → is_sorted R (entries m) ≡ true
map-sorted m = back _ (entries_sorted m)

pub find-map-firsts : (m : KeyValues) (q : List ℕ)
    → find R q (first_values m) ≡ slice_get (values_of m q) 0
find-map-firsts m q =
    find-firsts q (entries m) (map-sorted m)
    ∙ ap (λ o. slice_get (unwrap_or o []) 0) (sym (get-entries m q))

first-same : (key : List ℕ) (vs : List Value) → map (λ v. (key, v)) (take 1 vs) ≡ first_value key vs
first-same key [] = refl
first-same key (v ∷ []) = refl
first-same key (v ∷ w ∷ vs) = refl

firsts-same : (es : List Entry) → firsts_of es ≡ firsts es
firsts-same [] = refl
firsts-same (e ∷ es) = λ i. first-same e.0 e.1 i ++ firsts-same es i

-- the first values of a map are its modules
pub firsts-are : (m : KeyValues) (ps : List KeyValue) → ps ≡ firsts_of (entries m)
    → ps ≡ first_values m
firsts-are m ps is = is ∙ firsts-same (entries m)

-- ---- which names there are

pub any-find : (n : List ℕ) (es : List KeyValue)
    → list_any (λ (m : KeyValue). bytes_eq m.0 n) es ≡ is_some (find R n es)
any-find n [] = refl
any-find n (e ∷ es) =
    ap (λ b. b || list_any (λ (m : KeyValue). bytes_eq m.0 n) es)
    (bytes-sym e.0 n ∙ sym (eq-bytes n e.0))
    ∙ go (is_eq (R n e.0)) (any-find n es)
  where
    go : (b : Bool) → list_any (λ (m : KeyValue). bytes_eq m.0 n) es ≡ is_some (find R n es)
        → (b || list_any (λ (m : KeyValue). bytes_eq m.0 n) es)
        ≡ is_some (cond b (Some e.1) (find R n es))
    go true ih = refl
    go false ih = ih

or-swap : (a b c : Bool) → (a || (b || c)) ≡ (b || (a || c))
or-swap true true c = refl
or-swap true false c = refl
or-swap false b c = refl

pub any-insert : (p : KeyValue → Bool) (m : KeyValue) (ns : List KeyValue)
    → list_any p (insert_module m ns) ≡ (p m || list_any p ns)
any-insert p m [] = refl
any-insert p m (n ∷ ns) = go (nat_le m.1.0 n.1.0) (any-insert p m ns)
  where
    go : (b : Bool) → list_any p (insert_module m ns) ≡ (p m || list_any p ns)
        → list_any p (cond b (m ∷ n ∷ ns) (n ∷ insert_module m ns))
        ≡ (p m || (p n || list_any p ns))
    go true ih = refl
    go false ih = ap (λ b. p n || b) ih ∙ or-swap (p n) (p m) (list_any p ns)

pub any-by : (p : KeyValue → Bool) (ms : List KeyValue) → list_any p (by_number ms) ≡ list_any p ms
any-by p [] = refl
any-by p (m ∷ ms) = any-insert p m (by_number ms) ∙ ap (λ b. p m || b) (any-by p ms)

pub some-position : {X : Type 0} (p : X → Bool) (xs : List X)
    → is_some (position p xs) ≡ list_any p xs
some-position {X = X} p xs = whole (nat_lt (position_or_len p xs) (length xs)) ∙ less-any xs
  where
    whole : (b : Bool) → is_some (cond b (Some (position_or_len p xs)) None) ≡ b
    whole true = refl
    whole false = refl

    less-any : (ys : List X) → nat_lt (position_or_len p ys) (length ys) ≡ list_any p ys
    less-any [] = refl
    less-any (y ∷ ys) = go (p y) (less-any ys)
      where
        go : (b : Bool) → nat_lt (position_or_len p ys) (length ys) ≡ list_any p ys
            → nat_lt (cond (not b) (1 + position_or_len p ys) 0) (suc (length ys))
            ≡ (b || list_any p ys)
        go true ih = lt-ltb 0 (suc (length ys)) (omega arith)
        go false ih =
            same_from_decides _ _ (Decides-ltb (1 + position_or_len p ys) (suc (length ys)))
            (Decides-like (nat_lt (position_or_len p ys) (length ys)) (λ l. omega (arith, l))
            (λ l. omega (arith, l)) (Decides-ltb (position_or_len p ys) (length ys)))
            ∙ ih

some-first : (vs : List Value) → is_some (slice_get vs 0) ≡ not (length vs == 0)
some-first [] = refl
some-first (v ∷ vs) = sym (ap not (zero-not (length vs)))
  where
    zero-not : (n : ℕ) → (suc n == 0) ≡ false
    zero-not n = grind (arith, nat_tests)

pub has-modules : (dep : KeyValues) (name : List ℕ)
    → is_some (place_of (modules_of dep) name) ≡ has_value dep name
unfolding modules_of
has-modules dep name =
    some-position (λ (m : KeyValue). bytes_eq m.0 name) (by_number (first_values dep))
    ∙ any-by (λ (m : KeyValue). bytes_eq m.0 name) (first_values dep)
    ∙ any-find name (first_values dep)
    ∙ ap is_some (find-map-firsts dep name)
    ∙ some-first (values_of dep name)

pub has-same : (dep : KeyValues)
    → (λ name. is_some (place_of (modules_of dep) name)) ≡ has_value dep
has-same dep = fun_ext (has-modules dep)

pub modules-are : (dep : KeyValues) → by_number (first_values dep) ≡ modules_of dep
unfolding modules_of
modules-are dep = refl
