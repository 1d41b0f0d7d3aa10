-- The lists of a key map, as they grow by a value.
use Rattle.std.proofs.Common.{◌≡◌, refl, sym, ap, subst, ◌∙◌, ℕ, zero, suc, ◌<◌, ◌≤◌, Bool, true}
use Rattle.std.proofs.Common.{false, cond, ◌&&◌, T, List, [], ◌∷◌, length, drop, get_or, Option}
use Rattle.std.proofs.Common.{Some, None, option_map, unwrap_or, Vec, String, string_bytes, Result}
use Rattle.std.proofs.Common.{Ok, Err, OnOk, OnErr, arith, nat_lt, ◌-◌}
use Rattle.std.specs.List.{AllByRecursion, list_all, insert as insert_at}
use Rattle.std.specs.List.Sorted.{IsStrictlySortedBy}
use Rattle.std.specs.declared.alloc.Global.{Global}
use Rattle.std.specs.declared.cmp.Ordering.{Ordering}
use Rattle.std.specs.declared.cmp.Ordering.TheVariants.{Less, Equal, Greater}
use Rattle.std.specs.Ordering.{nat_cmp, is_lt, is_eq, match_ordering}
use Rattle.std.proofs.lemmas.Cmp.{nat_list_cmp_total}
use Rattle.std.proofs.lemmas.Bool.{le-ltb, lt-ltb}
use Rattle.std.proofs.lemmas.List.{length-map}
use Rattle.std.proofs.lemmas.List.Elements.{All-weaker}
use Rattle.std.proofs.lemmas.Str.{IsUtf8-from_ascii}
use Rattle.std.proofs.lemmas.Str.Ascii.{IsAscii-from_all}
use Rattle.std.specs.Str.{IsUtf8}
use Rattle.std.proofs.Math.ListN.{get_or-map}
use Rattle.std.proofs.Math.Seq.{drop-cons}
use Rattle.std.specs.Cmp.Lexicographic.{slice_cmp}
use Rattle.std.specs.BTreeMap.{insert_entry}
use Rattle.std.specs.Map.{lookup, keys_of}
use Rattle.std.specs.FinMap.{entries, empty, from_sorted, find, put, insert, entries-from_sorted}
use Rattle.std.specs.FinMap.{entries-insert, same_entries_map, get-from_sorted}
use Rattle.std.specs.FinMap.Entries.{is_sorted, by_order, below_all, is_sorted-put}
use Rattle.index_format.specs.Map.{Value, place, with_value, IsKey}
use Rattle.index_format.specs.Tree.{Entry, Above, Rises}
use Rattle.index_format.proofs.Maps.{entries-empty}
use Rattle.index_write.specs.declared.key_map.StoredValue.{StoredValue}
use Rattle.index_write.specs.Lists.{KeyLists, value_of, shown_values, entry_of, entries_of, map_of}
use Rattle.index_write.specs.Lists.{found, with_one, IsStorable, IsStorableEntry, AreStorable}
use Rattle.index_write.specs.Lists.{AreOrdered}

-- the order of the keys, as byte lists and as strings
abbrev R : List ℕ → List ℕ → Ordering
R = slice_cmp nat_cmp

abbrev by_bytes : String Global → String Global → Ordering
by_bytes x y = slice_cmp nat_cmp (string_bytes x) (string_bytes y)

pub entries_of-insert_entry : (es : KeyLists) (k : String Global) (v : Vec StoredValue Global)
    → entries_of (insert_entry by_bytes es k v)
    ≡ put R (string_bytes k) (shown_values v.items) (entries_of es)
entries_of-insert_entry [] k v = refl
entries_of-insert_entry (e ∷ es) k v =
    elim (by_bytes k e.0) as
    (λ o. entries_of (match_ordering o ((k, v) ∷ e ∷ es) ((e.0, v) ∷ es)
    (e ∷ insert_entry by_bytes es k v))
    ≡ by_order o ((string_bytes k, shown_values v.items) ∷ entry_of e ∷ entries_of es)
    ((string_bytes e.0, shown_values v.items) ∷ entries_of es)
    (entry_of e ∷ put R (string_bytes k) (shown_values v.items) (entries_of es))) [
      | Less ↦ refl
      | Equal ↦ refl
      | Greater ↦ ap (λ xs. entry_of e ∷ xs) (entries_of-insert_entry es k v)
    ]

pub find-entries_of : (es : KeyLists) (q : List ℕ)
    → find R q (entries_of es)
    ≡ option_map (λ v. shown_values v.items) (lookup (λ k. is_eq (R q (string_bytes k))) es)
find-entries_of [] q = refl
find-entries_of (e ∷ es) q =
    elim (is_eq (R q (string_bytes e.0))) as
    (λ b. cond b (Some (shown_values e.1.items)) (find R q (entries_of es))
    ≡ option_map (λ v. shown_values v.items)
    (cond b (Some e.1) (lookup (λ k. is_eq (R q (string_bytes k))) es))) [
      | true ↦ refl
      | false ↦ find-entries_of es q
    ]

both : (a b : Bool) → T a → T b → T (a && b)
both true b p q = q
both false b p q = p

left : (a b : Bool) → T (a && b) → T a
left true b p = tt
left false b p = p

right : (a b : Bool) → T (a && b) → T b
right true b p = p
right false b p = absurd p

is_less : (o : Ordering) → T (is_lt o) → o ≡ Less
is_less Less p = refl
is_less Equal p = absurd p
is_less Greater p = absurd p

below_all-keys : (x : String Global) (es : KeyLists)
    → AllByRecursion (λ y. by_bytes x y ≡ Less) (keys_of es)
    → T (below_all R (string_bytes x) (entries_of es))
below_all-keys x [] h = tt
below_all-keys x (e ∷ es) h =
    both _ _ (subst (λ o. T (is_lt o)) (sym h.0) tt) (below_all-keys x es h.1)

-- keys that rise in the map rise among the entries
pub ordered : (es : KeyLists) → IsStrictlySortedBy by_bytes (keys_of es) → AreOrdered es
unfolding IsStrictlySortedBy
ordered [] h = tt
ordered (e ∷ es) h = both _ _ (below_all-keys e.0 es h.0) (ordered es h.1)

-- a key below all of a list isn't found in it
not_below : (q x : List ℕ) (es : List Entry) → R q x ≡ Less → T (below_all R x es)
    → find R q es ≡ None
not_below q x [] p h = refl
not_below q x (e ∷ es) p h =
    ap (λ o. cond (is_eq o) (Some e.1) (find R q es))
    (nat_list_cmp_total.trans q x e.0 p (is_less _ (left _ _ h)))
    ∙ not_below q x es p (right _ _ h)

same_value : {A : Type 0} (x : A) → Some x ≡ None → ⊥
same_value x e = subst (λ o. elim o as (λ _. Type 0) [ Some y ↦ Unit {0} | None ↦ ⊥ ]) e tt

same_one : {A : Type 0} (x y : A) → Some x ≡ Some y → x ≡ y
same_one x y e = ap (λ o. unwrap_or o x) e

-- the value of a key in order, put again
put-same : (es : List Entry) (q : List ℕ) (v : List Value) → T (is_sorted R es)
    → find R q es ≡ Some v → put R q v es ≡ es
put-same [] q v h f = absurd (same_value v (sym f))
put-same (e ∷ es) q v h f =
    elim (R q e.0) as
    (λ o. R q e.0 ≡ o → cond (is_eq o) (Some e.1) (find R q es) ≡ Some v
    → by_order o ((q, v) ∷ e ∷ es) ((e.0, v) ∷ es) (e ∷ put R q v es) ≡ e ∷ es) [
      | Less ↦ λ p g. absurd (same_value v (sym g ∙ not_below q e.0 es p (left _ _ h)))
      | Equal ↦ λ p g. ap (λ vs. (e.0, vs) ∷ es) (sym (same_one e.1 v g))
      | Greater ↦ λ p g. ap (λ xs. e ∷ xs) (put-same es q v (right _ _ h) g)
    ] refl f

-- the map of entries with one more value
pub map_of-with_one : (es ns : KeyLists) (key : List ℕ) (v : Value) → AreOrdered es
    → entries_of ns ≡ with_one (entries_of es) key v → map_of ns ≡ with_value (map_of es) key v
map_of-with_one es ns key v h e =
    let old = entries-from_sorted R (entries_of es) h in
    let stays
    = is_sorted-put R nat_list_cmp_total key (place (found (entries_of es) key) v)
    (entries_of es) h in
    let here = get-from_sorted R (entries_of es) key h in
    ap from_sorted e
    ∙ same_entries_map _ _
    (entries-from_sorted R (with_one (entries_of es) key v) stays
    ∙ ap (put R key (place (found (entries_of es) key) v)) (sym old)
    ∙ sym (entries-insert nat_list_cmp_total (map_of es) key (place (found (entries_of es) key) v)))
    ∙ ap (λ o. insert (map_of es) key (place (unwrap_or o []) v)) (sym here)

-- ---- the place of a value among those of its key

abbrev greater : ℕ → Value → Bool
greater priority v = nat_lt priority v.0

pub place_first : (xs : List Value) (v : Value) → list_all (greater v.0) xs ≡ true
    → place xs v ≡ v ∷ xs
place_first [] v h = refl
place_first (x ∷ xs) v h = ap (λ b. cond b (v ∷ x ∷ xs) (x ∷ place xs v)) h

not_all : (p : ℕ) (xs : List Value) (n : ℕ) (d : Value) → n < length xs
    → greater p (get_or xs n d) ≡ false → list_all (greater p) xs ≡ false
not_all p [] n d lt h = absurd (omega arith)
not_all p (x ∷ xs) zero d lt h = ap (λ b. b && list_all (greater p) xs) h
not_all p (x ∷ xs) (suc n) d lt h =
    ap (λ b. greater p x && b) (not_all p xs n d (omega arith) h)
    ∙ elim (greater p x) as (λ b. (b && false) ≡ false) [ true ↦ refl | false ↦ refl ]

pub place_after : (xs : List Value) (n : ℕ) (v d : Value) → n < length xs
    → greater v.0 (get_or xs n d) ≡ false → list_all (greater v.0) (drop (suc n) xs) ≡ true
    → insert_at xs (suc n) v ≡ place xs v
place_after [] n v d lt h rest = absurd (omega arith)
place_after (x ∷ xs) zero v d lt h rest =
    ap (λ ys. x ∷ ys) (sym (place_first xs v rest))
    ∙ ap (λ b. cond b (v ∷ x ∷ xs) (x ∷ place xs v)) (sym (not_all v.0 (x ∷ xs) 0 d lt h))
place_after (x ∷ xs) (suc n) v d lt h rest =
    ap (λ ys. x ∷ ys) (place_after xs n v d (omega arith) h rest)
    ∙ ap (λ b. cond b (v ∷ x ∷ xs) (x ∷ place xs v)) (sym (not_all v.0 (x ∷ xs) (suc n) d lt h))

-- ---- the map without keys

pub map_of-nothing : map_of [] ≡ empty
map_of-nothing = same_entries_map _ _ (entries-from_sorted R [] tt ∙ sym entries-empty)

-- ---- a list that is put for a key

module _ (es ns : KeyLists) (key : String Global) (old : Option (Vec StoredValue Global))
    (w : Vec StoredValue Global) (put_there : ns ≡ insert_entry by_bytes es key w)
    (here : lookup (λ k. is_eq (R (string_bytes key) (string_bytes k))) es ≡ old) where
  entries-put : entries_of ns ≡ put R (string_bytes key) (shown_values w.items) (entries_of es)
  entries-put = ap entries_of put_there ∙ entries_of-insert_entry es key w

  found-here : find R (string_bytes key) (entries_of es)
      ≡ option_map (λ v. shown_values v.items) old
  found-here
      = find-entries_of es (string_bytes key) ∙ ap (option_map (λ v. shown_values v.items)) here

  -- it has one more value
  pub list-with_one : (v : Value)
      → shown_values w.items ≡ place (unwrap_or (option_map (λ v. shown_values v.items) old) []) v
      → entries_of ns ≡ with_one (entries_of es) (string_bytes key) v
  list-with_one v e
      = entries-put
      ∙ ap (λ vs. put R (string_bytes key) vs (entries_of es))
      (e ∙ ap (λ o. place (unwrap_or o []) v) (sym found-here))

-- it has the same values
pub list-kept : (es ns : KeyLists) (key : String Global) (old w : Vec StoredValue Global)
    → ns ≡ insert_entry by_bytes es key w
    → lookup (λ k. is_eq (R (string_bytes key) (string_bytes k))) es ≡ Some old → AreOrdered es
    → w.items ≡ old.items → entries_of ns ≡ entries_of es
list-kept es ns key old w is here h e =
    entries-put es ns key (Some old) w is here
    ∙ ap (λ items. put R (string_bytes key) (shown_values items) (entries_of es)) e
    ∙ put-same (entries_of es) (string_bytes key) (shown_values old.items) h
    (found-here es ns key (Some old) w is here)

-- ---- a key as a string

pub key-utf8 : (key : List ℕ) → IsKey key → IsUtf8 key
key-utf8 key is =
    IsUtf8-from_ascii key
    (IsAscii-from_all key
    (All-weaker (λ byte. (0 < byte) × (byte < 128)) (λ byte. byte < 128) (λ byte h. h.1) key
    is))

-- ---- what the lists keep

place-storable : (vs : List Value) (v : Value) → AllByRecursion IsStorable vs → IsStorable v
    → AllByRecursion IsStorable (place vs v)
place-storable [] v h s = (s, tt)
place-storable (x ∷ vs) v h s =
    elim (list_all (greater v.0) (x ∷ vs)) as
    (λ b. AllByRecursion IsStorable (cond b (v ∷ x ∷ vs) (x ∷ place vs v))) [
      | true ↦ (s, h)
      | false ↦ (h.0, place-storable vs v h.1 s)
    ]

place-some : (vs : List Value) (v : Value) → 0 < length (place vs v)
place-some [] v = omega arith
place-some (x ∷ vs) v =
    elim (list_all (greater v.0) (x ∷ vs)) as
    (λ b. 0 < length (cond b (v ∷ x ∷ vs) (x ∷ place vs v))) [
      | true ↦ omega arith
      | false ↦ omega arith
    ]

found-storable : (es : List Entry) (key : List ℕ) → AllByRecursion IsStorableEntry es
    → AllByRecursion IsStorable (found es key)
found-storable [] key h = tt
found-storable (e ∷ es) key h =
    elim (is_eq (R key e.0)) as
    (λ b. AllByRecursion IsStorable (unwrap_or (cond b (Some e.1) (find R key es)) [])) [
      | true ↦ h.0.values
      | false ↦ found-storable es key h.1
    ]

put-sound : (es : List Entry) (key : List ℕ) (vs : List Value) → AllByRecursion IsStorableEntry es
    → IsKey key → 0 < length vs → AllByRecursion IsStorable vs
    → AllByRecursion IsStorableEntry (put R key vs es)
put-sound [] key vs h k some s = (record { key = k; some = some; values = s }, tt)
put-sound (e ∷ es) key vs h k some s =
    elim (R key e.0) as
    (λ o. AllByRecursion IsStorableEntry
    (by_order o ((key, vs) ∷ e ∷ es) ((e.0, vs) ∷ es) (e ∷ put R key vs es))) [
      | Less ↦ (record { key = k; some = some; values = s }, h)
      | Equal ↦ (record { key = h.0.key; some = some; values = s }, h.1)
      | Greater ↦ (h.0, put-sound es key vs h.1 k some s)
    ]

pub with_one-sound : (es : List Entry) (key : List ℕ) (v : Value)
    → AllByRecursion IsStorableEntry es → IsKey key → IsStorable v
    → AllByRecursion IsStorableEntry (with_one es key v)
with_one-sound es key v h k s =
    put-sound es key (place (found es key) v) h k (place-some (found es key) v)
    (place-storable (found es key) v (found-storable es key h) s)

-- after a call that grew the entries or left them
pub sound_after : {A E : Type 0} (r : Result A E) (old new : KeyLists) (grown : List Entry)
    → OnOk r (entries_of new ≡ grown) → OnErr r (entries_of new ≡ entries_of old)
    → AllByRecursion IsStorableEntry grown → AreStorable old → AreStorable new
sound_after (Ok x) old new grown e f g h = subst (AllByRecursion IsStorableEntry) (sym e) g
sound_after (Err x) old new grown e f g h = subst (AllByRecursion IsStorableEntry) (sym f) h

inside : (xs : List StoredValue) (n : ℕ) → suc n ≤ length xs → n < length (shown_values xs)
inside xs n le = rw (length-map xs value_of) le

-- the place found by a search from the end
pub place_found : (xs : List StoredValue) (n : ℕ) (d : StoredValue) (v : Value) → 0 < n
    → n ≤ length xs → (get_or xs (n - 1) d).priority ≤ v.0
    → list_all (greater v.0) (drop n (shown_values xs)) ≡ true
    → insert_at (shown_values xs) n v ≡ place (shown_values xs) v
place_found xs zero d v pos le low rest = absurd (omega arith)
place_found xs (suc n) d v pos le low rest =
    let at : get_or xs (suc n - 1) d ≡ get_or xs n d = ap (λ i. get_or xs i d) (omega arith) in
    let low : (get_or xs n d).priority ≤ v.0 = subst (λ x. x.priority ≤ v.0) at low in
    let item : get_or (shown_values xs) n (value_of d) ≡ value_of (get_or xs n d)
    = get_or-map value_of xs n d in
    place_after (shown_values xs) n v (value_of d) (inside xs n le)
    (ap (λ x. nat_lt v.0 x.0) item ∙ le-ltb _ _ low) rest

-- one value more in the search
pub place_before : (xs : List StoredValue) (n p : ℕ) (d : StoredValue) → 0 < n → n ≤ length xs
    → p < (get_or xs (n - 1) d).priority → list_all (greater p) (drop n (shown_values xs)) ≡ true
    → list_all (greater p) (drop (n - 1) (shown_values xs)) ≡ true
place_before xs zero p d pos le high rest = absurd (omega arith)
place_before xs (suc n) p d pos le high rest =
    let at : suc n - 1 ≡ n = omega arith in
    let item : get_or (shown_values xs) n (value_of d) ≡ value_of (get_or xs n d)
    = get_or-map value_of xs n d in
    let high : p < (get_or xs n d).priority = subst (λ i. p < (get_or xs i d).priority) at high in
    ap (λ i. list_all (greater p) (drop i (shown_values xs))) at
    ∙ ap (list_all (greater p)) (drop-cons (shown_values xs) n (value_of d) (inside xs n le))
    ∙ ap (λ y. greater p y && list_all (greater p) (drop (suc n) (shown_values xs))) item
    ∙ ap (λ b. b && list_all (greater p) (drop (suc n) (shown_values xs))) (lt-ltb _ _ high)
    ∙ rest

-- the search stays inside the list
pub inside_list : (xs : List StoredValue) (n : ℕ) → n ≤ length (shown_values xs) → n ≤ length xs
inside_list xs n le = rw (length-map xs value_of) at le

pub shown_values-insert : (xs : List StoredValue) (n : ℕ) (v : StoredValue)
    → shown_values (insert_at xs n v) ≡ insert_at (shown_values xs) n (value_of v)
shown_values-insert xs zero v = refl
shown_values-insert [] (suc n) v = refl
shown_values-insert (x ∷ xs) (suc n) v = ap (λ ys. value_of x ∷ ys) (shown_values-insert xs n v)

pub on_err_weaker : {A E P Q : Type 0} (r : Result A E) → (P → Q) → OnErr r P → OnErr r Q
on_err_weaker (Ok x) f h = tt
on_err_weaker (Err x) f h = f h

-- a search that came to the front
pub place_front : (xs : List StoredValue) (n : ℕ) (v : Value) → n ≤ 0
    → list_all (greater v.0) (drop n (shown_values xs)) ≡ true
    → insert_at (shown_values xs) n v ≡ place (shown_values xs) v
place_front xs zero v le h = sym (place_first (shown_values xs) v h)
place_front xs (suc n) v le h = absurd (omega arith)

-- ---- the entries in their order

above_all : (key : List ℕ) (es : List Entry) → T (below_all R key es) → Above key es
above_all key [] h = tt
above_all key (e ∷ es) h = (is_less _ (left _ _ h), above_all key es (right _ _ h))

pub rises : (es : List Entry) → T (is_sorted R es) → Rises es
rises [] h = tt
rises (e ∷ es) h = (above_all e.0 es (left _ _ h), rises es (right _ _ h))

pub entries-map_of : (es : KeyLists) → AreOrdered es → entries (map_of es) ≡ entries_of es
entries-map_of es h = entries-from_sorted R (entries_of es) h
