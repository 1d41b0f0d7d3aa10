-- Lists of paths that rise strictly by their bytes, and what is listed of them.
use Rattle.std.proofs.Common.{◌≡◌, ℕ, Bool, true, false, ◌&&◌, T, cond, List, [], ◌∷◌, ◌++◌, map}
use Rattle.std.proofs.Common.{length, take, drop, filter, filter_map, All, Some, None, Option}
use Rattle.std.proofs.Common.{bytes_eq, Decides, IsSorted, IsPermutation, refl, sym, ap, subst, ◌∙◌}
use Rattle.std.specs.Global.{Vec}
use Rattle.std.specs.Prelude.{nat_eq}
use Rattle.std.specs.List.{AllByRecursion, cons_option, starts_with}
use Rattle.std.specs.List.Retain.{IsFiltered, DiffersFromLast}
use Rattle.std.specs.declared.cmp.Ordering.{Ordering}
use Rattle.std.specs.List.Sorted.{IsStrictlySortedBy}
use Rattle.std.specs.Ordering.{ordering_then, is_lt}
use Rattle.std.specs.Cmp.{nat_cmp_is, IsTotalOrder}
use Rattle.std.specs.Cmp.Lexicographic.{nat_list_cmp_total}
use Rattle.std.specs.declared.cmp.Ordering.TheVariants.{Less, Equal, Greater}
use Rattle.std.specs.FinMap as map
use Rattle.std.specs.FinMap.Entries.{is_sorted, below_all, put, by_order}
use Rattle.std.proofs.lemmas.List.{take-append-drop}
use Rattle.std.proofs.lemmas.List.Kept.{IsStrictlySortedBy-filter, IsStrictlySortedBy-dedup}
use Rattle.std.proofs.lemmas.List.Filters.{All-dedup, dedup_is}
use Rattle.std.proofs.lemmas.List.Sorted.{All-permutation}
use Rattle.std.proofs.lemmas.Map.Text.{is_eq-slice_cmp}
use Rattle.std.proofs.lemmas.List.Elements.{All-from_recursion, All-map}
use Rattle.std.proofs.lemmas.Slice.Eq.{bytes_eq-Decides}
use Rattle.outside_calls.specs.Contents.{Contents, by_bytes, rest_after, rests_below, listed}
use Rattle.outside_calls.specs.Entries.{files_of}
use Rattle.outside_calls.specs.Listing.{passing, listed_of}
use Rattle.km_names.specs.Path.{path_below}

-- the paths of vectors rise as the vectors do
below-in_bytes : (k : Vec ℕ) (ks : List (Vec ℕ))
    → AllByRecursion (λ y. by_bytes k.items y.items ≡ Less) ks
    → AllByRecursion (λ y. by_bytes k.items y ≡ Less) (map (λ v. v.items) ks)
below-in_bytes k [] h = tt
below-in_bytes k (x ∷ ks) h = (h.0, below-in_bytes k ks h.1)

pub in_bytes-rises : (ks : List (Vec ℕ)) → IsStrictlySortedBy (λ x y. by_bytes x.items y.items) ks
    → IsStrictlySortedBy by_bytes (map (λ v. v.items) ks)
unfolding IsStrictlySortedBy
in_bytes-rises [] h = tt
in_bytes-rises (k ∷ ks) h = (below-in_bytes k ks h.0, in_bytes-rises ks h.1)

-- entries whose keys rise are those of the map that is made of them
abbrev key : List ℕ × List ℕ → List ℕ
key e = e.0

put-first : (e : List ℕ × List ℕ) (es : List (List ℕ × List ℕ))
    → AllByRecursion (λ y. by_bytes e.0 y ≡ Less) (map key es) → put by_bytes e.0 e.1 es ≡ e ∷ es
put-first e [] h = refl
put-first e (f ∷ es) h =
    ap (λ o. by_order o (e ∷ f ∷ es) ((f.0, e.1) ∷ es) (f ∷ put by_bytes e.0 e.1 es)) h.0

pub entries-made : (es : List (List ℕ × List ℕ)) → IsStrictlySortedBy by_bytes (map key es)
    → map.entries (map.from_entries {R = by_bytes} es) ≡ es
unfolding IsStrictlySortedBy
entries-made [] h =
    let none : List (List ℕ × List ℕ) = [] in
    let made = map.entries-from_sorted by_bytes none tt in
    ap map.entries (sym
    (map.empty_of_len (map.from_sorted {R = by_bytes} none)
    (map.len-entries _ ∙ ap length made)))
    ∙ made
entries-made (e ∷ es) h =
    map.entries-insert nat_list_cmp_total (map.from_entries es) e.0 e.1
    ∙ ap (put by_bytes e.0 e.1) (entries-made es h.1) ∙ put-first e es h.0

keys-in_bytes : (es : List (Vec ℕ × List ℕ))
    → map key (map (λ e. (e.0.items, e.1)) es) ≡ map (λ v. v.items) (map (λ e. e.0) es)
keys-in_bytes [] = refl
keys-in_bytes (e ∷ es) = ap (λ l. e.0.items ∷ l) (keys-in_bytes es)

-- the paths of the files that the entries of an ordered map hold
pub keys-files_of : (es : List (Vec ℕ × List ℕ))
    → IsStrictlySortedBy by_bytes (map (λ v. v.items) (map (λ e. e.0) es))
    → map.keys (files_of es) ≡ map (λ v. v.items) (map (λ e. e.0) es)
keys-files_of es h =
    ap (map key) (entries-made (map (λ e. (e.0.items, e.1)) es)
    (subst (IsStrictlySortedBy by_bytes) (sym (keys-in_bytes es)) h))
    ∙ keys-in_bytes es

-- a map's keys rise
and-left : (a b : Bool) → T (a && b) → T a
and-left true b h = tt
and-left false b h = absurd h

and-right : (a b : Bool) → T (a && b) → T b
and-right true b h = h
and-right false b h = absurd h

less-is : (x y : List ℕ) → T (is_lt (by_bytes x y)) → by_bytes x y ≡ Less
less-is x y =
    elim (by_bytes x y) as (λ o. T (is_lt o) → o ≡ Less)
    [ Less ↦ λ h. refl | Equal ↦ λ h. absurd h | Greater ↦ λ h. absurd h ]

below-keys : (x : List ℕ) (es : List (List ℕ × List ℕ)) → T (below_all by_bytes x es)
    → AllByRecursion (λ y. by_bytes x y ≡ Less) (map key es)
below-keys x [] h = tt
below-keys x (e ∷ es) h = (less-is x e.0 (and-left _ _ h), below-keys x es (and-right _ _ h))

rises-keys : (es : List (List ℕ × List ℕ)) → T (is_sorted by_bytes es)
    → IsStrictlySortedBy by_bytes (map key es)
unfolding IsStrictlySortedBy
rises-keys [] h = tt
rises-keys (e ∷ es) h = (below-keys e.0 es (and-left _ _ h), rises-keys es (and-right _ _ h))

-- paths that begin alike compare as what follows
alike : (p r s : List ℕ) → by_bytes (p ++ r) (p ++ s) ≡ by_bytes r s
alike [] r s = refl
alike (x ∷ p) r s =
    ap (λ o. ordering_then o (by_bytes (p ++ r) (p ++ s))) (sym (nat_cmp_is x x Equal refl))
    ∙ alike p r s

begins : (p path : List ℕ) (b : Bool) → starts_with nat_eq path p ≡ b → b ≡ true
    → path ≡ p ++ drop (length p) path
begins p path b e t =
    sym (take-append-drop (length p) path)
    ∙ ap (λ front. front ++ drop (length p) path)
    (sym (decided (bytes_eq-Decides p (take (length p) path)) (e ∙ t)))
  where
    decided : {P : Type 0} {b : Bool} → Decides b P → b ≡ true → P
    decided d t = d.0 t

after-is : (p path rest : List ℕ) → rest_after p path ≡ Some rest → path ≡ p ++ rest
after-is p path rest =
    by_test (starts_with nat_eq path p) refl
  where
    same : (a b : List ℕ) → Some a ≡ Some b → a ≡ b
    same a b e = cc

    by_test : (b : Bool) → starts_with nat_eq path p ≡ b
        → cond b (Some (drop (length p) path)) None ≡ Some rest → path ≡ p ++ rest
    by_test true is e = begins p path true is refl ∙ ap (λ r. p ++ r) (same _ _ e)
    by_test false is e = cc

below-after : (p path rest : List ℕ) (paths : List (List ℕ)) → path ≡ p ++ rest
    → AllByRecursion (λ y. by_bytes path y ≡ Less) paths
    → AllByRecursion (λ y. by_bytes rest y ≡ Less) (filter_map (rest_after p) paths)
below-after p path rest [] is h = tt
below-after p path rest (y ∷ paths) is h =
    by_rest (rest_after p y) refl (below-after p path rest paths is h.1)
  where
    by_rest : (o : Option (List ℕ)) → rest_after p y ≡ o
        → AllByRecursion (λ y. by_bytes rest y ≡ Less) (filter_map (rest_after p) paths)
        → AllByRecursion (λ y. by_bytes rest y ≡ Less)
        (cons_option o (filter_map (rest_after p) paths))
    by_rest None e more = more
    by_rest (Some s) e more
        = (
          sym (alike p rest s) ∙ ap (λ a. by_bytes a (p ++ s)) (sym is)
              ∙ ap (by_bytes path) (sym (after-is p y s e)) ∙ h.0,
          more,
        )

rises-by : (p path : List ℕ) (paths : List (List ℕ)) (o : Option (List ℕ)) → rest_after p path ≡ o
    → AllByRecursion (λ y. by_bytes path y ≡ Less) paths
    → IsStrictlySortedBy by_bytes (filter_map (rest_after p) paths)
    → IsStrictlySortedBy by_bytes (cons_option o (filter_map (rest_after p) paths))
unfolding IsStrictlySortedBy
rises-by p path paths None e h more = more
rises-by p path paths (Some rest) e h more =
    (below-after p path rest paths (after-is p path rest e) h, more)

rises-after : (p : List ℕ) (paths : List (List ℕ)) → IsStrictlySortedBy by_bytes paths
    → IsStrictlySortedBy by_bytes (filter_map (rest_after p) paths)
unfolding IsStrictlySortedBy
rises-after p [] h = tt
rises-after p (path ∷ paths) h =
    rises-by p path paths (rest_after p path) refl h.0 (rises-after p paths h.1)

-- What is listed of any files rises.
pub listed-rises : (fits : List ℕ → Bool) (folder : List ℕ) (files : Contents)
    → IsStrictlySortedBy by_bytes (listed fits folder files)
listed-rises fits folder files =
    IsStrictlySortedBy-filter by_bytes fits (rests_below folder files)
    (rises-after (path_below folder []) (map.keys files)
    (rises-keys (map.entries files) (map.entries_sorted files)))

-- What is listed passes the test.
pub filter-passes : (p : List ℕ → Bool) (xs : List (List ℕ)) → All (λ x. p x ≡ true) (filter p xs)
filter-passes p xs = All-from_recursion (λ x. p x ≡ true) (filter p xs) (passes xs)
  where
    kept : (b : Bool) (x : List ℕ) (xs : List (List ℕ)) → p x ≡ b
        → AllByRecursion (λ y. p y ≡ true) xs
        → AllByRecursion (λ y. p y ≡ true) (cond b (x ∷ xs) xs)
    kept true x xs e h = (e, h)
    kept false x xs e h = h

    passes : (xs : List (List ℕ)) → AllByRecursion (λ y. p y ≡ true) (filter p xs)
    passes [] = tt
    passes (x ∷ xs) = kept (p x) x (filter p xs) refl (passes xs)

-- What passes, path by path, is what is listed.
pub listed_of-listed : (fits : List ℕ → Bool) (prefix : List ℕ) (paths : List (List ℕ))
    → listed_of fits prefix paths ≡ filter fits (filter_map (rest_after prefix) paths)
listed_of-listed fits prefix [] = refl
listed_of-listed fits prefix (path ∷ paths) =
    by_rest _ _ (rest_after prefix path) (listed_of-listed fits prefix paths)
  where
    chosen : {xs ys : List (List ℕ)} (b : Bool) (rest : List ℕ) → xs ≡ ys
        → cons_option (cond b (Some rest) None) xs ≡ cond b (rest ∷ ys) ys
    chosen true rest e = ap (λ l. rest ∷ l) e
    chosen false rest e = e

    by_rest : (xs ys : List (List ℕ)) (o : Option (List ℕ)) → xs ≡ filter fits ys
        → cons_option (passing fits o) xs ≡ filter fits (cons_option o ys)
    by_rest xs ys None e = e
    by_rest xs ys (Some rest) e = chosen (fits rest) rest e

-- vectors in order, each once, rise
abbrev pub by_items : Vec ℕ → Vec ℕ → Ordering
by_items x y = by_bytes x.items y.items

items_total : IsTotalOrder by_items
items_total = record {
  antisymm = λ x y. nat_list_cmp_total.antisymm x.items y.items;
  trans = λ x y z. nat_list_cmp_total.trans x.items y.items z.items;
  congr = λ x y z. nat_list_cmp_total.congr x.items y.items z.items;
}

pub sorted-rises : (xs ys : List (Vec ℕ)) → IsSorted by_items xs
    → IsFiltered (DiffersFromLast (λ a b. bytes_eq a.items b.items)) [] xs ys
    → IsStrictlySortedBy by_bytes (map (λ v. v.items) ys)
sorted-rises xs ys sorted filtered =
    in_bytes-rises ys (subst (IsStrictlySortedBy by_items)
    (sym (dedup_is (λ a b. bytes_eq a.items b.items) xs ys filtered))
    (IsStrictlySortedBy-dedup items_total (λ x y. sym (is_eq-slice_cmp x.items y.items)) xs sorted))

pub kept-passes : (p : List ℕ → Bool) (all xs ys : List (Vec ℕ)) → IsPermutation all xs
    → IsFiltered (DiffersFromLast (λ a b. bytes_eq a.items b.items)) [] xs ys
    → All (λ v. p v.items ≡ true) all → All (λ n. p n ≡ true) (map (λ v. v.items) ys)
kept-passes p all xs ys same filtered h =
    All-map (λ n. p n ≡ true) (λ v. v.items) ys
    (subst (All (λ v. p v.items ≡ true))
    (sym (dedup_is (λ a b. bytes_eq a.items b.items) xs ys filtered))
    (All-dedup (λ a b. bytes_eq a.items b.items) (λ v. p v.items ≡ true) xs
    (All-permutation (λ v. p v.items ≡ true) all xs same h)))
