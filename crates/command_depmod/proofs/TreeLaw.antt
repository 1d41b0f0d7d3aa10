-- What is known of the paths of a tree, by its definition.
use Rattle.std.proofs.Common.{◌≡◌, ℕ, ◌≤◌, Bool, true, false, cond, List, [], ◌∷◌, length, Option}
use Rattle.std.proofs.Common.{Some, None, Ok, Err, refl, sym, ap, subst, ◌∙◌, inl, inr, arith}
use Rattle.std.proofs.Common.{Ordering}
use Rattle.std.specs.Prelude.{◌==◌, not, ◌&&◌, ◌||◌, nat_lt, map, filter, All, AllPairs, is_some}
use Rattle.std.specs.List.{AllByRecursion, IsDistinct, list_any, list_all, position_or_len}
use Rattle.std.specs.Str.{bytes_eq}
use Rattle.std.specs.Char.{is_ascii_graphic}
use Rattle.std.specs.Cmp.{IsTotalOrder, IsEquivalence, on_total, then_total, nat_cmp_total}
use Rattle.std.specs.Cmp.Lexicographic.{nat_list_cmp_total}
use Rattle.std.specs.Ordering.{nat_cmp, ordering_then, is_lt, eq_by_cmp}
use Rattle.std.specs.declared.cmp.Ordering.TheVariants.{Less, Equal, Greater}
use Rattle.std.specs.FinMap as finmap
use Rattle.std.specs.FinMap.Entries.{below_all, is_some-find}
use lib.Dec.{T}
use Rattle.std.proofs.lemmas.Bool.{cases_Bool, true≢false, false_from_ne_true, not-true, and_parts}
use Rattle.std.proofs.lemmas.Bool.{and_from, ltb-false, le-leb, ne_eqb}
use Rattle.std.proofs.lemmas.List.{length-map}
use Rattle.std.proofs.lemmas.List.Elements.{All-from_recursion}
use Rattle.std.proofs.lemmas.List.Kept.{AllPairs-cons}
use Rattle.std.proofs.lemmas.Map.Made.{length-le_from_is_member}
use Rattle.std.proofs.lemmas.Slice.Eq.{bytes_eq-Decides}
use Rattle.km_names.specs.Ascii.{is_graphic}
use Rattle.km_names.specs.Lines.{lines_of}
use Rattle.km_names.specs.Path.{module_name}
use Rattle.km_names.specs.Order.{by_bytes}
use Rattle.mod_tree.specs.Order.{in_order}
use Rattle.mod_tree.specs.Tree.{is_module_path, is_bad_byte, choice_cmp, is_chosen, listing_cmp}
use Rattle.mod_tree.specs.Tree.{tree_paths, name_count, lesser, least, bad_path, tree_unless}
use Rattle.mod_tree.specs.Tree.{tree_of}
use Rattle.mod_tree.specs.declared.tree.TreeFault.{TreeFault}
use Rattle.mod_tree.specs.declared.tree.TreeFault.TheVariants.{TooManyModules}
use Rattle.mod_tree.proofs.Ascending.{IsStrict, any-eq, any-filter, bytes_eq-itself}
use Rattle.mod_tree.proofs.Ascending.{equal-from_both, not_below_itself}
use Rattle.mod_tree.proofs.Heads.{bytes_total, bytes_same, choice_total, choice_same}
use Rattle.command_depmod.specs.Tree.{AreTreePaths}

-- the order of the tree is total, and only equal paths tie
listing_total : (lines : List (List ℕ)) → IsTotalOrder (listing_cmp lines)
listing_total lines =
    then_total (on_total (λ p. position_or_len (bytes_eq p) lines) nat_cmp_total) nat_list_cmp_total

listing_same : (lines : List (List ℕ)) → finmap.IsAntisymmetric (listing_cmp lines)
listing_same lines p q e =
    bytes_same p q
    (second (nat_cmp (position_or_len (bytes_eq p) lines) (position_or_len (bytes_eq q) lines))
    (by_bytes p q) e)
  where
    second : (a b : Ordering) → ordering_then a b ≡ Equal → b ≡ Equal
    second Less b e = cc
    second Equal b e = e
    second Greater b e = cc

bytes_equiv : IsEquivalence bytes_eq
bytes_equiv = record {
  refl = bytes_eq-itself;
  symm = λ x y. by_test x y (bytes_eq x y) refl;
  congr = λ x y z e. ap (λ w. bytes_eq w z) ((bytes_eq-Decides x y).0 e);
}
  where
    by_test : (x y : List ℕ) (b : Bool) → bytes_eq x y ≡ b → bytes_eq x y ≡ bytes_eq y x
    by_test x y true e = e ∙ sym ((bytes_eq-Decides y x).1 (sym ((bytes_eq-Decides x y).0 e)))
    by_test x y false e
        = e
        ∙ sym (false_from_ne_true (bytes_eq y x)
        (λ is. true≢false
        (sym ((bytes_eq-Decides x y).1 (sym ((bytes_eq-Decides y x).0 is))) ∙ e)))

or-left : (a b : Bool) → (a || b) ≡ false → a ≡ false
or-left true b e = absurd (true≢false e)
or-left false b e = refl

or-right : (a b : Bool) → (a || b) ≡ false → b ≡ false
or-right true b e = absurd (true≢false e)
or-right false b e = e

or-true : (a b : Bool) → b ≡ true → (a || b) ≡ true
or-true true b e = refl
or-true false b e = e

-- ---- lists in an order

unpaired : {K : Type 0} (es : List (K × Unit {0}))
    → map (λ (k : K). (k, tt {0})) (map (λ (e : K × Unit {0}). e.0) es) ≡ es
unpaired [] = refl
unpaired (e ∷ es) = ap (λ r. e ∷ r) (unpaired es)

paired : {K : Type 0} (ks : List K)
    → map (λ (e : K × Unit {0}). e.0) (map (λ (k : K). (k, tt {0})) ks) ≡ ks
paired [] = refl
paired (k ∷ ks) = ap (λ r. k ∷ r) (paired ks)

from-T : (b : Bool) → T b → b ≡ true
from-T true h = refl
from-T false h = absurd h

-- they strictly rise
strict : {K : Type 0} (R : K → K → Ordering) (xs : List K) → IsStrict R (in_order R xs)
unfolding in_order
strict {K} R xs =
    let m : finmap.FinMap R (Unit {0})
    = finmap.from_entries {R = R} (map (λ (k : K). (k, tt {0})) xs) in
    ap (finmap.is_sorted R) (unpaired (finmap.entries m)) ∙ from-T _ (finmap.entries_sorted m)

-- and have the members that they are made of
members : {R : List ℕ → List ℕ → Ordering} (o : IsTotalOrder R) (same : finmap.IsAntisymmetric R)
    (q : List ℕ) (xs : List (List ℕ))
    → list_any (bytes_eq q) (in_order R xs) ≡ list_any (bytes_eq q) xs
unfolding in_order
members {R} o same q xs =
    let pairs : List (List ℕ × Unit {0}) = map (λ (k : List ℕ). (k, tt {0})) xs in
    let m : finmap.FinMap R (Unit {0}) = finmap.from_entries {R = R} pairs in
    sym (any-eq o same q (finmap.keys m))
    ∙ sym (finmap.contains_key-keys m q)
    ∙ ap is_some (finmap.get-from_entries o pairs q)
    ∙ is_some-find R q pairs
    ∙ ap (list_any (eq_by_cmp R q)) (paired xs)
    ∙ any-eq o same q xs

-- ---- members

abbrev has : List ℕ → List (List ℕ) → Bool
has q xs = list_any (bytes_eq q) xs

with-more : (y : List ℕ) (ys zs : List (List ℕ)) → AllByRecursion (λ q. has q zs ≡ true) ys
    → AllByRecursion (λ q. has q (y ∷ zs) ≡ true) ys
with-more y [] zs h = tt
with-more y (x ∷ ys) zs h = (or-true (bytes_eq x y) (has x zs) h.0, with-more y ys zs h.1)

own : (ys : List (List ℕ)) → AllByRecursion (λ q. has q ys ≡ true) ys
own [] = tt
own (y ∷ ys) = (ap (λ b. b || has y ys) (bytes_eq-itself y), with-more y ys ys (own ys))

weaker : (P Q : List ℕ → Type 0) (xs : List (List ℕ)) → ((x : List ℕ) → P x → Q x)
    → AllByRecursion P xs → AllByRecursion Q xs
weaker P Q [] f h = tt
weaker P Q (x ∷ xs) f h = (f x h.0, weaker P Q xs f h.1)

-- a test that nothing passes
none-of : (f : List ℕ → Bool) (q : List ℕ) (xs : List (List ℕ)) → list_any f xs ≡ false
    → has q xs ≡ true → f q ≡ false
none-of f q [] none h = absurd (true≢false (sym h))
none-of f q (x ∷ xs) none h =
    elim (cases_Bool (bytes_eq q x)) [
      | inl is ↦ ap f ((bytes_eq-Decides q x).0 is) ∙ or-left (f x) (list_any f xs) none
      | inr other ↦ none-of f q xs (or-right (f x) (list_any f xs) none)
          (sym (ap (λ b. b || has q xs) other) ∙ h)
    ]

has-name : (p : List ℕ) (xs : List (List ℕ)) → has p xs ≡ true
    → has (module_name p) (map module_name xs) ≡ true
has-name p [] h = h
has-name p (x ∷ xs) h =
    elim (cases_Bool (bytes_eq p x)) [
      | inl is ↦
          let same : bytes_eq (module_name p) (module_name x) ≡ true
          = (bytes_eq-Decides _ _).1 (ap module_name ((bytes_eq-Decides p x).0 is)) in
          ap (λ b. b || has (module_name p) (map module_name xs)) same
      | inr other ↦ or-true (bytes_eq (module_name p) (module_name x)) _
          (has-name p xs (sym (ap (λ b. b || has p xs) other) ∙ h))
    ]

names-among : (n : List ℕ) (xs ms : List (List ℕ)) → AllByRecursion (λ p. has p ms ≡ true) xs
    → has n (map module_name xs) ≡ true → has n (map module_name ms) ≡ true
names-among n [] ms all h = absurd (true≢false (sym h))
names-among n (x ∷ xs) ms all h =
    elim (cases_Bool (bytes_eq n (module_name x))) [
      | inl is ↦ subst (λ m. has m (map module_name ms) ≡ true)
          (sym ((bytes_eq-Decides n (module_name x)).0 is)) (has-name x ms all.0)
      | inr other ↦ names-among n xs ms all.1
          (sym (ap (λ b. b || has n (map module_name xs)) other) ∙ h)
    ]

-- ---- the chosen ones

-- a path that is chosen among some
record IsChosenOf (search ms : List (List ℕ)) (p : List ℕ) : Type 0 where
  there : has p ms ≡ true
  chosen : is_chosen search ms p ≡ true

-- of one name only one is chosen
one-chosen : (search ms : List (List ℕ)) (p q : List ℕ) → IsChosenOf search ms p
    → IsChosenOf search ms q → module_name p ≡ module_name q → p ≡ q
one-chosen words ms p q a b same =
    equal-from_both (choice_total words) (choice_same words) p q (later q p b a (sym same))
    (later p q a b same)
  where
    low : (x y z : Bool) → x ≡ true → (x && y) ≡ false → y ≡ false
    low true y z t e = e
    low false y z t e = absurd (true≢false (sym t))

    later : (x y : List ℕ) → IsChosenOf words ms x → IsChosenOf words ms y
        → module_name x ≡ module_name y → is_lt (choice_cmp words y x) ≡ false
    later x y c d e =
        low (bytes_eq (module_name y) (module_name x)) (is_lt (choice_cmp words y x)) true
        ((bytes_eq-Decides _ _).1 (sym e))
        (none-of (λ r. bytes_eq (module_name r) (module_name x) && is_lt (choice_cmp words r x)) y
        ms (not-true _ c.chosen) d.there)

-- so chosen ones in strict order have different names
apart : {R : List ℕ → List ℕ → Ordering} (o : IsTotalOrder R) (search ms : List (List ℕ))
    (x : List ℕ) (ys : List (List ℕ))
    → IsChosenOf search ms x → AllByRecursion (IsChosenOf search ms) ys
    → below_all R x (map (λ (k : List ℕ). (k, tt {0})) ys) ≡ true
    → AllByRecursion (λ y. module_name x ≡ module_name y → ⊥) ys
apart o words ms x [] c all low = tt
apart {R} o words ms x (y ∷ ys) c all low =
    let p = and_parts _ _ low in (
      λ same. true≢false
          (sym p.0 ∙ ap (λ z. is_lt (R x z)) (sym (one-chosen words ms x y c all.0 same))
          ∙ not_below_itself o x),
      apart o words ms x ys c all.1 p.1,
    )

apart-names : (x : List ℕ) (ys : List (List ℕ))
    → AllByRecursion (λ y. module_name x ≡ module_name y → ⊥) ys
    → AllByRecursion (λ n. bytes_eq (module_name x) n ≡ false) (map module_name ys)
apart-names x [] h = tt
apart-names x (y ∷ ys) h = (
  false_from_ne_true (bytes_eq (module_name x) (module_name y))
      (λ is. h.0 ((bytes_eq-Decides _ _).0 is)),
  apart-names x ys h.1,
)

distinct : {R : List ℕ → List ℕ → Ordering} (o : IsTotalOrder R) (search ms xs : List (List ℕ))
    → IsStrict R xs → AllByRecursion (IsChosenOf search ms) xs
    → AllPairs (λ (a b : List ℕ). module_name a ≡ module_name b → ⊥) xs
    × IsDistinct bytes_eq (map module_name xs)
unfolding IsDistinct
distinct o words ms [] rise all = (λ i j d l m. absurd (omega (arith, m)), tt)
distinct {R} o words ms (x ∷ xs) rise all =
    let p = and_parts _ _ rise in
    let others = apart o words ms x xs all.0 all.1 p.0 in
    let ih = distinct o words ms xs p.1 all.1 in (
      AllPairs-cons (λ (a b : List ℕ). module_name a ≡ module_name b → ⊥) x xs
          (All-from_recursion (λ y. module_name x ≡ module_name y → ⊥) xs others) ih.0,
      (apart-names x xs others, ih.1),
    )

-- ---- bytes

clean-byte : (b : ℕ) → is_bad_byte b ≡ false → (is_ascii_graphic b ≡ true) × ((b == 58) ≡ false)
clean-byte b h =
    let first = or-left (nat_lt b 33 || nat_lt 126 b) (b == 58) h in (
      and_from _ _ (le-leb 33 b (ltb-false b 33 (or-left (nat_lt b 33) (nat_lt 126 b) first)))
          (le-leb b 126 (ltb-false 126 b (or-right (nat_lt b 33) (nat_lt 126 b) first))),
      or-right (nat_lt b 33 || nat_lt 126 b) (b == 58) h,
    )

clean : (bytes : List ℕ) → list_any is_bad_byte bytes ≡ false
    → (list_all is_ascii_graphic bytes ≡ true) × (list_any (λ b. b == 58) bytes ≡ false)
clean [] h = (refl, refl)
clean (b ∷ bs) h =
    let here = clean-byte b (or-left (is_bad_byte b) (list_any is_bad_byte bs) h) in
    let rest = clean bs (or-right (is_bad_byte b) (list_any is_bad_byte bs) h) in
    (and_from _ _ here.0 rest.0, ap (λ c. c || list_any (λ b. b == 58) bs) here.1 ∙ rest.1)

-- the path of a module has a byte
graphic : (p : List ℕ) → is_module_path p ≡ true → list_any is_bad_byte p ≡ false
    → is_graphic p ≡ true
unfolding is_graphic
graphic [] h clear = absurd (true≢false (sym h))
graphic (b ∷ bs) h clear =
    and_from _ _ (ap not (ne_eqb (length (b ∷ bs)) 0 (λ e. absurd (omega (arith, e)))))
    (clean (b ∷ bs) clear).0

-- ---- the tree

least-none : (xs : List (List ℕ)) → least xs ≡ None → xs ≡ []
least-none [] e = refl
least-none (x ∷ xs) e = absurd (some (least xs) e)
  where
    chosen : (b : Bool) (q : List ℕ) → cond b (Some x) (Some q) ≡ None → ⊥
    chosen true q e = cc
    chosen false q e = cc

    some : (o : Option (List ℕ)) → lesser x o ≡ None → ⊥
    some None e = cc
    some (Some q) e = chosen (is_lt (by_bytes x q)) q e

-- what a tree says: no path is bad, there aren't too many names, and these are its paths
parts : (bad : Option (List ℕ)) (count : ℕ) (made paths : List (List ℕ))
    → tree_unless bad count made ≡ Ok paths
    → (bad ≡ None) × (nat_lt 10000 count ≡ false) × (made ≡ paths)
parts (Some p) count made paths e = absurd (no e)
  where
    no : tree_unless (Some p) count made ≡ Ok paths → ⊥
    no e = cc
parts None count made paths e = let r = by_test (nat_lt 10000 count) refl e in (refl, r.0, r.1)
  where
    many : (fault : TreeFault) → Err fault ≡ Ok paths → ⊥
    many fault e = cc

    by_test : (b : Bool) → nat_lt 10000 count ≡ b
        → cond b (Err (TooManyModules count)) (Ok made) ≡ Ok paths
        → (nat_lt 10000 count ≡ false) × (made ≡ paths)
    by_test true h e = absurd (many (TooManyModules count) e)
    by_test false h e = (h, cc)

known : (search lines listed : List (List ℕ)) → bad_path (filter is_module_path listed) ≡ None
    → nat_lt 10000 (name_count (filter is_module_path listed)) ≡ false
    → AreTreePaths (tree_paths search lines (filter is_module_path listed))
unfolding tree_paths name_count bad_path
known words lines listed clear few =
    let ms : List (List ℕ) = filter is_module_path listed in
    let R = listing_cmp lines in
    let o = listing_total lines in
    let tree : List (List ℕ) = in_order R (filter (is_chosen words ms) ms) in
    let of_tree : (q : List ℕ) → has q tree ≡ true → IsChosenOf words ms q = λ q h.
    let e : (has q ms && is_chosen words ms q) ≡ true
    = sym (any-filter (is_chosen words ms) q ms)
    ∙ sym (members o (listing_same lines) q (filter (is_chosen words ms) ms)) ∙ h in
    let p = and_parts _ _ e in
    record { there = p.0; chosen = p.1 } in
    let chosen : AllByRecursion (IsChosenOf words ms) tree
    = weaker (λ q. has q tree ≡ true) (IsChosenOf words ms) tree of_tree (own tree) in
    let there : AllByRecursion (λ q. has q ms ≡ true) tree
    = weaker (IsChosenOf words ms) (λ q. has q ms ≡ true) tree (λ q c. c.there) chosen in
    let good : (q : List ℕ) → has q ms ≡ true → list_any is_bad_byte q ≡ false = λ q h.
    let none : (has q ms && list_any is_bad_byte q) ≡ false
    = sym (any-filter (list_any is_bad_byte) q ms)
    ∙ ap (has q) (least-none (filter (list_any is_bad_byte) ms) clear) in
    sym (ap (λ b. b && list_any is_bad_byte q) h) ∙ none in
    let both = distinct o words ms tree (strict R (filter (is_chosen words ms) ms)) chosen in
    record {
      few =
          let within : length (map module_name tree)
          ≤ length (in_order by_bytes (map module_name ms))
          = length-le_from_is_member bytes_equiv (map module_name tree)
          (in_order by_bytes (map module_name ms)) both.1 (λ n h.
          members bytes_total bytes_same n (map module_name ms) ∙ names-among n tree ms there h) in
          omega (
            arith,
            within,
            length-map tree module_name,
            ltb-false 10000 (length (in_order by_bytes (map module_name ms))) few,
          );
      distinct = both.0;
      graphic
          = All-from_recursion (λ p. is_graphic p ≡ true) tree (weaker (λ q. has q ms ≡ true)
          (λ p. is_graphic p ≡ true) tree (λ q h.
          graphic q (and_parts _ _ (sym (any-filter is_module_path q listed) ∙ h)).1 (good q h))
          there);
      colon
          = All-from_recursion (λ p. not (list_any (λ b. b == 58) p) ≡ true) tree (weaker
          (λ q. has q ms ≡ true) (λ p. not (list_any (λ b. b == 58) p) ≡ true) tree (λ q h.
          ap not (clean q (good q h)).1) there);
    }

-- each path is one of a module
kinds : (search lines listed : List (List ℕ))
    → All (λ p. is_module_path p ≡ true) (tree_paths search lines (filter is_module_path listed))
unfolding tree_paths
kinds words lines listed =
    let ms : List (List ℕ) = filter is_module_path listed in
    let chosen : List (List ℕ) = filter (is_chosen words ms) ms in
    let tree : List (List ℕ) = in_order (listing_cmp lines) chosen in
    let of_tree : (q : List ℕ) → has q tree ≡ true → is_module_path q ≡ true = λ q h.
    let e : (has q ms && is_chosen words ms q) ≡ true
    = sym (any-filter (is_chosen words ms) q ms)
    ∙ sym (members (listing_total lines) (listing_same lines) q chosen) ∙ h in
    (and_parts _ _ (sym (any-filter is_module_path q listed) ∙ (and_parts _ _ e).0)).1 in
    All-from_recursion (λ p. is_module_path p ≡ true) tree
    (weaker (λ q. has q tree ≡ true) (λ p. is_module_path p ≡ true) tree of_tree (own tree))

pub tree-kinds : (listed : List (List ℕ)) (order : List ℕ) (search paths : List (List ℕ))
    → tree_of listed order search ≡ Ok paths → All (λ p. is_module_path p ≡ true) paths
unfolding tree_of
tree-kinds listed order words paths e =
    let ms : List (List ℕ) = filter is_module_path listed in
    let p = parts (bad_path ms) (name_count ms) (tree_paths words (lines_of order) ms) paths e in
    subst (All (λ p. is_module_path p ≡ true)) p.2 (kinds words (lines_of order) listed)

pub tree-paths : (listed : List (List ℕ)) (order : List ℕ) (search paths : List (List ℕ))
    → tree_of listed order search ≡ Ok paths → AreTreePaths paths
unfolding tree_of
tree-paths listed order words paths e =
    let p = parts _ _ _ paths e in
    subst AreTreePaths p.2 (known words (lines_of order) listed p.0 p.1)
