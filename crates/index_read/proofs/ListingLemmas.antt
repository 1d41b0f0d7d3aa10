-- The lists of keys with their values are the lists of the nodes, in their order.
use Rattle.std.proofs.Common.{◌≡◌, refl, sym, ap, subst, ◌∙◌, ⊎_elim, ℕ, zero, suc, ◌+◌, ◌<◌, ◌≤◌}
use Rattle.std.proofs.Common.{true, false, cond, nat_eq, nat_lt, nat_le, ◌&&◌, List, [], ◌∷◌, ◌++◌}
use Rattle.std.proofs.Common.{length, drop, map, filter, get_or, Some, None, arith, append_assoc}
use Rattle.std.proofs.Common.{length-append, Bool}
use Rattle.std.proofs.lemmas.Bool.{cases_lt, leb-true, and_parts, false≢true}
use Rattle.std.proofs.lemmas.List.{append-nil, append_cancel_left}
use Rattle.std.specs.List.{AllByRecursion, starts_with}
use Rattle.std.specs.List.Sorted.{IsSortedByKey}
use Rattle.std.specs.Ordering.{nat_cmp, is_eq, is_lt, ordering_reverse}
use Rattle.std.specs.declared.cmp.Ordering.{Ordering}
use Rattle.std.proofs.lemmas.Cmp.{nat_list_cmp_total}
use Rattle.std.specs.Cmp.Lexicographic.{slice_cmp}
use Rattle.std.specs.declared.cmp.Ordering.TheVariants.{Less, Equal, Greater}
use Rattle.index_format.specs.Map.{Value}
use Rattle.index_format.specs.Link.{place_of, has_children}
use Rattle.index_format.specs.Node.{root, prefix, after_prefix, child, values, last_byte}
use Rattle.index_format.specs.Check.{children_fit, index_fault}
use Rattle.index_format.specs.Walk.{walk, values_at, at}
use Rattle.index_format.specs.Nodes.{IsNode, top, below}
use Rattle.index_format.specs.Listing.{KeyValue, under, IsListing, IsSelection}
use Rattle.index_format.proofs.TreeLemmas.{R}
use Rattle.index_nodes.proofs.FieldLemmas.{range_fits, children_test}
use Rattle.index_nodes.proofs.SoundNodes.{child_below, child_range, node_sound}
use Rattle.index_read.specs.Keys.{Item, all_items, on_child, branches, key_bytes, items}
use Rattle.index_read.proofs.KeyLemmas.{branches-begin, items-begin}
use Rattle.index_read.proofs.OrderLemmas.{AllAfter, ItemsRise, items-rise, self_equal, apart_keys}
use Rattle.index_read.proofs.OrderLemmas.{sel, sel-none, all_weaker, starts_back, starts_front}
use Rattle.index_read.proofs.OrderLemmas.{sel-branches, sel-outside, branches-from}
use Rattle.index_read.proofs.ReachLemmas.{walk_other, walk_end, walk_lost, walk_child}

longer : (p : List ℕ) (c : ℕ) (r : List ℕ) → p ≡ p ++ c ∷ r → ⊥
longer p c r e = let size = ap length e in omega (arith, size, length-append p (c ∷ r))

last_low : (b : List ℕ) (link : ℕ) → has_children link ≡ true → children_fit b link ≡ true
    → last_byte b link ≤ 127
unfolding last_byte
last_low b link h fit =
    let rest = after_prefix b link in
    let first = get_or rest 0 0 in
    let last = get_or rest 1 0 in
    let all : range_fits rest first last ≡ true = sym (children_test b link rest h refl) ∙ fit in
    let tests = (and_parts (nat_le 2 (length rest)) _ all).1 in
    let ends = (and_parts (nat_lt 0 first && nat_le first last && nat_le last 127) _ tests).0 in
    leb-true last 127 (and_parts (nat_lt 0 first && nat_le first last) (nat_le last 127) ends).1

-- ---- the values of a key

module _ (b : List ℕ) (accepted : index_fault b ≡ None) where
  -- at a node whose prefix fits, by what is left of the key
  behind_prefix : (d link : ℕ) (key : List ℕ) → IsNode b link
      → ((next : ℕ) (under r : List ℕ) → IsNode b next → place_of next < place_of link
      → sel b (under ++ r) (items b d next under) ≡ values_at b (walk b next r).reached)
      → (r s : List ℕ) → starts_with nat_eq r (prefix b link) ≡ true
      → drop (length (prefix b link)) r ≡ s
      → sel b ((key ++ prefix b link) ++ s)
      ((key ++ prefix b link, link)
      ∷ branches (items b d) b link (key ++ prefix b link) 0 key_bytes)
      ≡ values_at b (walk b link r).reached
  unfolding sel
  behind_prefix d link key node ih r [] fits is =
      let w = key ++ prefix b link in
      let more = branches (items b d) b link w 0 key_bytes in
      ap (λ q. cond (is_eq (R q w)) (values b link) [] ++ sel b q more) (append-nil w)
      ∙ ap (λ t. cond t (values b link) [] ++ sel b w more) (self_equal w)
      ∙ ap (λ vs. values b link ++ vs)
      (sel-none b w more
      (all_weaker _ _ (λ item from e. longer w from.0 from.1 (e ∙ from.3)) more
      (branches-from (items b d) b link w 0 key_bytes (items-begin b d))))
      ∙ append-nil (values b link)
      ∙ ap (λ o. values_at b o.reached) (sym (walk_end b link r fits is))
  behind_prefix d link key node ih r (c ∷ t) fits is =
      let w = key ++ prefix b link in
      let more = branches (items b d) b link w 0 key_bytes in
      let q = w ++ c ∷ t in
      ap (λ x. cond x (values b link) [] ++ sel b q more)
      (apart_keys q w (λ e. longer w c t (sym e)))
      ∙ elim (child b link c) as
      (λ o. child b link c ≡ o → sel b q more ≡ values_at b (walk b link r).reached) [
        | None ↦ λ none.
            ⊎_elim
            (λ lt. sel-branches (items b d) b link w t c 0 key_bytes (items-begin b d) (omega arith)
            (omega (arith, lt))
            ∙ ap (λ o. sel b q (on_child o (λ next. items b d next (w ++ c ∷ [])))) none)
            (λ le. sel-outside (items b d) b link w t c 0 key_bytes (items-begin b d)
            (omega (arith, le)))
            (cases_lt c key_bytes)
            ∙ ap (λ o. values_at b o.reached) (sym (walk_lost b link r c t fits is none))
        | Some next ↦ λ some.
            let low = child_low link node c next some in
            let lt = child_below b accepted link c next node some in
            sel-branches (items b d) b link w t c 0 key_bytes (items-begin b d) (omega arith)
            (omega (arith, low))
            ∙ ap (λ o. sel b q (on_child o (λ next. items b d next (w ++ c ∷ [])))) some
            ∙ ap (λ k. sel b k (items b d next (w ++ c ∷ []))) (sym (append_assoc w (c ∷ []) t))
            ∙ ih next (w ++ c ∷ []) t (below c next node some) lt
            ∙ ap (λ o. values_at b o.reached) (sym (walk_child b link r c t next fits is some))
      ] refl
    where
      child_low : (link : ℕ) → IsNode b link → (c next : ℕ) → child b link c ≡ Some next → c ≤ 127
      child_low link node c next some =
          let r = child_range b link c next some in
          omega (arith, r.2, last_low b link r.0 (node_sound b accepted link node).children)

  pub at_items : (d link : ℕ) (key r : List ℕ) → IsNode b link → place_of link < d
      → sel b (key ++ r) (items b d link key) ≡ values_at b (walk b link r).reached
  unfolding items
  at_items zero link key r node deep = absurd (omega (arith, deep))
  at_items (suc d) link key r node deep =
      let p = prefix b link in
      let whole = (key ++ p, link) ∷ branches (items b d) b link (key ++ p) 0 key_bytes in
      elim (starts_with nat_eq r p) as
      (λ t. starts_with nat_eq r p ≡ t
      → sel b (key ++ r) whole ≡ values_at b (walk b link r).reached) [
        | true ↦ λ fits.
            ap (λ k. sel b (key ++ k) whole) (starts_back p r fits)
            ∙ ap (λ k. sel b k whole) (sym (append_assoc key p (drop (length p) r)))
            ∙ behind_prefix d link key node
            (λ next under r n lt. at_items d next under r n (omega (arith, lt, deep))) r
            (drop (length p) r) fits refl
        | false ↦ λ other.
            sel-none b (key ++ r) whole
            (all_weaker _ _
            (λ item begins e. other_key key p r other item.0 begins.0 begins.1 e) whole (
              ([], sym (append-nil (key ++ p))),
              branches-begin (items b d) b link (key ++ p) 0 key_bytes (items-begin b d),
            ))
            ∙ ap (λ o. values_at b o.reached) (sym (walk_other b link r other))
      ] refl
    where
      other_key : (key p r : List ℕ) → starts_with nat_eq r p ≡ false → (k x : List ℕ)
          → k ≡ (key ++ p) ++ x → key ++ r ≡ k → ⊥
      other_key key p r other k x is e =
          let same = append_cancel_left key r (p ++ x) (e ∙ is ∙ append_assoc key p x) in
          false≢true (sym other ∙ ap (λ q. starts_with nat_eq q p) same ∙ starts_front p x)

  pub sel-all : (q : List ℕ) → sel b q (all_items b) ≡ at b (root b) q
  unfolding at
  sel-all q =
      let node : IsNode b (root b) = top in
      let sound = node_sound b accepted (root b) node in
      at_items (length b + 1) (root b) [] q node (omega (arith, sound.within))

-- ---- pairs

abbrev pub pairs_of : List ℕ → Item → List KeyValue
pairs_of b item = map (λ v. (item.0, v)) (values b item.1)

under-append : (q : List ℕ) (xs ys : List KeyValue) → under q (xs ++ ys) ≡ under q xs ++ under q ys
under-append q [] ys = refl
under-append q (x ∷ xs) ys =
    elim (is_eq (slice_cmp nat_cmp q x.0)) as
    (λ t. map (λ p. p.1)
    (cond t (x ∷ filter (λ p. is_eq (slice_cmp nat_cmp q p.0)) (xs ++ ys))
    (filter (λ p. is_eq (slice_cmp nat_cmp q p.0)) (xs ++ ys)))
    ≡ map (λ p. p.1) (cond t (x ∷ filter (λ p. is_eq (slice_cmp nat_cmp q p.0)) xs)
    (filter (λ p. is_eq (slice_cmp nat_cmp q p.0)) xs))
    ++ under q ys) [
      | true ↦ ap (λ r. x.1 ∷ r) (under-append q xs ys)
      | false ↦ under-append q xs ys
    ]

under-one : (q k : List ℕ) (vs : List Value)
    → under q (map (λ v. (k, v)) vs) ≡ cond (is_eq (R q k)) vs []
under-one q k [] =
    elim (is_eq (R q k)) as (λ t. ◌≡◌ {A = List Value} [] (cond t [] []))
    [ true ↦ refl | false ↦ refl ]
under-one q k (v ∷ vs) =
    elim (is_eq (R q k)) as
    (λ t. is_eq (R q k) ≡ t
    → map (λ (p : KeyValue). p.1)
    (cond t ((k, v)
    ∷ filter (λ p. is_eq (slice_cmp nat_cmp q p.0)) (map (λ v. (k, v)) vs))
    (filter (λ p. is_eq (slice_cmp nat_cmp q p.0)) (map (λ v. (k, v)) vs)))
    ≡ cond t (v ∷ vs) []) [
      | true ↦ λ e. ap (λ r. v ∷ r) (under-one q k vs ∙ ap (λ t. cond t vs []) e)
      | false ↦ λ e. under-one q k vs ∙ ap (λ t. cond t vs []) e
    ] refl

-- the pairs of the nodes whose keys something is true of
pub data Chosen (b : List ℕ) (P : List ℕ → Type 0) : List Item → List KeyValue → Type 0 where
  none : Chosen b P [] []
  taken : {is : List Item} {ps : List KeyValue} (item : Item) → P item.0 → Chosen b P is ps
      → Chosen b P (item ∷ is) (pairs_of b item ++ ps)
  passed : {is : List Item} {ps : List KeyValue} (item : Item) → ¬ P item.0 → Chosen b P is ps
      → Chosen b P (item ∷ is) ps
  bare : {is : List Item} {ps : List KeyValue} (item : Item) → values b item.1 ≡ []
      → Chosen b P is ps → Chosen b P (item ∷ is) ps

pub chosen-append : (b : List ℕ) (P : List ℕ → Type 0) (is js : List Item) (ps qs : List KeyValue)
    → Chosen b P is ps → Chosen b P js qs → Chosen b P (is ++ js) (ps ++ qs)
chosen-append b P _ js _ qs none k = k
chosen-append b P _ js _ qs (taken {is = is} {ps = ps} item p h) k =
    subst (Chosen b P (item ∷ (is ++ js))) (sym (append_assoc (pairs_of b item) ps qs))
    (taken item p (chosen-append b P is js ps qs h k))
chosen-append b P _ js _ qs (passed {is = is} {ps = ps} item p h) k =
    passed item p (chosen-append b P is js ps qs h k)
chosen-append b P _ js _ qs (bare {is = is} {ps = ps} item e h) k =
    bare item e (chosen-append b P is js ps qs h k)

pub chosen-none : (b : List ℕ) (P : List ℕ → Type 0) (is : List Item)
    → AllByRecursion (λ item. ¬ P item.0) is → Chosen b P is []
chosen-none b P [] h = none
chosen-none b P (item ∷ is) h = passed item h.0 (chosen-none b P is h.1)

chosen-under : (b : List ℕ) (P : List ℕ → Type 0) (q : List ℕ) (is : List Item) (ps : List KeyValue)
    → Chosen b P is ps → P q → under q ps ≡ sel b q is
unfolding sel
chosen-under b P q _ _ none h = refl
chosen-under b P q _ _ (taken {is = is} {ps = ps} item p c) h =
    under-append q (pairs_of b item) ps
    ∙ (λ i. under-one q item.0 (values b item.1) i ++ chosen-under b P q is ps c h i)
chosen-under b P q _ _ (passed {is = is} {ps = ps} item p c) h =
    chosen-under b P q is ps c h
    ∙ ap (λ t. cond t (values b item.1) [] ++ sel b q is)
    (sym (apart_keys q item.0 (λ e. p (subst P e h))))
chosen-under b P q _ _ (bare {is = is} {ps = ps} item e c) h =
    chosen-under b P q is ps c h
    ∙ ap (λ vs. vs ++ sel b q is) (no_values (is_eq (R q item.0)))
    ∙ ap (λ vs. cond (is_eq (R q item.0)) vs [] ++ sel b q is) (sym e)
  where
    no_values : (t : Bool) → ◌≡◌ {A = List Value} [] (cond t [] [])
    no_values true = refl
    no_values false = refl

chosen-others : (b : List ℕ) (P : List ℕ → Type 0) (q : List ℕ) (is : List Item)
    (ps : List KeyValue)
    → Chosen b P is ps → ¬ P q → under q ps ≡ []
chosen-others b P q _ _ none h = refl
chosen-others b P q _ _ (taken {is = is} {ps = ps} item p c) h =
    under-append q (pairs_of b item) ps
    ∙ (λ i. (under-one q item.0 (values b item.1)
    ∙ ap (λ t. cond t (values b item.1) [])
    (apart_keys q item.0 (λ e. h (subst P (sym e) p)))) i
    ++ chosen-others b P q is ps c h i)
chosen-others b P q _ _ (passed item p c) h = chosen-others b P q _ _ c h
chosen-others b P q _ _ (bare item e c) h = chosen-others b P q _ _ c h

-- ---- keys never fall along the pairs

abbrev NotBelow : List ℕ → List KeyValue → Type 0
NotBelow k ps = AllByRecursion (λ p. is_lt (R p.0 k) ≡ false) ps

abbrev Never : List KeyValue → Type 0
Never [] = Unit {0}
Never (p ∷ ps) = NotBelow p.0 ps × Never ps

below_other_way : (x y : List ℕ) → R x y ≡ Less → is_lt (R y x) ≡ false
below_other_way x y e = ap is_lt (nat_list_cmp_total.antisymm y x ∙ ap ordering_reverse e)

not_below_self : (k : List ℕ) → is_lt (R k k) ≡ false
not_below_self k = equal_not_lt (R k k) (self_equal k)
  where
    equal_not_lt : (o : Ordering) → is_eq o ≡ true → is_lt o ≡ false
    equal_not_lt Less h = absurd (cc)
    equal_not_lt Equal h = refl
    equal_not_lt Greater h = refl

all_append : {X : Type 0} (P : X → Type 0) (xs ys : List X) → AllByRecursion P xs
    → AllByRecursion P ys → AllByRecursion P (xs ++ ys)
all_append P [] ys h k = k
all_append P (x ∷ xs) ys h k = (h.0, all_append P xs ys h.1 k)

pairs-below : (k j : List ℕ) (vs : List Value) → is_lt (R j k) ≡ false
    → NotBelow k (map (λ v. (j, v)) vs)
pairs-below k j [] h = tt
pairs-below k j (v ∷ vs) h = (h, pairs-below k j vs h)

chosen-below : (b : List ℕ) (P : List ℕ → Type 0) (k : List ℕ) (is : List Item) (ps : List KeyValue)
    → Chosen b P is ps → AllAfter k is → NotBelow k ps
chosen-below b P k _ _ none h = tt
chosen-below b P k _ _ (taken {is = is} {ps = ps} item p c) h =
    all_append _ (pairs_of b item) ps
    (pairs-below k item.0 (values b item.1) (below_other_way k item.0 h.0))
    (chosen-below b P k is ps c h.1)
chosen-below b P k _ _ (passed {is = is} {ps = ps} item p c) h = chosen-below b P k is ps c h.1
chosen-below b P k _ _ (bare {is = is} {ps = ps} item e c) h = chosen-below b P k is ps c h.1

never_more : (k : List ℕ) (vs : List Value) (ps : List KeyValue) → NotBelow k ps → Never ps
    → Never (map (λ v. (k, v)) vs ++ ps)
never_more k [] ps h n = n
never_more k (v ∷ vs) ps h n = (
  all_append _ (map (λ v. (k, v)) vs) ps (pairs-below k k vs (not_below_self k)) h,
  never_more k vs ps h n,
)

chosen-never : (b : List ℕ) (P : List ℕ → Type 0) (is : List Item) (ps : List KeyValue)
    → Chosen b P is ps → ItemsRise is → Never ps
chosen-never b P _ _ none h = tt
chosen-never b P _ _ (taken {is = is} {ps = ps} item p c) h =
    never_more item.0 (values b item.1) ps (chosen-below b P item.0 is ps c h.0)
    (chosen-never b P is ps c h.1)
chosen-never b P _ _ (passed {is = is} {ps = ps} item p c) h = chosen-never b P is ps c h.1
chosen-never b P _ _ (bare {is = is} {ps = ps} item e c) h = chosen-never b P is ps c h.1

never-sorted : (ps : List KeyValue) → Never ps → IsSortedByKey (λ p. p.0) (slice_cmp nat_cmp) ps
never-sorted [] h k d low high = absurd (omega (arith, high))
never-sorted (p ∷ []) h k d low high = absurd (omega (arith, high))
never-sorted (p ∷ (q ∷ ps)) h zero d low high =
    let one : 0 + 1 ≡ suc 0 = refl in
    ap (λ n. is_lt (R (get_or (p ∷ (q ∷ ps)) n d).0 p.0)) one ∙ h.0.0
never-sorted (p ∷ (q ∷ ps)) h (suc k) d low high =
    let more : suc k + 1 ≡ suc (k + 1) = omega arith in
    ap (λ n. is_lt (R (get_or (p ∷ (q ∷ ps)) n d).0 (get_or (q ∷ ps) k d).0)) more
    ∙ never-sorted (q ∷ ps) h.1 k d (omega arith) (omega (arith, high))

-- ---- the whole list

pub selection : (b : List ℕ) → index_fault b ≡ None → (P : List ℕ → Type 0) (ps : List KeyValue)
    → Chosen b P (all_items b) ps → IsSelection P (at b (root b)) ps
selection b accepted P ps c = record {
  keys
      = never-sorted ps
      (chosen-never b P (all_items b) ps c (items-rise b (length b + 1) (root b) []));
  each = λ q h. chosen-under b P q (all_items b) ps c h ∙ sel-all b accepted q;
  others = λ q h. chosen-others b P q (all_items b) ps c h;
}

pub listing : (b : List ℕ) → index_fault b ≡ None → (ps : List KeyValue)
    → Chosen b (λ _. Unit {0}) (all_items b) ps → IsListing (at b (root b)) ps
listing b accepted ps c =
    let s = selection b accepted (λ _. Unit {0}) ps c in
    record { keys = s.keys; each = λ q. s.each q tt }
