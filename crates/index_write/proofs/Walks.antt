-- A file in which the nodes of a tree were written has, for each key, the values of that key.
use Rattle.std.proofs.Common.{◌≡◌, refl, sym, ap, subst, ◌∙◌, ◌⊎◌, inl, inr, ⊎_elim, ℕ, zero, suc}
use Rattle.std.proofs.Common.{◌+◌, ◌*◌, ◌^◌, ◌<◌, ◌≤◌, Bool, true, false, cond, ◌==◌, ◌&&◌, nat_eq}
use Rattle.std.proofs.Common.{nat_le, List, [], ◌∷◌, ◌++◌, length, drop, map, Some, None, unwrap_or}
use Rattle.std.proofs.Common.{All, arith, length-append, append_assoc}
use Rattle.std.proofs.lemmas.Bool.{eqb-true, eq-eqb, leb-true}
use Rattle.std.proofs.lemmas.Bool.Decides.{eqb_tells}
use Rattle.std.proofs.Math.ListN.{length-drop}
use Rattle.std.proofs.lemmas.List.{drop-drop}
use Rattle.std.specs.List.{AllByRecursion, starts_with}
use Rattle.index_format.specs.declared.numbers.TheConstants.{FIRST_PLACE}
use Rattle.index_format.specs.Map.{Value, KeyValues, values_of}
use Rattle.std.specs.FinMap.{entries, get-entries}
use Rattle.index_format.specs.Link.{place_of, flag, link_to}
use Rattle.index_format.specs.Node.{root, prefix, child, values, present, after_prefix}
use Rattle.index_format.specs.Node.{after_children}
use Rattle.index_format.specs.Walk.{Lost, enters, onward, step, by_step, walk, at}
use Rattle.index_format.proofs.BigEndian.{be-at, be-number}
use Rattle.index_format.proofs.WalkLemmas.{at_within, at_within-zero, at_within-suc}
use Rattle.index_format.specs.Tree.{Entry, common_prefix, cut, ending, grouped, groups, siblings}
use Rattle.index_format.specs.Tree.{nodes_below, longest, tree, Rises}
use Rattle.index_format.specs.File.{Links, Written, offset, last, prefix_field, children_field}
use Rattle.index_format.specs.File.{values_field, node_bytes, written, file_of, file}
use Rattle.index_format.proofs.TreeLemmas.{common_prefix-front, Rises-cut, groups-rise, Within}
use Rattle.index_format.proofs.TreeLemmas.{Within-longest, Within-cut, groups-within}
use Rattle.index_format.proofs.TreeLemmas.{nodes_below-groups, behind}
use Rattle.index_write.specs.Lists.{found, IsStorable, IsStorableEntry}
use Rattle.index_write.specs.Parts.{last_of}
use Rattle.index_write.proofs.Lookup.{true_false, has, group_for, AllAbove, BytesRise, no_group}
use Rattle.index_write.proofs.Lookup.{groups-bytes, found-ending, found-behind, found-other}
use Rattle.index_write.proofs.Lookup.{found-group, starts_front, starts_back}
use Rattle.index_write.proofs.NodeLemmas.{bytes_of-nodes_of}
use Rattle.index_write.proofs.WriteLemmas.{length-le-values_field, last-bytes, links-bytes}
use Rattle.index_write.proofs.Reading.{NoNul, Fits, place_of-link_to, fields, drop_sized}
use Rattle.index_write.proofs.Reading.{read_prefix, read_after_prefix, read_no_child}
use Rattle.index_write.proofs.Reading.{read_no_children, read_after_children, read_child}
use Rattle.index_write.proofs.Reading.{read_outside, read_values}

-- ---- where nodes stand

-- The node with this prefix and these entries behind it is in b, with all that is below it.
pub record Stands (b : List ℕ) (d : ℕ) (p : List ℕ) (es : List Entry) (link : ℕ) : Type 0 where
  pub start : ℕ
  pub rest : List ℕ
  pub high : FIRST_PLACE ≤ start
  pub low : start
      + length (written start (nodes_below d es)).bytes
      + length (node_bytes p (written start (nodes_below d es)).links (ending es))
      ≤ 2 ^ 26
  pub tail : drop start b
      ≡ (written start (nodes_below d es)).bytes
      ++ (node_bytes p (written start (nodes_below d es)).links (ending es) ++ rest)
  pub is : link
      ≡ link_to (start + length (written start (nodes_below d es)).bytes) p
      (written start (nodes_below d es)).links (ending es)

-- The nodes of groups are in b from a place on.
pub record RowStands (b : List ℕ) (d : ℕ) (gs : List (ℕ × List Entry)) (start : ℕ) : Type 0 where
  pub rest : List ℕ
  pub high : FIRST_PLACE ≤ start
  pub low : start + length (written start (siblings (nodes_below d) gs)).bytes ≤ 2 ^ 26
  pub tail : drop start b ≡ (written start (siblings (nodes_below d) gs)).bytes ++ rest

drop_more : (b xs ys : List ℕ) (s : ℕ) → drop s b ≡ xs ++ ys → drop (s + length xs) b ≡ ys
drop_more b xs ys s e =
    sym (drop-drop (length xs) s b) ∙ ap (drop (length xs)) e ∙ drop_sized xs ys (length xs) refl

-- the first node of a row, and the others
module _ (b : List ℕ) (d byte : ℕ) (es : List Entry) (gs : List (ℕ × List Entry)) (s : ℕ)
    (row : RowStands b d ((byte, es) ∷ gs) s) where
  unfoldable pub under : Written
  under = written s (nodes_below d (behind es))

  unfoldable pub node : List ℕ
  node = node_bytes (common_prefix es) under.links (ending (behind es))

  unfoldable pub next : ℕ
  next = s + length under.bytes + length node

  pub more : Written
  more = written next (siblings (nodes_below d) gs)

  pub first_stands : Stands b d (common_prefix es) (behind es)
      (offset (written s (siblings (nodes_below d) ((byte, es) ∷ gs))).links byte)
  unfolding written under node next more
  first_stands = record {
    start = s;
    rest = more.bytes ++ row.rest;
    high = row.high;
    low
        = omega (
          arith,
          row.low,
          length-append (under.bytes ++ node) more.bytes,
          length-append under.bytes node,
        );
    tail
        = row.tail ∙ append_assoc (under.bytes ++ node) more.bytes row.rest
        ∙ append_assoc under.bytes node (more.bytes ++ row.rest);
    is
        = ap (λ t. cond t
        (link_to (s + length under.bytes) (common_prefix es) under.links (ending (behind es)))
        (offset more.links byte)) (eq-eqb byte byte refl);
  }

  -- the same by the node's own link
  pub first_own : Stands b d (common_prefix es) (behind es)
      (link_to (s + length (written s (nodes_below d (behind es))).bytes) (common_prefix es)
      (written s (nodes_below d (behind es))).links (ending (behind es)))
  unfolding written under node next more
  first_own = record {
    start = s;
    rest = more.bytes ++ row.rest;
    high = row.high;
    low
        = omega (
          arith,
          row.low,
          length-append (under.bytes ++ node) more.bytes,
          length-append under.bytes node,
        );
    tail
        = row.tail ∙ append_assoc (under.bytes ++ node) more.bytes row.rest
        ∙ append_assoc under.bytes node (more.bytes ++ row.rest);
    is = refl;
  }

  pub first_own_start : first_own.start ≡ s
  unfolding first_own
  first_own_start = refl

  pub row_inside : s ≤ length b
      → s
      + length (written s (nodes_below d (behind es))).bytes
      + length (node_bytes (common_prefix es) (written s (nodes_below d (behind es))).links
      (ending (behind es)))
      ≤ length b
  unfolding written under node next more
  row_inside h
      = omega (
        arith,
        h,
        ap length row.tail,
        length-drop s b,
        length-append ((under.bytes ++ node) ++ more.bytes) row.rest,
        length-append (under.bytes ++ node) more.bytes,
        length-append under.bytes node,
      )

  pub others_stand : RowStands b d gs next
  unfolding written under node next more
  others_stand = record {
    rest = row.rest;
    high = omega (arith, row.high);
    low
        = omega (
          arith,
          row.low,
          length-append (under.bytes ++ node) more.bytes,
          length-append under.bytes node,
        );
    tail =
        let at : next ≡ s + length (under.bytes ++ node)
        = omega (arith, length-append under.bytes node) in
        ap (λ k. drop k b) at
        ∙ drop_more b (under.bytes ++ node) (more.bytes ++ row.rest) s
        (row.tail ∙ append_assoc (under.bytes ++ node) more.bytes row.rest);
  }

later : (d c byte : ℕ) (es : List Entry) (gs : List (ℕ × List Entry)) (s : ℕ) → (byte == c) ≡ false
    → offset (written s (siblings (nodes_below d) ((byte, es) ∷ gs))).links c
    ≡ offset (written
    (s
    + length (written s (nodes_below d (behind es))).bytes
    + length (node_bytes (common_prefix es)
    (written s (nodes_below d (behind es))).links (ending (behind es))))
    (siblings (nodes_below d) gs)).links c
unfolding written
later d c byte es gs s e =
    let under = written s (nodes_below d (behind es)) in
    let at = s + length under.bytes in
    ap (λ t. cond t (link_to at (common_prefix es) under.links (ending (behind es)))
    (offset (written
    (at + length (node_bytes (common_prefix es) under.links (ending (behind es))))
    (siblings (nodes_below d) gs)).links c)) e

pub row_absent : (d c : ℕ) (gs : List (ℕ × List Entry)) (s : ℕ) → has c gs ≡ false
    → offset (written s (siblings (nodes_below d) gs)).links c ≡ 0
unfolding written
row_absent d c [] s h = refl
row_absent d c ((byte, es) ∷ gs) s h =
    let under = written s (nodes_below d (behind es)) in
    let at = s + length under.bytes in
    let link = link_to at (common_prefix es) under.links (ending (behind es)) in
    let next = at + length (node_bytes (common_prefix es) under.links (ending (behind es))) in
    elim (byte == c) as
    (λ t. cond t true (has c gs) ≡ false
    → cond t link (offset (written next (siblings (nodes_below d) gs)).links c) ≡ 0) [
      | true ↦ λ g. absurd (cc)
      | false ↦ λ g. row_absent d c gs next g
    ] h

-- the link to the node of a group
pub row_offset : (b : List ℕ) (d c : ℕ) (gs : List (ℕ × List Entry)) (s : ℕ) → RowStands b d gs s
    → has c gs ≡ true
    → Stands b d (common_prefix (group_for c gs)) (behind (group_for c gs))
    (offset (written s (siblings (nodes_below d) gs)).links c)
unfolding next under node
row_offset b d c [] s row h = absurd (cc)
row_offset b d c ((byte, es) ∷ gs) s row h =
    elim (byte == c) as
    (λ t. (byte == c) ≡ t → cond t true (has c gs) ≡ true
    → Stands b d (common_prefix (cond t es (group_for c gs)))
    (behind (cond t es (group_for c gs)))
    (offset (written s (siblings (nodes_below d) ((byte, es) ∷ gs))).links c)) [
      | true ↦ λ e g. subst
          (λ x. Stands b d (common_prefix es) (behind es)
          (offset (written s (siblings (nodes_below d) ((byte, es) ∷ gs))).links x))
          (eqb-true byte c e) (first_stands b d byte es gs s row)
      | false ↦ λ e g. subst (Stands b d (common_prefix (group_for c gs)) (behind (group_for c gs)))
          (sym (later d c byte es gs s e))
          (row_offset b d c gs _ (others_stand b d byte es gs s row) g)
    ] refl h

-- ---- what a node's own bytes say

pub length-fields : (p : List ℕ) (links : Links) (vs : List Value)
    → length (values_field vs) ≤ length (node_bytes p links vs)
unfolding node_bytes
length-fields p links vs =
    omega (arith, length-append (prefix_field p ++ children_field links) (values_field vs))

pub after_children_are : (b : List ℕ) (at : ℕ) (p : List ℕ) (links : Links) (vs : List Value)
    (rest : List ℕ)
    → at < 2 ^ 28
    → after_prefix b (link_to at p links vs) ≡ children_field links ++ (values_field vs ++ rest)
    → after_children b (link_to at p links vs) ≡ values_field vs ++ rest
after_children_are b at p [] vs rest low tail =
    read_no_children b at p vs (values_field vs ++ rest) low ∙ tail
after_children_are b at p (l ∷ ls) vs rest low tail =
    read_after_children b at p vs (values_field vs ++ rest) low l ls tail

flag_small : {A : Type 0} (xs : List A) → flag xs ≤ 1
flag_small [] = omega arith
flag_small (x ∷ xs) = omega arith

small : (p v c at : ℕ) → p ≤ 1 → v ≤ 1 → c ≤ 1 → at < 2 ^ 28
    → p * 2 ^ 31 + v * 2 ^ 30 + c * 2 ^ 29 + at < 2 ^ 32
small p v c at hp hv hc h = omega arith

module _ (b : List ℕ) (d : ℕ) (p : List ℕ) (es : List Entry) (link : ℕ) (st : Stands b d p es link)
  where
    unfoldable pub below : Written
    below = written st.start (nodes_below d es)

    unfoldable pub place : ℕ
    place = st.start + length below.bytes

    pub place_low : place < 2 ^ 28
    unfolding place below
    place_low = omega (arith, st.low)

    link_small : link < 2 ^ 32
    unfolding place below
    link_small
        = subst (λ n. n < 2 ^ 32) (sym st.is)
        (small (flag p) (flag (ending es)) (flag below.links) place (flag_small p)
        (flag_small (ending es)) (flag_small below.links) place_low)

    link_present : present link ≡ Some link
    unfolding place below
    link_present =
        let at : place_of link ≡ place
        = ap place_of st.is ∙ place_of-link_to place p below.links (ending es) place_low in
        let apart : (place_of link == 0) ≡ false
        = ⊎_elim (λ q. absurd (omega (arith, q.1, at, st.high))) (λ q. q.0)
        (eqb_tells (place_of link) 0) in
        ap (λ t. cond t None (Some link)) apart

    pub place_tail : drop place b
        ≡ prefix_field p ++ (children_field below.links ++ (values_field (ending es) ++ st.rest))
    unfolding place below
    place_tail =
        drop_more b below.bytes (node_bytes p below.links (ending es) ++ st.rest) st.start st.tail
        ∙ fields p below.links (ending es) st.rest

    module _ (text : NoNul p) where
      prefix_is : prefix b link ≡ p
      unfolding place below
      prefix_is
          = ap (prefix b) st.is
          ∙ read_prefix b place below.links (ending es)
          (children_field below.links ++ (values_field (ending es) ++ st.rest)) place_low p
          place_tail text

      pub after_is : after_prefix b (link_to place p below.links (ending es))
          ≡ children_field below.links ++ (values_field (ending es) ++ st.rest)
      after_is
          = read_after_prefix b place below.links (ending es)
          (children_field below.links ++ (values_field (ending es) ++ st.rest)) place_low p
          place_tail text

      values_are : AllByRecursion Fits (ending es) → values b link ≡ ending es
      unfolding place below
      values_are fit =
          let vs = ending es in
          let few : length vs < 2 ^ 32
          = omega (arith, st.low, length-le-values_field vs, length-fields p below.links vs) in
          ap (values b) st.is
          ∙ read_values b place p below.links vs st.rest place_low
          (after_children_are b place p below.links vs st.rest place_low after_is) few fit

-- ---- the children of a row

pub last_of_above : (byte c : ℕ) (gs : List (ℕ × List Entry)) → AllAbove byte gs → BytesRise gs
    → (c ≡ byte) ⊎ (has c gs ≡ true) → c ≤ last_of byte (map (λ g. g.0) gs)
last_of_above byte c [] above rise (inl e) = omega (arith, e)
last_of_above byte c [] above rise (inr h) = absurd (true_false (sym h))
last_of_above byte c ((b, es) ∷ gs) above rise (inl e) =
    omega (arith, e, above.0, last_of_above b b gs rise.0 rise.1 (inl refl))
last_of_above byte c ((b, es) ∷ gs) above rise (inr h) =
    elim (b == c) as
    (λ t. (b == c) ≡ t → cond t true (has c gs) ≡ true → c ≤ last_of b (map (λ g. g.0) gs)) [
      | true ↦ λ e g. last_of_above b c gs rise.0 rise.1 (inl (sym (eqb-true b c e)))
      | false ↦ λ e g. last_of_above b c gs rise.0 rise.1 (inr g)
    ] refl h

has_above : (byte c : ℕ) (gs : List (ℕ × List Entry)) → AllAbove byte gs → has c gs ≡ true
    → byte < c
has_above byte c [] above h = absurd (true_false (sym h))
has_above byte c ((b, es) ∷ gs) above h =
    elim (b == c) as (λ t. (b == c) ≡ t → cond t true (has c gs) ≡ true → byte < c) [
      | true ↦ λ e g. omega (arith, above.0, eqb-true b c e)
      | false ↦ λ e g. has_above byte c gs above.1 g
    ] refl h

first_below : (byte c : ℕ) (es : List Entry) (gs : List (ℕ × List Entry)) → AllAbove byte gs
    → has c ((byte, es) ∷ gs) ≡ true → (byte ≤ c) × ((c ≡ byte) ⊎ (has c gs ≡ true))
first_below byte c es gs above h =
    elim (byte == c) as
    (λ t. (byte == c) ≡ t → cond t true (has c gs) ≡ true
    → (byte ≤ c) × ((c ≡ byte) ⊎ (has c gs ≡ true))) [
      | true ↦ λ e g. (omega (arith, eqb-true byte c e), inl (sym (eqb-true byte c e)))
      | false ↦ λ e g. (omega (arith, has_above byte c gs above g), inr g)
    ] refl h

pub row_last : (d byte : ℕ) (gs : List (ℕ × List Entry)) (s : ℕ)
    → last byte (written s (siblings (nodes_below d) gs)).links ≡ last_of byte (map (λ g. g.0) gs)
row_last d byte gs s =
    last-bytes byte (written s (siblings (nodes_below d) gs)).links
    ∙ ap (last_of byte) (links-bytes (siblings (nodes_below d) gs) s ∙ bytes_of-nodes_of d gs)

and_left : (x y : Bool) → (x && y) ≡ true → x ≡ true
and_left true y h = refl
and_left false y h = h

and_right : (x y : Bool) → (x && y) ≡ true → y ≡ true
and_right true y h = h
and_right false y h = absurd (true_false (sym h))

module _ (b : List ℕ) (at : ℕ) (p : List ℕ) (vs : List Value) (more : List ℕ) (low : at < 2 ^ 28)
    (d c : ℕ) where
  child_there : (gs : List (ℕ × List Entry)) (s : ℕ)
      → after_prefix b (link_to at p (written s (siblings (nodes_below d) gs)).links vs)
      ≡ children_field (written s (siblings (nodes_below d) gs)).links ++ more
      → BytesRise gs → has c gs ≡ true
      → offset (written s (siblings (nodes_below d) gs)).links c < 2 ^ 32
      → child b (link_to at p (written s (siblings (nodes_below d) gs)).links vs) c
      ≡ present (offset (written s (siblings (nodes_below d) gs)).links c)
  unfolding written
  child_there [] s tail rise h fits = absurd (true_false (sym h))
  child_there ((byte, es) ∷ gs) s tail rise h fits =
      let under = written s (nodes_below d (behind es)) in
      let place = s + length under.bytes in
      let next = place + length (node_bytes (common_prefix es) under.links (ending (behind es))) in
      let within = first_below byte c es gs rise.0 h in
      read_child b at p vs more low
      (byte, link_to place (common_prefix es) under.links (ending (behind es)))
      (written next (siblings (nodes_below d) gs)).links tail c within.0
      (omega (arith, row_last d byte gs next, last_of_above byte c gs rise.0 rise.1 within.1)) fits

  child_absent : (gs : List (ℕ × List Entry)) (s : ℕ)
      → after_prefix b (link_to at p (written s (siblings (nodes_below d) gs)).links vs)
      ≡ children_field (written s (siblings (nodes_below d) gs)).links ++ more
      → has c gs ≡ false
      → child b (link_to at p (written s (siblings (nodes_below d) gs)).links vs) c ≡ None
  unfolding written
  child_absent [] s tail h = read_no_child b at p vs more low c
  child_absent ((byte, es) ∷ gs) s tail h =
      let under = written s (nodes_below d (behind es)) in
      let place = s + length under.bytes in
      let next = place + length (node_bytes (common_prefix es) under.links (ending (behind es))) in
      let l : ℕ × ℕ = (byte, link_to place (common_prefix es) under.links (ending (behind es))) in
      let ls = (written next (siblings (nodes_below d) gs)).links in
      let zero_here : offset (l ∷ ls) c ≡ 0 = row_absent d c ((byte, es) ∷ gs) s h in
      elim (nat_le byte c && nat_le c (last byte ls)) as
      (λ t. (nat_le byte c && nat_le c (last byte ls)) ≡ t
      → child b (link_to at p (l ∷ ls) vs) c ≡ None) [
        | true ↦ λ e.
            read_child b at p vs more low l ls tail c
            (leb-true byte c (and_left (nat_le byte c) (nat_le c (last byte ls)) e))
            (leb-true c (last byte ls) (and_right (nat_le byte c) (nat_le c (last byte ls)) e))
            (omega (arith, zero_here))
            ∙ ap present zero_here
        | false ↦ λ e. read_outside b at p vs more low l ls tail c e
      ] refl

-- ---- entries that a tree can be made of

pub record Good (d : ℕ) (es : List Entry) : Type 0 where
  pub rises : Rises es
  pub within : Within d es
  pub keys : AllByRecursion (λ e. NoNul e.0) es
  pub fit : AllByRecursion (λ e. AllByRecursion Fits e.1) es

NoNul-drop : (n : ℕ) (k : List ℕ) → NoNul k → NoNul (drop n k)
NoNul-drop zero k h = h
NoNul-drop (suc n) [] h = tt
NoNul-drop (suc n) (c ∷ k) h = NoNul-drop n k h.1

NoNul-front : (p r : List ℕ) → NoNul (p ++ r) → NoNul p
NoNul-front [] r h = tt
NoNul-front (c ∷ p) r h = (h.0, NoNul-front p r h.1)

keys-cut : (n : ℕ) (es : List Entry) → AllByRecursion (λ e. NoNul e.0) es
    → AllByRecursion (λ e. NoNul e.0) (cut n es)
keys-cut n [] h = tt
keys-cut n (e ∷ es) h = (NoNul-drop n e.0 h.0, keys-cut n es h.1)

fit-cut : (n : ℕ) (es : List Entry) → AllByRecursion (λ e. AllByRecursion Fits e.1) es
    → AllByRecursion (λ e. AllByRecursion Fits e.1) (cut n es)
fit-cut n [] h = tt
fit-cut n (e ∷ es) h = (h.0, fit-cut n es h.1)

pub Good-behind : (d : ℕ) (es : List Entry) → Good d es → Good d (behind es)
Good-behind d es h = record {
  rises = Rises-cut (common_prefix es) es (common_prefix-front es) h.rises;
  within = Within-cut (length (common_prefix es)) d es h.within;
  keys = keys-cut (length (common_prefix es)) es h.keys;
  fit = fit-cut (length (common_prefix es)) es h.fit;
}

pub NoNul-prefix : (es : List Entry) → AllByRecursion (λ e. NoNul e.0) es → NoNul (common_prefix es)
NoNul-prefix [] h = tt
NoNul-prefix (e ∷ es) h =
    let front = (common_prefix-front (e ∷ es)).0 in
    NoNul-front (common_prefix (e ∷ es)) front.0 (subst NoNul front.1 h.0)

grouped-all : (P : Entry → Type 0) (d : ℕ) (e : Entry) (gs : List (ℕ × List Entry)) → P e
    → AllByRecursion (λ g. AllByRecursion P g.1) gs
    → AllByRecursion (λ g. AllByRecursion P g.1) (grouped d e gs)
grouped-all P d e [] p h = ((p, tt), tt)
grouped-all P d e ((b, fs) ∷ gs) p h =
    elim (d == b) as
    (λ t. AllByRecursion (λ g. AllByRecursion P g.1)
    (cond t ((b, e ∷ fs) ∷ gs) ((d, e ∷ []) ∷ (b, fs) ∷ gs))) [
      | true ↦ ((p, h.0), h.1)
      | false ↦ ((p, tt), h)
    ]

pub groups-all : (P : Entry → Type 0)
    → ((c : ℕ) (k : List ℕ) (v : List Value) → P (c ∷ k, v) → P (k, v)) → (es : List Entry)
    → AllByRecursion P es → AllByRecursion (λ g. AllByRecursion P g.1) (groups es)
groups-all P f [] h = tt
groups-all P f (([], v) ∷ es) h = groups-all P f es h.1
groups-all P f ((c ∷ k, v) ∷ es) h =
    grouped-all P c (k, v) (groups es) (f c k v h.0) (groups-all P f es h.1)

of_group : (P : List Entry → Type 0) (c : ℕ) (gs : List (ℕ × List Entry))
    → AllByRecursion (λ g. P g.1) gs → has c gs ≡ true → P (group_for c gs)
of_group P c [] all h = absurd (true_false (sym h))
of_group P c ((b, es) ∷ gs) all h =
    elim (b == c) as (λ t. cond t true (has c gs) ≡ true → P (cond t es (group_for c gs))) [
      | true ↦ λ g. all.0
      | false ↦ λ g. of_group P c gs all.1 g
    ] h

pub Within-suc : (n : ℕ) (es : List Entry) → Within n es → Within (suc n) es
Within-suc n [] h = tt
Within-suc n (e ∷ es) h = (omega (arith, h.0), Within-suc n es h.1)

pub Good-group : (d c : ℕ) (es : List Entry) → Good d es → has c (groups es) ≡ true
    → Good d (group_for c (groups es))
Good-group d c es good h = record {
  rises = of_group Rises c (groups es) (groups-rise es good.rises) h;
  within = of_group (Within d) c (groups es) (groups-within d es (Within-suc d es good.within)) h;
  keys
      = of_group (AllByRecursion (λ e. NoNul e.0)) c (groups es)
      (groups-all (λ e. NoNul e.0) (λ b k v q. q.1) es good.keys) h;
  fit
      = of_group (AllByRecursion (λ e. AllByRecursion Fits e.1)) c (groups es)
      (groups-all (λ e. AllByRecursion Fits e.1) (λ b k v q. q) es good.fit) h;
}

pub Fits-ending : (es : List Entry) → AllByRecursion (λ e. AllByRecursion Fits e.1) es
    → AllByRecursion Fits (ending es)
Fits-ending [] h = tt
Fits-ending (([], v) ∷ es) h = h.0
Fits-ending ((c ∷ k, v) ∷ es) h = tt

-- ---- the walk

module _ (b : List ℕ) (d : ℕ) (p : List ℕ) (es : List Entry) (link : ℕ) (st : Stands b d p es link)
    (good : Good d es) (text : NoNul p) where
  pub as_row : nodes_below d es ≡ siblings (nodes_below d) (groups es)
  as_row = nodes_below-groups d es good.within

  pub row : RowStands b d (groups es) st.start
  row = record {
    rest = node_bytes p (written st.start (nodes_below d es)).links (ending es) ++ st.rest;
    high = st.high;
    low = omega (arith, st.low, ap (λ ns. length (written st.start ns).bytes) as_row);
    tail
        = st.tail
        ∙ ap (λ ns. (written st.start ns).bytes
        ++ (node_bytes p (written st.start (nodes_below d es)).links (ending es)
        ++ st.rest)) as_row;
  }

  unfoldable pub at_place : ℕ
  at_place = place b d p es link st

  pub link_row : link
      ≡ link_to at_place p (written st.start (siblings (nodes_below d) (groups es))).links
      (ending es)
  unfolding at_place place below
  link_row = st.is ∙ ap (λ ns. link_to at_place p (written st.start ns).links (ending es)) as_row

  pub row_tail : after_prefix b
      (link_to at_place p (written st.start (siblings (nodes_below d) (groups es))).links
      (ending es))
      ≡ children_field (written st.start (siblings (nodes_below d) (groups es))).links
      ++ (values_field (ending es) ++ st.rest)
  unfolding at_place place below
  row_tail
      = subst (λ ns. after_prefix b (link_to at_place p (written st.start ns).links (ending es))
      ≡ children_field (written st.start ns).links ++ (values_field (ending es) ++ st.rest))
      as_row (after_is b d p es link st text)

  pub at_low : at_place < 2 ^ 28
  unfolding at_place
  at_low = place_low b d p es link st

  pub the_child : (c : ℕ) → has c (groups es) ≡ true
      → (child_link : ℕ) × (child b link c ≡ Some child_link)
      × Stands b d (common_prefix (group_for c (groups es))) (behind (group_for c (groups es)))
      child_link
  the_child c h =
      let o = offset (written st.start (siblings (nodes_below d) (groups es))).links c in
      let stands = row_offset b d c (groups es) st.start row h in
      let pc = common_prefix (group_for c (groups es)) in
      let rest = behind (group_for c (groups es)) in (
        o,
        ap (λ l. child b l c) link_row
            ∙ child_there b at_place p (ending es) (values_field (ending es) ++ st.rest) at_low d c
            (groups es) st.start row_tail (groups-bytes es good.rises) h
            (link_small b d pc rest o stands)
            ∙ link_present b d pc rest o stands,
        stands,
      )

  pub child_is : (c : ℕ) → has c (groups es) ≡ true
      → child b link c
      ≡ Some (offset (written st.start (siblings (nodes_below d) (groups es))).links c)
  child_is c h =
      let o = offset (written st.start (siblings (nodes_below d) (groups es))).links c in
      let stands = row_offset b d c (groups es) st.start row h in
      let pc = common_prefix (group_for c (groups es)) in
      let rest = behind (group_for c (groups es)) in
      ap (λ l. child b l c) link_row
      ∙ child_there b at_place p (ending es) (values_field (ending es) ++ st.rest) at_low d c
      (groups es) st.start row_tail (groups-bytes es good.rises) h
      (link_small b d pc rest o stands)
      ∙ link_present b d pc rest o stands

  pub no_child : (c : ℕ) → has c (groups es) ≡ false → child b link c ≡ None
  no_child c h
      = ap (λ l. child b l c) link_row
      ∙ child_absent b at_place p (ending es) (values_field (ending es) ++ st.rest) at_low d c
      (groups es) st.start row_tail h

  pub step_front : (k : List ℕ) → step b link (p ++ k) ≡ onward b link k
  unfolding step
  step_front k =
      (λ i. cond (starts_with nat_eq (p ++ k) (prefix_is b d p es link st text i))
      (onward b link (drop (length (prefix_is b d p es link st text i)) (p ++ k))) Lost)
      ∙ ap (λ t. cond t (onward b link (drop (length p) (p ++ k))) Lost) (starts_front p k)
      ∙ ap (onward b link) (drop_sized p k (length p) refl)

  pub step_lost : (key : List ℕ) → starts_with nat_eq key p ≡ false → step b link key ≡ Lost
  unfolding step
  step_lost key h =
      (λ i. cond (starts_with nat_eq key (prefix_is b d p es link st text i))
      (onward b link (drop (length (prefix_is b d p es link st text i)) key)) Lost)
      ∙ ap (λ t. cond t (onward b link (drop (length p) key)) Lost) h

-- what a walk of at most n nodes finds
pub record Finds (b : List ℕ) (n : ℕ) (p : List ℕ) (es : List Entry) (link : ℕ) : Type 0 where
  pub values : (k : List ℕ) → length k < n → at_within b n link (p ++ k) ≡ found es k
  pub nothing : (key : List ℕ) → starts_with nat_eq key p ≡ false → at_within b n link key ≡ []

-- a key at the node of a group, from what a walk finds behind its prefix
group_walk : (b : List ℕ) (n : ℕ) (es : List Entry) (link : ℕ) (key : List ℕ)
    → Finds b n (common_prefix es) (behind es) link → length key < n
    → at_within b n link key ≡ found es key
group_walk b n es link key f lt =
    let p = common_prefix es in
    elim (starts_with nat_eq key p) as
    (λ t. starts_with nat_eq key p ≡ t → at_within b n link key ≡ found es key) [
      | true ↦ λ e.
          let whole = starts_back p key e in
          ap (at_within b n link) whole
          ∙ f.values (drop (length p) key) (omega (arith, lt, length-drop (length p) key))
          ∙ sym (found-behind p (drop (length p) key) es (common_prefix-front es))
          ∙ ap (found es) (sym whole)
      | false ↦ λ e. f.nothing key e ∙ sym (found-other p key es (common_prefix-front es) e)
    ] refl

module _ (n : ℕ) (b : List ℕ) (d : ℕ) (p : List ℕ) (es : List Entry) (link : ℕ)
    (st : Stands b d p es link) (good : Good d es) (text : NoNul p)
    (further : (c child_link : ℕ) → has c (groups es) ≡ true
    → Stands b d (common_prefix (group_for c (groups es)))
    (behind (group_for c (groups es))) child_link
    → Finds b n (common_prefix (group_for c (groups es))) (behind (group_for c (groups es)))
    child_link) where
  goes_on : (k : List ℕ) → length k < suc n
      → by_step (onward b link k) (values b link) (at_within b n) [] ≡ found es k
  goes_on [] lt
      = values_are b d p es link st text (Fits-ending es good.fit)
      ∙ sym (found-ending es good.rises)
  goes_on (c ∷ k) lt =
      elim (has c (groups es)) as
      (λ t. has c (groups es) ≡ t
      → by_step (enters (child b link c) k) (values b link) (at_within b n) []
      ≡ found es (c ∷ k)) [
        | true ↦ λ h.
            let there = the_child b d p es link st good text c h in
            ap (λ o. by_step (enters o k) (values b link) (at_within b n) []) there.1
            ∙ group_walk b n (group_for c (groups es)) there.0 k (further c there.0 h there.2)
            (omega (arith, lt))
            ∙ sym (found-group c k es good.rises)
        | false ↦ λ h.
            ap (λ o. by_step (enters o k) (values b link) (at_within b n) [])
            (no_child b d p es link st good text c h)
            ∙ sym (found-group c k es good.rises ∙ ap (λ fs. found fs k) (no_group c (groups es) h))
      ] refl

pub walk_finds : (n : ℕ) (b : List ℕ) (d : ℕ) (p : List ℕ) (es : List Entry) (link : ℕ)
    → Stands b d p es link → Good d es → NoNul p → Finds b n p es link
walk_finds zero b d p es link st good text =
    record {
      values = λ k lt. absurd (omega (arith, lt));
      nothing = λ key h. at_within-zero b link key;
    }
walk_finds (suc n) b d p es link st good text =
    let further
    = λ (c child_link : ℕ) (h : has c (groups es) ≡ true)
    (there : Stands b d (common_prefix (group_for c (groups es)))
    (behind (group_for c (groups es))) child_link).
    walk_finds n b d (common_prefix (group_for c (groups es))) (behind (group_for c (groups es)))
    child_link there (Good-behind d (group_for c (groups es)) (Good-group d c es good h))
    (NoNul-prefix (group_for c (groups es)) (Good-group d c es good h).keys) in
    record {
      values
          = λ k lt. at_within-suc b n link (p ++ k)
          ∙ ap (λ s. by_step s (values b link) (at_within b n) [])
          (step_front b d p es link st good text k)
          ∙ goes_on n b d p es link st good text further k lt;
      nothing
          = λ key h. at_within-suc b n link key
          ∙ ap (λ s. by_step s (values b link) (at_within b n) [])
          (step_lost b d p es link st good text key h);
    }

-- ---- the whole file

-- the entries of a map whose file can be read
abbrev pub Sound : List Entry → Type 0
Sound es = AllByRecursion IsStorableEntry es

text_is : (text : List ℕ) → All (λ byte. 0 < byte) text → NoNul text
text_is [] h = tt
text_is (c ∷ text) h = (h 0 0 (omega arith), text_is text (λ k d lt. h (suc k) d (omega arith)))

pub key_is : (key : List ℕ) → All (λ byte. (0 < byte) × (byte < 128)) key → NoNul key
key_is [] h = tt
key_is (c ∷ key) h = ((h 0 0 (omega arith)).0, key_is key (λ k d lt. h (suc k) d (omega arith)))

fits_all : (vs : List Value) → AllByRecursion IsStorable vs → AllByRecursion Fits vs
fits_all [] h = tt
fits_all (v ∷ vs) h = ((h.0.0, text_is v.1 h.0.1), fits_all vs h.1)

sound_keys : (es : List Entry) → Sound es → AllByRecursion (λ e. NoNul e.0) es
sound_keys [] h = tt
sound_keys (e ∷ es) h = (key_is e.0 h.0.key, sound_keys es h.1)

sound_fit : (es : List Entry) → Sound es → AllByRecursion (λ e. AllByRecursion Fits e.1) es
sound_fit [] h = tt
sound_fit (e ∷ es) h = (fits_all e.1 h.0.values, sound_fit es h.1)

pub Good-sound : (es : List Entry) → Rises es → Sound es → Good (longest es) es
Good-sound es r h =
    record { rises = r; within = Within-longest es; keys = sound_keys es h; fit = sound_fit es h }

module _ (es : List Entry) (low : length (file_of (written FIRST_PLACE (tree es))) ≤ 2 ^ 26) where
  unfoldable pub bytes : List ℕ
  bytes = file_of (written FIRST_PLACE (tree es))

  unfoldable pub under_root : Written
  under_root = written FIRST_PLACE (nodes_below (longest es) es)

  unfoldable pub root_link : ℕ
  root_link = link_to (FIRST_PLACE + length under_root.bytes) [] under_root.links (ending es)

  pub root_stands : Stands bytes (longest es) [] es root_link
  unfolding bytes under_root root_link file_of written tree
  root_stands = record {
    start = FIRST_PLACE;
    rest = [];
    high = omega arith;
    low
        = omega (
          arith,
          low,
          length-append (under_root.bytes ++ node_bytes [] under_root.links (ending es)) [],
          length-append under_root.bytes (node_bytes [] under_root.links (ending es)),
        );
    tail = append_assoc under_root.bytes (node_bytes [] under_root.links (ending es)) [];
    is = refl;
  }

  pub root_start : root_stands.start ≡ FIRST_PLACE
  unfolding root_stands
  root_start = refl

  pub root_is : root bytes ≡ root_link
  unfolding bytes root root_link under_root file_of written tree
  root_is =
      be-at bytes 8 4
      ∙ be-number root_link (under_root.bytes ++ node_bytes [] under_root.links (ending es) ++ [])
      (link_small bytes (longest es) [] es root_link root_stands)

  pub values_at : Rises es → Sound es → (key : List ℕ) → at bytes (root bytes) key ≡ found es key
  unfolding at walk at_within
  values_at r h key =
      ap (λ l. at_within bytes (length key + 1) l key) root_is
      ∙ (walk_finds (length key + 1) bytes (longest es) [] es root_link root_stands
      (Good-sound es r h) tt).values key (omega arith)

-- each key reaches its values in the file of a map
pub file-values : (m : KeyValues) → Rises (entries m) → Sound (entries m) → length (file m) ≤ 2 ^ 26
    → (key : List ℕ) → at (file m) (root (file m)) key ≡ values_of m key
unfolding file bytes
file-values m r h low key =
    values_at (entries m) low r h key ∙ ap (λ o. unwrap_or o []) (sym (get-entries m key))
