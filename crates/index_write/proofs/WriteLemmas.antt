-- The nodes of a tree, written one after the other.
use Rattle.std.proofs.Common.{◌≡◌, refl, sym, ap, subst, ◌∙◌, ℕ, zero, suc, ◌+◌, ◌-◌, ◌*◌, ◌^◌, ◌<◌}
use Rattle.std.proofs.Common.{◌≤◌, Bool, false, not, cond, ⊎_elim, ◌==◌, List, [], ◌∷◌, ◌++◌}
use Rattle.std.proofs.Common.{length, take, drop, map, sum_by, flat_map, Some, None, unwrap_or}
use Rattle.std.proofs.Common.{slice_get, arith, length-append, append_assoc}
use Rattle.std.proofs.lemmas.Bool.{eq-eqb}
use Rattle.std.proofs.lemmas.Bool.Decides.{eqb_tells}
use Rattle.std.proofs.Math.ListN.{length-drop}
use Rattle.std.proofs.lemmas.List.{append-nil, take_all, drop-map, take-map, map-append, length-map}
use Rattle.std.proofs.lemmas.List.Sums.{sum_by-append}
use Rattle.std.specs.FinMap.{entries}
use Rattle.index_format.specs.declared.numbers.TheConstants.{FIRST_PLACE}
use Rattle.index_format.specs.Map.{Value, KeyValues}
use Rattle.index_format.specs.Link.{flag, link_to}
use Rattle.index_format.specs.Tree.{Forest, End, Branch, tree, Entry}
use Rattle.index_format.specs.File.{Links, Written, number, offset, last, prefix_field}
use Rattle.index_format.specs.File.{children_field, value_bytes, values_field, node_bytes, written}
use Rattle.index_format.specs.File.{file_of, file}
use Rattle.index_write.specs.Parts.{Part, bytes_of, last_of, span_of, parts_of, with_part}
use Rattle.index_write.specs.Parts.{with_parts, prefix_size, span_size, value_size, values_size}
use Rattle.index_write.specs.Parts.{part_size, headed, rooted, offsets_bytes}
use Rattle.index_write.specs.declared.bytes.ChildLink.{ChildLink}
use Rattle.index_write.specs.Links.{bit, links_of}

-- ---- the links of nodes side by side

pub links-bytes : (f : Forest) (start : ℕ) → map (λ l. l.0) (written start f).links ≡ bytes_of f
unfolding written
links-bytes End start = refl
links-bytes (Branch byte prefix values below beside) start =
    ap (λ bytes. byte ∷ bytes)
    (links-bytes beside
    (start
    + length (written start below).bytes
    + length (node_bytes prefix (written start below).links values)))

lengths : (links : Links) → length (map (λ l. l.0) links) ≡ length links
lengths [] = refl
lengths (l ∷ links) = ap suc (lengths links)

count_of : (bytes : List ℕ) → (span_of bytes).count ≡ length bytes
count_of [] = refl
count_of (b ∷ bytes) = refl

count-links : (start : ℕ) (f : Forest)
    → (span_of (bytes_of f)).count ≡ length (written start f).links
count-links start f =
    count_of (bytes_of f) ∙ ap length (sym (links-bytes f start)) ∙ lengths (written start f).links

-- ---- the end of a list

drop_front : {A : Type 0} (xs ys : List A) → drop (length xs) (xs ++ ys) ≡ ys
drop_front [] ys = refl
drop_front (x ∷ xs) ys = drop_front xs ys

take_front : {A : Type 0} (xs ys : List A) → take (length xs) (xs ++ ys) ≡ xs
take_front [] ys = refl
take_front (x ∷ xs) ys = ap (λ zs. x ∷ zs) (take_front xs ys)

before_end : {A : Type 0} (xs ys : List A) (n : ℕ) → n ≡ length ys
    → length (xs ++ ys) - n ≡ length xs
before_end xs ys n e = omega (arith, length-append xs ys, e)

-- ---- written one after the other

-- nodes side by side, written after what is there
abbrev pub after : Forest → Written → Written
after f w = record {
  bytes = w.bytes ++ (written (length w.bytes) f).bytes;
  links = w.links ++ (written (length w.bytes) f).links;
}

after-End : (w : Written) → after End w ≡ w
unfolding written
after-End w = λ i. record { bytes = append-nil w.bytes i; links = append-nil w.links i }

module _ (byte : ℕ) (prefix : List ℕ) (values : List Value) (below beside : Forest) (w : Written)
  where
    under : Written
    under = written (length w.bytes) below

    part : Part
    part
        = record
        { byte = byte; prefix = prefix; values = values; children = span_of (bytes_of below) }

    node : List ℕ
    node = node_bytes prefix under.links values

    place : ℕ
    place = length w.bytes + length under.bytes

    -- the node after those below it
    with_node : Written
    with_node = record {
      bytes = (w.bytes ++ under.bytes) ++ node;
      links = w.links ++ (byte, link_to place prefix under.links values) ∷ [];
    }

    with_part-below : with_part part (after below w) ≡ with_node
    unfolding with_part with_node node place part under
    with_part-below =
        let rest
        = before_end w.links under.links (span_of (bytes_of below)).count
        (count-links (length w.bytes) below) in
        let kids
        = ap (λ n. drop n (w.links ++ under.links)) rest ∙ drop_front w.links under.links in
        let front
        = ap (λ n. take n (w.links ++ under.links)) rest ∙ take_front w.links under.links in
        λ i. record {
          bytes = (w.bytes ++ under.bytes) ++ node_bytes prefix (kids i) values;
          links
              = front i
              ++ (byte, link_to (length-append w.bytes under.bytes i) prefix (kids i) values)
              ∷ [];
        }

    after-beside : after beside with_node ≡ after (Branch byte prefix values below beside) w
    unfolding written with_node node place under
    after-beside =
        let at : length ((w.bytes ++ under.bytes) ++ node) ≡ place + length node
        = omega (
          arith,
          length-append (w.bytes ++ under.bytes) node,
          length-append w.bytes under.bytes,
        ) in
        λ i. record {
          bytes = (ap (λ n. ((w.bytes ++ under.bytes) ++ node) ++ (written n beside).bytes) at
              ∙ ap (λ xs. xs ++ (written (place + length node) beside).bytes)
              (append_assoc w.bytes under.bytes node)
              ∙ append_assoc w.bytes (under.bytes ++ node)
              (written (place + length node) beside).bytes) i;
          links
              = (ap (λ n. (w.links ++ (byte, link_to place prefix under.links values) ∷ [])
              ++ (written n beside).links) at
              ∙ append_assoc w.links ((byte, link_to place prefix under.links values) ∷ [])
              (written (place + length node) beside).links) i;
        }

pub with_parts-written : (f : Forest) (ps : List Part) (w : Written)
    → with_parts (parts_of f ++ ps) w ≡ with_parts ps (after f w)
unfolding with_parts part
with_parts-written End ps w = ap (with_parts ps) (sym (after-End w))
with_parts-written (Branch byte prefix values below beside) ps w =
    ap (λ qs. with_parts qs w)
    (append_assoc (parts_of below) (part byte prefix values below beside w ∷ parts_of beside)
    ps)
    ∙ with_parts-written below (part byte prefix values below beside w ∷ (parts_of beside ++ ps)) w
    ∙ ap (with_parts (parts_of beside ++ ps)) (with_part-below byte prefix values below beside w)
    ∙ with_parts-written beside ps (with_node byte prefix values below beside w)
    ∙ ap (with_parts ps) (after-beside byte prefix values below beside w)

-- ---- how many bytes that takes

sum_by-cons : {A : Type 0} (f : A → ℕ) (x : A) (xs : List A) → sum_by f (x ∷ xs) ≡ f x + sum_by f xs
sum_by-cons f x xs = sum_by-append f (x ∷ []) xs ∙ omega arith

pub last-bytes : (byte : ℕ) (links : Links) → last byte links ≡ last_of byte (map (λ l. l.0) links)
last-bytes byte [] = refl
last-bytes byte (l ∷ links) = last-bytes l.0 links

pub length-offsets : (links : Links) (start n : ℕ) → length (offsets_bytes links start n) ≡ 4 * n
length-offsets links start zero = refl
length-offsets links start (suc n) =
    omega (
      arith,
      length-append (number (offset links start)) (offsets_bytes links (start + 1) n),
      length-offsets links (start + 1) n,
    )

length-values : (vs : List Value) → length (flat_map value_bytes vs) ≡ sum_by value_size vs
length-values [] = refl
length-values (v ∷ vs) =
    omega (
      arith,
      length-append (value_bytes v) (flat_map value_bytes vs),
      length-values vs,
      sum_by-cons value_size v vs,
      length-append (number v.0 ++ v.1) (0 ∷ []),
      length-append (number v.0) v.1,
    )

length-prefix_field : (prefix : List ℕ) → length (prefix_field prefix) ≡ prefix_size prefix
length-prefix_field [] = refl
length-prefix_field (b ∷ prefix) = length-append (b ∷ prefix) (0 ∷ [])

suc_not_zero : (n : ℕ) → (suc n == 0) ≡ false
suc_not_zero n = ⊎_elim (λ p. absurd (omega (arith, p.1))) (λ p. p.0) (eqb_tells (suc n) 0)

length-children_field : (links : Links)
    → length (children_field links) ≡ span_size (span_of (map (λ l. l.0) links))
length-children_field [] = refl
length-children_field (l ∷ links) =
    let n = length (map (λ x. x.0) links) in
    let span : span_size (span_of (map (λ x. x.0) (l ∷ links)))
    ≡ 2 + 4 * (last_of l.0 (map (λ x. x.0) links) - l.0 + 1)
    = ap (λ b. cond b 0 (2 + 4 * (last_of l.0 (map (λ x. x.0) links) - l.0 + 1))) (suc_not_zero n)
    in
    omega (
      arith,
      span,
      length-offsets (l ∷ links) l.0 (last l.0 links - l.0 + 1),
      last-bytes l.0 links,
    )

length-values_field : (vs : List Value) → length (values_field vs) ≡ values_size vs
length-values_field [] = refl
length-values_field (v ∷ vs) = omega (arith, length-values (v ∷ vs))

pub length-node_bytes : (prefix : List ℕ) (links : Links) (vs : List Value)
    → length (node_bytes prefix links vs)
    ≡ prefix_size prefix + span_size (span_of (map (λ l. l.0) links)) + values_size vs
unfolding node_bytes
length-node_bytes prefix links vs =
    omega (
      arith,
      length-append (prefix_field prefix ++ children_field links) (values_field vs),
      length-append (prefix_field prefix) (children_field links),
      length-prefix_field prefix,
      length-children_field links,
      length-values_field vs,
    )

pub length-written : (f : Forest) (start : ℕ)
    → length (written start f).bytes ≡ sum_by part_size (parts_of f)
unfolding written
length-written End start = refl
length-written (Branch byte prefix values below beside) start =
    let under = written start below in
    let node = node_bytes prefix under.links values in
    let more = written (start + length under.bytes + length node) beside in
    let p : Part
    = record
    { byte = byte; prefix = prefix; values = values; children = span_of (bytes_of below) }
    in
    let size : length node ≡ part_size p
    = length-node_bytes prefix under.links values
    ∙ ap (λ bytes. prefix_size prefix + span_size (span_of bytes) + values_size values)
    (links-bytes below start) in
    omega (
      arith,
      length-append (under.bytes ++ node) more.bytes,
      length-append under.bytes node,
      length-written below start,
      length-written beside (start + length under.bytes + length node),
      size,
      sum_by-append part_size (parts_of below) (p ∷ parts_of beside),
      sum_by-cons part_size p (parts_of beside),
    )

-- ---- room

pub with_part-grows : (p : Part) (w : Written) → length w.bytes ≤ length (with_part p w).bytes
unfolding with_part
with_part-grows p w =
    omega (
      arith,
      length-append w.bytes
          (node_bytes p.prefix (drop (length w.links - p.children.count) w.links) p.values),
    )

pub with_parts-grows : (ps : List Part) (w : Written)
    → length w.bytes ≤ length (with_parts ps w).bytes
unfolding with_parts
with_parts-grows [] w = omega arith
with_parts-grows (p ∷ ps) w =
    omega (arith, with_part-grows p w, with_parts-grows ps (with_part p w))

pub with_parts-next : (p : Part) (ps : List Part) (w : Written)
    → with_parts (p ∷ ps) w ≡ with_parts ps (with_part p w)
unfolding with_parts
with_parts-next p ps w = refl

pub with_parts-none : (w : Written) → with_parts [] w ≡ w
unfolding with_parts
with_parts-none w = refl

many_values : (vs : List Value) → length vs ≤ length (flat_map value_bytes vs)
many_values [] = omega arith
many_values (v ∷ vs) =
    omega (
      arith,
      length-append (value_bytes v) (flat_map value_bytes vs),
      many_values vs,
      length-append (number v.0 ++ v.1) (0 ∷ []),
    )

pub length-le-values_field : (vs : List Value) → length vs ≤ length (values_field vs)
length-le-values_field [] = omega arith
length-le-values_field (v ∷ vs) = omega (arith, many_values (v ∷ vs))

-- ---- the whole file

pub written-tree : (es : List Entry)
    → with_parts (parts_of (tree es)) headed ≡ after (tree es) headed
unfolding with_parts
written-tree es =
    ap (λ ps. with_parts ps headed) (sym (append-nil (parts_of (tree es))))
    ∙ with_parts-written (tree es) [] headed

pub rooted-tree : (es : List Entry)
    → rooted (after (tree es) headed) ≡ file_of (written FIRST_PLACE (tree es))
unfolding file_of
rooted-tree es = refl

pub length-file : (es : List Entry)
    → length (file_of (written FIRST_PLACE (tree es)))
    ≡ FIRST_PLACE + sum_by part_size (parts_of (tree es))
unfolding file_of
length-file es = omega (arith, length-written (tree es) FIRST_PLACE)

pub length-headed : (es : List Entry)
    → length (after (tree es) headed).bytes ≡ length (file_of (written FIRST_PLACE (tree es)))
unfolding file_of
length-headed es = refl

-- ---- the flags

pub flag-bit : {A : Type 0} (xs : List A) → flag xs ≡ bit (not (length xs == 0))
flag-bit [] = refl
flag-bit (x ∷ xs) = ap (λ b. bit (not b)) (sym (suc_not_zero (length xs)))

-- ---- the offsets, one more

pub offsets-next : (links : Links) (first count n : ℕ) (out new all : List ℕ) → n < count
    → out ++ offsets_bytes links (first + n) (count - n) ≡ all
    → new ≡ out ++ number (offset links (first + n))
    → new ++ offsets_bytes links (first + (n + 1)) (count - (n + 1)) ≡ all
offsets-next links first count n out new all lt h e =
    let more : count - n ≡ suc (count - (n + 1)) = omega arith in
    let at : first + n + 1 ≡ first + (n + 1) = omega arith in
    ap (λ xs. xs ++ offsets_bytes links (first + (n + 1)) (count - (n + 1))) e
    ∙ append_assoc out (number (offset links (first + n)))
    (offsets_bytes links (first + (n + 1)) (count - (n + 1)))
    ∙ ap
    (λ s. out ++ (number (offset links (first + n)) ++ offsets_bytes links s (count - (n + 1))))
    (sym at)
    ∙ ap (λ k. out ++ offsets_bytes links (first + n) k) (sym more)
    ∙ h

-- ---- an offset among links

pub offset-here : (links rest : Links) (b o byte : ℕ) → links ≡ (b, o) ∷ rest → b ≡ byte
    → o ≡ offset links byte
offset-here links rest b o byte e same =
    sym (ap (λ ls. offset ls byte) e ∙ ap (λ t. cond t o (offset rest byte)) (eq-eqb b byte same))

pub offset-later : (links rest : Links) (b o byte : ℕ) → links ≡ (b, o) ∷ rest → (b ≡ byte → ⊥)
    → offset rest byte ≡ offset links byte
offset-later links rest b o byte e other =
    let apart : (b == byte) ≡ false
    = ⊎_elim (λ p. absurd (other p.1)) (λ p. p.0) (eqb_tells b byte) in
    sym (ap (λ ls. offset ls byte) e ∙ ap (λ t. cond t o (offset rest byte)) apart)

-- ---- one value more

pub values-next : (left rest : List Value) (v : Value) (out new all : List ℕ) → left ≡ v ∷ rest
    → out ++ flat_map value_bytes left ≡ all → new ≡ out ++ value_bytes v
    → new ++ flat_map value_bytes rest ≡ all
values-next left rest v out new all l h e =
    ap (λ xs. xs ++ flat_map value_bytes rest) e
    ∙ append_assoc out (value_bytes v) (flat_map value_bytes rest)
    ∙ ap (λ vs. out ++ flat_map value_bytes vs) (sym l)
    ∙ h

-- ---- a node

pub values-fit : (p : Part) (w : Written) → length p.values ≤ length (with_part p w).bytes
unfolding with_part node_bytes
values-fit p w =
    let kids = drop (length w.links - p.children.count) w.links in
    omega (
      arith,
      length-le-values_field p.values,
      length-append w.bytes
          (prefix_field p.prefix ++ children_field kids ++ values_field p.values),
      length-append (prefix_field p.prefix ++ children_field kids) (values_field p.values),
    )

pub link_to-bits : (at offset : ℕ) (prefix : List ℕ) (kids : Links) (values : List Value)
    (p k v : Bool)
    → p ≡ (length prefix == 0) → k ≡ (length kids == 0) → v ≡ (length values == 0)
    → offset ≡ bit (not p) * 2 ^ 31 + bit (not v) * 2 ^ 30 + bit (not k) * 2 ^ 29 + at
    → offset ≡ link_to at prefix kids values
link_to-bits at offset prefix kids values p k v pe ke ve e =
    e
    ∙ (λ i. (ap (λ b. bit (not b)) pe ∙ sym (flag-bit prefix)) i * 2 ^ 31
    + (ap (λ b. bit (not b)) ve ∙ sym (flag-bit values)) i * 2 ^ 30
    + (ap (λ b. bit (not b)) ke ∙ sym (flag-bit kids)) i * 2 ^ 29
    + at)

module _ (p : Part) (bytes : List ℕ) (links : Links) (out1 out2 out3 : List ℕ) (kids new : Links)
    (at offset start : ℕ)
    (start_is : start ≡ length links - p.children.count) (kids_are : kids ≡ drop start links)
    (one : out1 ≡ bytes ++ prefix_field p.prefix) (two : out2 ≡ out1 ++ children_field kids)
    (three : out3 ≡ out2 ++ values_field p.values)
    (at_is : at ≡ length bytes) (offset_is : offset ≡ link_to at p.prefix kids p.values)
    (new_is : new ≡ take start links ++ (p.byte, offset) ∷ []) where
  pub with_part-steps : ◌≡◌ {A = Written} (record { bytes = out3; links = new })
      (with_part p (record { bytes = bytes; links = links }))
  unfolding with_part node_bytes
  with_part-steps =
      let same = kids_are ∙ ap (λ n. drop n links) start_is in
      let all
      = three
      ∙ ap (λ xs. xs ++ values_field p.values)
      (two ∙ ap (λ xs. xs ++ children_field kids) one) in
      let joined
      = ap (λ xs. xs ++ values_field p.values)
      (append_assoc bytes (prefix_field p.prefix) (children_field kids))
      ∙ append_assoc bytes (prefix_field p.prefix ++ children_field kids)
      (values_field p.values) in
      λ i. record {
        bytes
            = (all ∙ joined
            ∙ ap (λ ks. bytes
            ++ (prefix_field p.prefix ++ children_field ks ++ values_field p.values))
            same) i;
        links = (new_is ∙ ap (λ n. take n links ++ (p.byte, offset) ∷ []) start_is
            ∙ ap (λ o. take (length links - p.children.count) links ++ (p.byte, o) ∷ [])
            (offset_is ∙ ap (λ a. link_to a p.prefix kids p.values) at_is
            ∙ ap (λ ks. link_to (length bytes) p.prefix ks p.values) same)) i;
      }

-- ---- the vectors of links

abbrev pub link_of : ChildLink → ℕ × ℕ
link_of l = (l.byte, l.offset)

pub links_of-end : (before now : List ChildLink) (start : ℕ) → now ≡ before
    → links_of (take (length now - start) (drop start now)) ≡ drop start (links_of before)
links_of-end before now start e =
    ap links_of
    (take_all (length now - start) (drop start now) (omega (arith, length-drop start now)))
    ∙ sym (drop-map (λ l. (l.byte, l.offset)) start now)
    ∙ ap (λ ls. drop start (links_of ls)) e

pub links_of-push : (before cut new : List ChildLink) (start : ℕ) (l : ChildLink)
    → cut ≡ take start before → new ≡ cut ++ l ∷ []
    → links_of new ≡ take start (links_of before) ++ (l.byte, l.offset) ∷ []
links_of-push before cut new start l c e =
    ap links_of e
    ∙ map-append (λ l. (l.byte, l.offset)) cut (l ∷ [])
    ∙ ap (λ ls. links_of ls ++ (l.byte, l.offset) ∷ []) c
    ∙ ap (λ ls. ls ++ (l.byte, l.offset) ∷ [])
    (sym (take-map (λ l. (l.byte, l.offset)) start before))

pub length-links_of : (ls : List ChildLink) → length (links_of ls) ≡ length ls
length-links_of ls = length-map ls link_of

pub same_length : {A B : Type 0} (f : A → B) (xs : List A)
    → (length xs == 0) ≡ (length (map f xs) == 0)
same_length f xs = ap (λ n. n == 0) (sym (length-map xs f))

-- ---- the ends of the range

same_one : {A : Type 0} (x y : A) → Some x ≡ Some y → x ≡ y
same_one x y e = ap (λ o. unwrap_or o x) e

none_there : {A : Type 0} (x : A) → None ≡ Some x → ⊥
none_there x e = subst (λ o. elim o as (λ _. Type 0) [ Some y ↦ ⊥ | None ↦ Unit {0} ]) e tt

last_link : (f l : ChildLink) (ls : List ChildLink) → slice_get (f ∷ ls) (length ls) ≡ Some l
    → last f.byte (links_of ls) ≡ l.byte
last_link f l [] h = ap (λ x. x.byte) (same_one f l h)
last_link f l (g ∷ ls) h = last_link g l ls h

pub children-ends : (links : List ChildLink) (first end : ChildLink) (out0 out1 out2 out : List ℕ)
    (start count : ℕ)
    → slice_get links 0 ≡ Some first → slice_get links (length links - 1) ≡ Some end
    → out1 ≡ out0 ++ first.byte ∷ [] → out2 ≡ out1 ++ end.byte ∷ [] → start ≡ first.byte
    → count ≡ end.byte - first.byte + 1 → out ≡ out2 ++ offsets_bytes (links_of links) start count
    → out ≡ out0 ++ children_field (links_of links)
children-ends [] first end out0 out1 out2 out start count f l one two s c e =
    absurd (none_there first f)
children-ends (g ∷ links) first end out0 out1 out2 out start count f l one two s c e =
    let at : length (g ∷ links) - 1 ≡ length links = omega arith in
    let l : slice_get (g ∷ links) (length links) ≡ Some end
    = subst (λ n. slice_get (g ∷ links) n ≡ Some end) at l in
    let front : first.byte ≡ g.byte = ap (λ x. x.byte) (sym (same_one g first f)) in
    let back : end.byte ≡ last g.byte (links_of links) = sym (last_link g end links l) in
    let all = links_of (g ∷ links) in
    e
    ∙ ap (λ xs. xs ++ offsets_bytes all start count)
    (two ∙ ap (λ xs. xs ++ end.byte ∷ []) one
    ∙ append_assoc out0 (first.byte ∷ []) (end.byte ∷ []))
    ∙ append_assoc out0 (first.byte ∷ end.byte ∷ []) (offsets_bytes all start count)
    ∙ (λ i. out0 ++ (front i ∷ back i ∷ offsets_bytes all ((s ∙ front) i) (c i)))
    ∙ (λ i. out0
    ++ (g.byte ∷ last g.byte (links_of links)
    ∷ offsets_bytes all g.byte (back i - front i + 1)))

-- ---- the offset of the root

pub take_whole : {A : Type 0} (n : ℕ) (xs ys : List A) → n ≡ length xs → take n (xs ++ ys) ≡ xs
take_whole n xs ys e = ap (λ k. take k (xs ++ ys)) e ∙ take_front xs ys

pub rooted-steps : (w : Written) (bytes now out : List ℕ) (links : Links) (root : ℕ)
    → ◌≡◌ {A = Written} (record { bytes = bytes; links = links }) w → now ≡ bytes
    → root ≡ offset links 0 → out ≡ take 8 now ++ number root ++ drop FIRST_PLACE now
    → out ≡ rooted w
rooted-steps w bytes now out links root e n r o =
    o
    ∙ ap (λ xs. take 8 xs ++ number root ++ drop FIRST_PLACE xs) n
    ∙ ap (λ k. take 8 bytes ++ number k ++ drop FIRST_PLACE bytes) r
    ∙ ap rooted e

-- ---- the file of a map

module _ (m : KeyValues) (ps : List Part) (e : ps ≡ parts_of (tree (entries m))) where
  pub file-size : length (file m) ≡ FIRST_PLACE + sum_by part_size ps
  unfolding file
  file-size = length-file (entries m) ∙ ap (λ qs. FIRST_PLACE + sum_by part_size qs) (sym e)

  whole : with_parts ps headed ≡ after (tree (entries m)) headed
  whole = ap (λ qs. with_parts qs headed) e ∙ written-tree (entries m)

  pub rooted-file : rooted (with_parts ps headed) ≡ file m
  unfolding file
  rooted-file = ap rooted whole ∙ rooted-tree (entries m)

  pub length-rooted : length (with_parts ps headed).bytes ≡ length (file m)
  unfolding file
  length-rooted = ap (λ w. length w.bytes) whole ∙ length-headed (entries m)
