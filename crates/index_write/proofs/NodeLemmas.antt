-- The groups of entries whose keys rise, and the nodes that are made of them.
use Rattle.std.proofs.Common.{◌≡◌, refl, sym, ap, subst, ◌∙◌, ℕ, zero, suc, ◌+◌, ◌-◌, ◌<◌, ◌≤◌}
use Rattle.std.proofs.Common.{true, false, cond, ◌==◌, List, [], ◌∷◌, ◌++◌, length, take, drop, map}
use Rattle.std.proofs.Common.{reverse, get_or, Some, None, unwrap_or, slice_get, Vec, vec_len}
use Rattle.std.proofs.Common.{arith, length-append, append_assoc}
use Rattle.std.proofs.lemmas.Bool.{eqb-true, eq-eqb}
use Rattle.std.proofs.Math.ListN.{length-drop}
use Rattle.std.proofs.Math.Seq.{drop-cons}
use Rattle.std.proofs.lemmas.List.{drop-drop, drop-map, take-map, length-map, map-append}
use Rattle.std.proofs.lemmas.List.{reverse-append}
use Rattle.std.specs.List.{AllByRecursion}
use Rattle.index_format.specs.Map.{Value}
use Rattle.index_format.specs.Tree.{Entry, Forest, common, narrowed, common_prefix, cut, ending}
use Rattle.index_format.specs.Tree.{grouped, groups, siblings, nodes_below, longest, tree, Rises}
use Rattle.index_format.proofs.TreeLemmas.{Above-goes_on, Rises-cut, common_prefix-front}
use Rattle.index_format.proofs.TreeLemmas.{groups-rise, Within, Within-longest, Within-cut}
use Rattle.index_format.proofs.TreeLemmas.{groups-within, nodes_below-groups}
use Rattle.std.specs.declared.alloc.Global.{Global}
use Rattle.index_write.specs.declared.node.KeyEntry.{KeyEntry}
use Rattle.index_write.specs.declared.node.Group.{Group}
use Rattle.index_write.specs.declared.node.TreeNode.{TreeNode}
use Rattle.index_write.specs.declared.node.Span.{Span}
use Rattle.index_write.specs.Lists.{shown_values}
use Rattle.index_write.specs.Parts.{Part, bytes_of, span_of, last_of, parts_of}
use Rattle.index_write.specs.Groups.{entry_shown, entries_shown, at_depth, group_of, groups_of}
use Rattle.index_write.specs.Groups.{ended, leading, AllGoOn, part_of, below, part_for, root_part}

-- A group that can be made into a node: its keys rise, and have at most this many bytes.
pub record IsReady (most : ℕ) (g : ℕ × List Entry) : Type 0 where
  pub rises : Rises g.1
  pub within : AllByRecursion (λ e. length e.0 ≤ most) g.1

abbrev pub AreReady : ℕ → List (ℕ × List Entry) → Type 0
AreReady most gs = AllByRecursion (IsReady most) gs

-- ---- common bytes

pub common-nil : (a : List ℕ) → common a [] ≡ []
common-nil [] = refl
common-nil (x ∷ a) = refl

pub common-cons_same : (x y : ℕ) (a b : List ℕ) → x ≡ y → common (x ∷ a) (y ∷ b) ≡ x ∷ common a b
common-cons_same x y a b e = ap (λ t. cond t (x ∷ common a b) []) (eq-eqb x y e)

pub common-cons_other : (x y : ℕ) (a b : List ℕ) → (x == y) ≡ false → common (x ∷ a) (y ∷ b) ≡ []
common-cons_other x y a b e = ap (λ t. cond t (x ∷ common a b) []) e

-- ---- groups

cut-cut : (m n : ℕ) (es : List Entry) → cut m (cut n es) ≡ cut (n + m) es
cut-cut m n [] = refl
cut-cut m n (e ∷ es) = λ i. (drop-drop m n e.0 i, e.1) ∷ cut-cut m n es i

pub cut-take : (m n : ℕ) (es : List Entry) → cut m (take n es) ≡ take n (cut m es)
cut-take m n es = sym (take-map (λ e. (drop m e.0, e.1)) n es)

pub cut-drop : (m n : ℕ) (es : List Entry) → cut m (drop n es) ≡ drop n (cut m es)
cut-drop m n es = sym (drop-map (λ e. (drop m e.0, e.1)) n es)

-- where the first key goes on with a byte, the first group is for that byte
grouped-other : (b c : ℕ) (e f : Entry) (gs : List (ℕ × List Entry)) → (b == c) ≡ false
    → grouped b e (grouped c f gs) ≡ (b, e ∷ []) ∷ grouped c f gs
grouped-other b c e f [] ne =
    ap (λ t. cond t ((c, e ∷ f ∷ []) ∷ []) ((b, e ∷ []) ∷ (c, f ∷ []) ∷ [])) ne
grouped-other b c e f ((d, fs) ∷ gs) ne =
    elim (c == d) as
    (λ t. (c == d) ≡ t
    → grouped b e (cond t ((d, f ∷ fs) ∷ gs) ((c, f ∷ []) ∷ (d, fs) ∷ gs))
    ≡ (b, e ∷ []) ∷ cond t ((d, f ∷ fs) ∷ gs) ((c, f ∷ []) ∷ (d, fs) ∷ gs)) [
      | true ↦ λ same. ap (λ t. cond t ((d, e ∷ f ∷ fs) ∷ gs) ((b, e ∷ []) ∷ (d, f ∷ fs) ∷ gs))
          (subst (λ x. (b == x) ≡ false) (eqb-true c d same) ne)
      | false ↦ λ other. ap
          (λ t. cond t ((c, e ∷ f ∷ []) ∷ (d, fs) ∷ gs) ((b, e ∷ []) ∷ (c, f ∷ []) ∷ (d, fs) ∷ gs))
          ne
    ] refl

grouped-same : (b c : ℕ) (e : Entry) (es : List Entry) (gs : List (ℕ × List Entry))
    → (b == c) ≡ true → grouped b e ((c, es) ∷ gs) ≡ (c, e ∷ es) ∷ gs
grouped-same b c e es gs same =
    ap (λ t. cond t ((c, e ∷ es) ∷ gs) ((b, e ∷ []) ∷ (c, es) ∷ gs)) same

abbrev pub Run : ℕ → List Entry → List (ℕ × List Entry)
Run byte es = (byte, cut 1 (take (leading byte es) es)) ∷ groups (drop (leading byte es) es)

no_length : (k : List ℕ) → 0 < length k → k ≡ [] → ⊥
no_length [] h e = absurd (omega arith)
no_length (c ∷ k) h e = absurd (cc)

-- the first group has the entries at the front that go on with its byte
pub groups-leading : (byte : ℕ) (key : List ℕ) (v : List Value) (es : List Entry) → AllGoOn es
    → groups ((byte ∷ key, v) ∷ es) ≡ Run byte ((byte ∷ key, v) ∷ es)
groups-leading byte key v [] h =
    ap (λ t. (byte, cut 1 (take (cond t 1 0) ((byte ∷ key, v) ∷ [])))
    ∷ groups (drop (cond t 1 0) ((byte ∷ key, v) ∷ []))) (sym (eq-eqb byte byte refl))
groups-leading byte key v (([], w) ∷ es) h = absurd (omega (arith, h.0))
groups-leading byte key v ((c ∷ j, w) ∷ es) h =
    let rest = groups-leading c j w es h.1 in
    let n = suc (leading byte ((c ∷ j, w) ∷ es)) in
    let all = (byte ∷ key, v) ∷ (c ∷ j, w) ∷ es in
    elim (byte == c) as
    (λ t. (byte == c) ≡ t → groups all ≡ (byte, cut 1 (take n all)) ∷ groups (drop n all)) [
      | true ↦ λ e.
          let same = sym (eqb-true byte c e) in
          ap (grouped byte (key, v)) rest
          ∙ grouped-same byte c (key, v)
          (cut 1 (take (leading c ((c ∷ j, w) ∷ es)) ((c ∷ j, w) ∷ es)))
          (groups (drop (leading c ((c ∷ j, w) ∷ es)) ((c ∷ j, w) ∷ es))) e
          ∙ (λ i. (
            same i,
            (key, v)
                ∷ cut 1 (take (leading (same i) ((c ∷ j, w) ∷ es)) ((c ∷ j, w) ∷ es)),
          )
          ∷ groups (drop (leading (same i) ((c ∷ j, w) ∷ es)) ((c ∷ j, w) ∷ es)))
      | false ↦ λ e.
          grouped-other byte c (key, v) (j, w) (groups es) e
          ∙ ap (λ t. (byte, cut 1 (take (suc (cond t (suc (leading byte es)) 0)) all))
          ∷ groups (drop (suc (cond t (suc (leading byte es)) 0)) all)) (sym e)
    ] refl
    ∙ ap (λ t. (byte, cut 1 (take (cond t n 0) all)) ∷ groups (drop (cond t n 0) all))
    (sym (eq-eqb byte byte refl))

-- ---- the nodes in the order of the file

abbrev Groups : Type 0
Groups = List (ℕ × List Entry)

-- the nodes of groups
abbrev pub nodes_of : ℕ → Groups → Forest
nodes_of most gs = siblings (nodes_below most) gs

pub parts_of-append : (most : ℕ) (xs ys : Groups)
    → parts_of (nodes_of most (xs ++ ys))
    ≡ parts_of (nodes_of most xs) ++ parts_of (nodes_of most ys)
parts_of-append most [] ys = refl
parts_of-append most ((byte, es) ∷ xs) ys =
    let node : Part
    = record {
      byte = byte;
      prefix = common_prefix es;
      values = ending (below es);
      children = span_of (bytes_of (nodes_below most (below es)));
    } in
    ap (λ rest. parts_of (nodes_below most (below es)) ++ node ∷ rest) (parts_of-append most xs ys)
    ∙ sym (append_assoc (parts_of (nodes_below most (below es)))
    (node ∷ parts_of (nodes_of most xs)) (parts_of (nodes_of most ys)))

pub bytes_of-nodes_of : (most : ℕ) (gs : Groups) → bytes_of (nodes_of most gs) ≡ map (λ g. g.0) gs
bytes_of-nodes_of most [] = refl
bytes_of-nodes_of most ((byte, es) ∷ gs) = ap (λ bytes. byte ∷ bytes) (bytes_of-nodes_of most gs)

bytes_below : (most : ℕ) (es : List Entry) → Within most es
    → bytes_of (nodes_below most es) ≡ map (λ g. g.0) (groups es)
bytes_below most es h =
    ap bytes_of (nodes_below-groups most es h) ∙ bytes_of-nodes_of most (groups es)

-- the last group gives way to the groups below it, and then comes its node
pub parts_of-last : (most : ℕ) (gs : Groups) (byte : ℕ) (es : List Entry) → Within most es
    → parts_of (nodes_of most (gs ++ (byte, es) ∷ []))
    ≡ parts_of (nodes_of most (gs ++ groups (below es))) ++ part_for byte es ∷ []
parts_of-last most gs byte es h =
    let inner = Within-cut (length (common_prefix es)) most es h in
    parts_of-append most gs ((byte, es) ∷ [])
    ∙ ap (λ ns. parts_of (nodes_of most gs)
    ++ (parts_of ns
    ++ (record {
      byte = byte;
      prefix = common_prefix es;
      values = ending (below es);
      children = span_of (bytes_of (nodes_below most (below es)));
    })
    ∷ [])) (nodes_below-groups most (below es) inner)
    ∙ ap (λ bytes. parts_of (nodes_of most gs)
    ++ (parts_of (nodes_of most (groups (below es)))
    ++ (record {
      byte = byte;
      prefix = common_prefix es;
      values = ending (below es);
      children = span_of bytes;
    })
    ∷ [])) (bytes_below most (below es) inner)
    ∙ sym (append_assoc (parts_of (nodes_of most gs)) (parts_of (nodes_of most (groups (below es))))
    (part_for byte es ∷ []))
    ∙ ap (λ ps. ps ++ part_for byte es ∷ []) (sym (parts_of-append most gs (groups (below es))))

-- the root comes last
pub parts_of-tree : (es : List Entry)
    → parts_of (tree es) ≡ parts_of (nodes_of (longest es) (groups es)) ++ root_part es ∷ []
unfolding tree
parts_of-tree es =
    ap (λ ns. parts_of ns
    ++ (record {
      byte = 0;
      prefix = [];
      values = ending es;
      children = span_of (bytes_of (nodes_below (longest es) es));
    })
    ∷ []) (nodes_below-groups (longest es) es (Within-longest es))
    ∙ ap (λ bytes. parts_of (nodes_of (longest es) (groups es))
    ++ (record { byte = 0; prefix = []; values = ending es; children = span_of bytes }) ∷ [])
    (bytes_below (longest es) es (Within-longest es))

-- ---- which groups are ready

ready : (most : ℕ) (gs : Groups) → AllByRecursion (λ g. Rises g.1) gs
    → AllByRecursion (λ g. Within most g.1) gs → AreReady most gs
ready most [] r w = tt
ready most (g ∷ gs) r w = (record { rises = r.0; within = w.0 }, ready most gs r.1 w.1)

weaker : (n : ℕ) (es : List Entry) → Within n es → Within (suc n) es
weaker n [] h = tt
weaker n (e ∷ es) h = (omega (arith, h.0), weaker n es h.1)

pub groups-ready : (most : ℕ) (es : List Entry) → Rises es → Within most es
    → AreReady most (groups es)
groups-ready most es r w =
    ready most (groups es) (groups-rise es r) (groups-within most es (weaker most es w))

pub below-ready : (most : ℕ) (byte : ℕ) (es : List Entry) → IsReady most (byte, es)
    → AreReady most (groups (below es))
below-ready most byte es h =
    groups-ready most (below es) (Rises-cut (common_prefix es) es (common_prefix-front es) h.rises)
    (Within-cut (length (common_prefix es)) most es h.within)

pub AreReady-append : (most : ℕ) (xs ys : Groups) → AreReady most xs → AreReady most ys
    → AreReady most (xs ++ ys)
AreReady-append most [] ys p q = q
AreReady-append most (x ∷ xs) ys p q = (p.0, AreReady-append most xs ys p.1 q)

pub AreReady-front : (most : ℕ) (xs ys : Groups) → AreReady most (xs ++ ys) → AreReady most xs
AreReady-front most [] ys p = tt
AreReady-front most (x ∷ xs) ys p = (p.0, AreReady-front most xs ys p.1)

pub AreReady-back : (most : ℕ) (xs ys : Groups) → AreReady most (xs ++ ys) → AreReady most ys
AreReady-back most [] ys p = p
AreReady-back most (x ∷ xs) ys p = AreReady-back most xs ys p.1

-- ---- entries at a place

pub same_one : {A : Type 0} (x y : A) → Some x ≡ Some y → x ≡ y
same_one x y e = ap (λ o. unwrap_or o x) e

pub none_there : {A : Type 0} (x : A) → None ≡ Some x → ⊥
none_there x e = subst (λ o. elim o as (λ _. Type 0) [ Some y ↦ ⊥ | None ↦ Unit {0} ]) e tt

pub drop_all : {A : Type 0} (n : ℕ) (xs : List A) → length xs ≤ n → drop n xs ≡ []
drop_all zero [] h = refl
drop_all zero (x ∷ xs) h = absurd (omega arith)
drop_all (suc n) [] h = refl
drop_all (suc n) (x ∷ xs) h = drop_all n xs (omega arith)

-- the entry at a place, and those after it
pub at_depth-place : (d n : ℕ) (es : List KeyEntry) (x : KeyEntry) → n < length es
    → drop n (at_depth d es)
    ≡ (drop d (get_or es n x).key.now, shown_values (get_or es n x).values.now)
    ∷ drop (suc n) (at_depth d es)
at_depth-place d n [] x h = absurd (omega arith)
at_depth-place d zero (e ∷ es) x h = refl
at_depth-place d (suc n) (e ∷ es) x h = at_depth-place d n es x (omega arith)

pub leading-ended : (byte d : ℕ) (key : List ℕ) (v : List Value) (es : List Entry) → length key ≤ d
    → leading byte ((drop d key, v) ∷ es) ≡ 0
leading-ended byte d key v es h = ap (λ k. leading byte ((k, v) ∷ es)) (drop_all d key h)

leading-place : (byte d : ℕ) (key : List ℕ) (v : List Value) (es : List Entry) → d < length key
    → leading byte ((drop d key, v) ∷ es) ≡ cond (byte == get_or key d 0) (suc (leading byte es)) 0
leading-place byte d key v es h = ap (λ k. leading byte ((k, v) ∷ es)) (drop-cons key d 0 h)

pub leading-other : (byte d : ℕ) (key : List ℕ) (v : List Value) (es : List Entry) → d < length key
    → (get_or key d 0 ≡ byte → ⊥) → leading byte ((drop d key, v) ∷ es) ≡ 0
leading-other byte d key v es h ne =
    leading-place byte d key v es h
    ∙ elim (byte == get_or key d 0) as
    (λ t. (byte == get_or key d 0) ≡ t → cond t (suc (leading byte es)) 0 ≡ 0) [
      | true ↦ λ e. absurd (ne (sym (eqb-true _ _ e)))
      | false ↦ λ e. refl
    ] refl

pub leading-same : (byte d : ℕ) (key : List ℕ) (v : List Value) (es : List Entry) → d < length key
    → get_or key d 0 ≡ byte → leading byte ((drop d key, v) ∷ es) ≡ suc (leading byte es)
leading-same byte d key v es h e =
    leading-place byte d key v es h
    ∙ ap (λ t. cond t (suc (leading byte es)) 0) (eq-eqb _ _ (sym e))

-- ---- the first entry

pub first_ended : (d : ℕ) (es : List KeyEntry) (first : KeyEntry) → slice_get es 0 ≡ Some first
    → d < length first.key.now → ended (at_depth d es) ≡ 0
first_ended d [] first is h = absurd (none_there first is)
first_ended d (e ∷ es) first is h =
    ap (λ f. ended (at_depth d (f ∷ es))) (same_one e first is)
    ∙ ap (λ k. ended ((k, shown_values first.values.now) ∷ at_depth d es))
    (drop-cons first.key.now d 0 h)

pub first_ending : (d : ℕ) (es : List KeyEntry) (first : KeyEntry) → slice_get es 0 ≡ Some first
    → d < length first.key.now → ending (at_depth d es) ≡ []
first_ending d [] first is h = absurd (none_there first is)
first_ending d (e ∷ es) first is h =
    ap (λ f. ending (at_depth d (f ∷ es))) (same_one e first is)
    ∙ ap (λ k. ending ((k, shown_values first.values.now) ∷ at_depth d es))
    (drop-cons first.key.now d 0 h)

pub first_goes_on : (d : ℕ) (es : List KeyEntry) (first : KeyEntry) → slice_get es 0 ≡ Some first
    → AllGoOn (at_depth d es) → d < length first.key.now
first_goes_on d [] first is h = absurd (none_there first is)
first_goes_on d (e ∷ es) first is h =
    let same = same_one e first is in
    let longer : d < length e.key.now = omega (arith, h.0, length-drop d e.key.now) in
    subst (λ f. d < length f.key.now) same longer

-- the group of the first entry
pub first_groups : (d : ℕ) (es : List KeyEntry) (first : KeyEntry) (byte : ℕ)
    → slice_get es 0 ≡ Some first → AllGoOn (at_depth d es) → get_or first.key.now d 0 ≡ byte
    → groups (at_depth d es) ≡ Run byte (at_depth d es)
first_groups d [] first byte is h b = absurd (none_there first is)
first_groups d (e ∷ es) first byte is h b =
    let same = same_one e first is in
    let longer = first_goes_on d (e ∷ es) first is h in
    let longer : d < length e.key.now = subst (λ f. d < length f.key.now) (sym same) longer in
    let b : get_or e.key.now d 0 ≡ byte = ap (λ f. get_or f.key.now d 0) same ∙ b in
    let key : drop d e.key.now ≡ byte ∷ drop (suc d) e.key.now
    = drop-cons e.key.now d 0 longer ∙ ap (λ c. c ∷ drop (suc d) e.key.now) b in
    let vs = shown_values e.values.now in
    subst (λ k. groups ((k, vs) ∷ at_depth d es) ≡ Run byte ((k, vs) ∷ at_depth d es)) (sym key)
    (groups-leading byte (drop (suc d) e.key.now) vs (at_depth d es) h.1)

pub leading-first : (d : ℕ) (es : List KeyEntry) (first : KeyEntry) (byte : ℕ)
    → slice_get es 0 ≡ Some first → AllGoOn (at_depth d es) → get_or first.key.now d 0 ≡ byte
    → 0 < leading byte (at_depth d es)
leading-first d [] first byte is h b = absurd (none_there first is)
leading-first d (e ∷ es) first byte is h b =
    let same = same_one e first is in
    let longer = first_goes_on d (e ∷ es) first is h in
    let longer : d < length e.key.now = subst (λ f. d < length f.key.now) (sym same) longer in
    let b : get_or e.key.now d 0 ≡ byte = ap (λ f. get_or f.key.now d 0) same ∙ b in
    omega
    (arith, leading-same byte d e.key.now (shown_values e.values.now) (at_depth d es) longer b)

-- a part of the entries, at a depth
pub at_depth-take : (d n : ℕ) (es : List KeyEntry) → at_depth d (take n es) ≡ take n (at_depth d es)
at_depth-take d n es =
    ap (cut d) (sym (take-map entry_shown n es)) ∙ cut-take d n (entries_shown es)

pub at_depth-drop : (d n : ℕ) (es : List KeyEntry) → at_depth d (drop n es) ≡ drop n (at_depth d es)
at_depth-drop d n es =
    ap (cut d) (sym (drop-map entry_shown n es)) ∙ cut-drop d n (entries_shown es)

pub cut-at_depth : (m d : ℕ) (es : List KeyEntry) → cut m (at_depth d es) ≡ at_depth (d + m) es
cut-at_depth m d es = cut-cut m d (entries_shown es)

-- ---- what ends and what goes on

pub AllGoOn-drop : (n : ℕ) (es : List Entry) → AllGoOn es → AllGoOn (drop n es)
AllGoOn-drop zero es h = h
AllGoOn-drop (suc n) [] h = tt
AllGoOn-drop (suc n) (e ∷ es) h = AllGoOn-drop n es h.1

pub ended-goes_on : (es : List Entry) → Rises es → AllGoOn (drop (ended es) es)
ended-goes_on [] h = tt
ended-goes_on (([], v) ∷ es) h = Above-goes_on [] es h.0
ended-goes_on ((c ∷ k, v) ∷ es) h = (omega arith, Above-goes_on (c ∷ k) es h.0)

pub groups-ended_drop : (es : List Entry) → groups (drop (ended es) es) ≡ groups es
groups-ended_drop [] = refl
groups-ended_drop (([], v) ∷ es) = refl
groups-ended_drop ((c ∷ k, v) ∷ es) = refl

-- ---- the steps of the loops

pub narrowed-place : (d i : ℕ) (es : List KeyEntry) (x : KeyEntry) (prefix next : List ℕ)
    → i < length es → x ≡ get_or es i x → next ≡ common prefix (drop d x.key.now)
    → narrowed next (drop (i + 1) (at_depth d es)) ≡ narrowed prefix (drop i (at_depth d es))
narrowed-place d i es x prefix next h is e =
    let one : i + 1 ≡ suc i = omega arith in
    (λ j. narrowed (e j) (drop (one j) (at_depth d es)))
    ∙ sym (ap (narrowed prefix)
    (at_depth-place d i es x h
    ∙ (λ j. (drop d (sym is j).key.now, shown_values (sym is j).values.now)
    ∷ drop (suc i) (at_depth d es))))

at_item : (d n : ℕ) (es : List KeyEntry) (x : KeyEntry) → n < length es → x ≡ get_or es n x
    → drop n (at_depth d es)
    ≡ (drop d x.key.now, shown_values x.values.now) ∷ drop (suc n) (at_depth d es)
at_item d n es x h is =
    at_depth-place d n es x h
    ∙ (λ j. (drop d (sym is j).key.now, shown_values (sym is j).values.now)
    ∷ drop (suc n) (at_depth d es))

pub leading-stop_ended : (byte d n : ℕ) (es : List KeyEntry) (x : KeyEntry) → n < length es
    → x ≡ get_or es n x → length x.key.now ≤ d → leading byte (drop n (at_depth d es)) ≡ 0
leading-stop_ended byte d n es x h is le =
    ap (leading byte) (at_item d n es x h is)
    ∙ leading-ended byte d x.key.now (shown_values x.values.now) (drop (suc n) (at_depth d es))
    le

pub leading-stop_other : (byte d n : ℕ) (es : List KeyEntry) (x : KeyEntry) → n < length es
    → x ≡ get_or es n x → d < length x.key.now → (get_or x.key.now d 0 ≡ byte → ⊥)
    → leading byte (drop n (at_depth d es)) ≡ 0
leading-stop_other byte d n es x h is lt ne =
    ap (leading byte) (at_item d n es x h is)
    ∙ leading-other byte d x.key.now (shown_values x.values.now) (drop (suc n) (at_depth d es))
    lt ne

pub leading-next : (byte d n : ℕ) (es : List KeyEntry) (x : KeyEntry) → n < length es
    → x ≡ get_or es n x → d < length x.key.now → get_or x.key.now d 0 ≡ byte
    → leading byte (drop n (at_depth d es)) ≡ suc (leading byte (drop (n + 1) (at_depth d es)))
leading-next byte d n es x h is lt e =
    let one : suc n ≡ n + 1 = omega arith in
    ap (leading byte) (at_item d n es x h is)
    ∙ leading-same byte d x.key.now (shown_values x.values.now) (drop (suc n) (at_depth d es)) lt e
    ∙ ap (λ i. suc (leading byte (drop i (at_depth d es)))) one

pub group-shown : (d n : ℕ) (es : List KeyEntry)
    → cut 1 (take n (at_depth d es)) ≡ at_depth (d + 1) (take n es)
group-shown d n es = ap (cut 1) (sym (at_depth-take d n es)) ∙ cut-at_depth 1 d (take n es)

take_all : {A : Type 0} (n : ℕ) (xs : List A) → length xs ≤ n → take n xs ≡ xs
take_all zero [] h = refl
take_all zero (x ∷ xs) h = absurd (omega arith)
take_all (suc n) [] h = refl
take_all (suc n) (x ∷ xs) h = ap (λ ys. x ∷ ys) (take_all n xs (omega arith))

pub rest-shown : (d from : ℕ) (es : List KeyEntry)
    → at_depth d (take (length es - from) (drop from es)) ≡ drop from (at_depth d es)
rest-shown d from es =
    ap (at_depth d)
    (take_all (length es - from) (drop from es) (omega (arith, length-drop from es)))
    ∙ at_depth-drop d from es

pub groups_of-push : (gs : List Group) (g : Group)
    → groups_of (gs ++ g ∷ []) ≡ groups_of gs ++ group_of g ∷ []
groups_of-push [] g = refl
groups_of-push (x ∷ gs) g = ap (λ xs. group_of x ∷ xs) (groups_of-push gs g)

-- a group more is pending
pub so_far-next : (before : Groups) (gs new : List Group) (g : Group) (d from count : ℕ)
    (es : List KeyEntry)
    → groups_of gs ++ groups (drop from (at_depth d es)) ≡ before → new ≡ gs ++ g ∷ []
    → groups (at_depth d (take (length es - from) (drop from es)))
    ≡ group_of g ∷ groups (drop count (at_depth d (take (length es - from) (drop from es))))
    → groups_of new ++ groups (drop (from + count) (at_depth d es)) ≡ before
so_far-next before gs new g d from count es h e some =
    let some
    = subst (λ xs. groups xs ≡ group_of g ∷ groups (drop count xs)) (rest-shown d from es) some
    in
    (λ i. (ap groups_of e ∙ groups_of-push gs g) i
    ++ groups (sym (drop-drop count from (at_depth d es)) i))
    ∙ append_assoc (groups_of gs) (group_of g ∷ [])
    (groups (drop count (drop from (at_depth d es))))
    ∙ ap (λ xs. groups_of gs ++ xs) (sym some)
    ∙ h

-- ---- the range of bytes

last_byte : (g l : Group) (gs : List Group) → slice_get (g ∷ gs) (length gs) ≡ Some l
    → last_of g.byte (map (λ x. x.0) (groups_of gs)) ≡ l.byte
last_byte g l [] h = ap (λ x. x.byte) (same_one g l h)
last_byte g l (f ∷ gs) h = last_byte f l gs h

lengths : (gs : List Group) → length (map (λ x. x.0) (groups_of gs)) ≡ length gs
lengths [] = refl
lengths (g ∷ gs) = ap suc (lengths gs)

pub span_of-ends : (gs : List Group) (first last : Group) → slice_get gs 0 ≡ Some first
    → slice_get gs (length gs - 1) ≡ Some last
    → ◌≡◌ {A = Span} (record { first = first.byte; last = last.byte; count = length gs })
    (span_of (map (λ g. g.0) (groups_of gs)))
span_of-ends [] first last f l = absurd (none_there first f)
span_of-ends (g ∷ gs) first last f l =
    let at : length (g ∷ gs) - 1 ≡ length gs = omega arith in
    let l : slice_get (g ∷ gs) (length gs) ≡ Some last
    = subst (λ n. slice_get (g ∷ gs) n ≡ Some last) at l in
    let same = same_one g first f in
    let count : length gs ≡ length (map (λ x. x.0) (groups_of gs)) = sym (lengths gs) in
    λ i. record
    { first = (sym same i).byte; last = sym (last_byte g last gs l) i; count = suc (count i) }

byte_at : (d : ℕ) (key : List ℕ) → get_or (drop d key) 0 0 ≡ get_or key d 0
byte_at zero key = refl
byte_at (suc d) [] = refl
byte_at (suc d) (c ∷ key) = byte_at d key

pub byte-rest : (d : ℕ) (key rest : List ℕ) → rest ≡ drop d key → get_or key d 0 ≡ get_or rest 0 0
byte-rest d key rest e = sym (ap (λ xs. get_or xs 0 0) e ∙ byte_at d key)

-- ---- a node and the groups below it

pub below-shown : (d : ℕ) (es : List KeyEntry) (p : List ℕ) → p ≡ common_prefix (at_depth d es)
    → at_depth (d + length p) es ≡ below (at_depth d es)
below-shown d es p e =
    sym (cut-at_depth (length p) d es) ∙ ap (λ q. cut (length q) (at_depth d es)) e

pub below-rises : (d : ℕ) (es : List KeyEntry) (p : List ℕ) → p ≡ common_prefix (at_depth d es)
    → Rises (at_depth d es) → Rises (at_depth (d + length p) es)
below-rises d es p e h =
    subst Rises (sym (below-shown d es p e))
    (Rises-cut (common_prefix (at_depth d es)) (at_depth d es)
    (common_prefix-front (at_depth d es)) h)

cut-zero : (es : List Entry) → cut 0 es ≡ es
cut-zero [] = refl
cut-zero (e ∷ es) = ap (λ xs. e ∷ xs) (cut-zero es)

pub at_depth-zero : (es : List KeyEntry) → at_depth 0 es ≡ entries_shown es
at_depth-zero es = cut-zero (entries_shown es)

drop_behind : {A : Type 0} (xs ys : List A) → drop (length xs) (xs ++ ys) ≡ ys
drop_behind [] ys = refl
drop_behind (x ∷ xs) ys = drop_behind xs ys

pub new-groups : (old new : List Group) (gs : Groups) (n : ℕ) → groups_of new ≡ groups_of old ++ gs
    → n ≡ length old → groups_of (take (length new - n) (drop n new)) ≡ gs
new-groups old new gs n e at =
    ap groups_of (take_all (length new - n) (drop n new) (omega (arith, length-drop n new)))
    ∙ sym (drop-map group_of n new)
    ∙ ap (drop n) e
    ∙ ap (λ k. drop k (groups_of old ++ gs)) (at ∙ sym (length-map old group_of))
    ∙ drop_behind (groups_of old) gs

-- ---- the nodes of the file, the last one first

reverse-push : {A : Type 0} (xs : List A) (x : A) → reverse (xs ++ x ∷ []) ≡ x ∷ reverse xs
reverse-push xs x = reverse-append xs (x ∷ [])

pub parts-push : (ns : List TreeNode) (n : TreeNode) (p : Part) → part_of n ≡ p
    → reverse (map part_of (ns ++ n ∷ [])) ≡ p ∷ reverse (map part_of ns)
parts-push ns n p e =
    ap reverse (map-append part_of ns (n ∷ [])) ∙ reverse-push (map part_of ns) (part_of n)
    ∙ ap (λ q. q ∷ reverse (map part_of ns)) e

-- the pending groups and the nodes that were made
pub record NodesSoFar (all : List Entry) (pending : Groups) (made : List Part) : Type 0 where
  pub parts : parts_of (nodes_of (longest all) pending) ++ made ≡ parts_of (tree all)
  pub ready : AreReady (longest all) pending

pub so_far-root : (all : List Entry) (pending : Groups) (made : List Part) → Rises all
    → pending ≡ groups all → made ≡ root_part all ∷ [] → NodesSoFar all pending made
so_far-root all pending made h p m = record {
  parts = (λ i. parts_of (nodes_of (longest all) (p i)) ++ m i) ∙ sym (parts_of-tree all);
  ready
      = subst (AreReady (longest all)) (sym p)
      (groups-ready (longest all) all h (Within-longest all));
}

pub popped : (all : List Entry) (pending rest : List Group) (g : Group) (made : List Part)
    → pending ≡ rest ++ g ∷ [] → NodesSoFar all (groups_of pending) made
    → NodesSoFar all (groups_of rest ++ group_of g ∷ []) made
popped all pending rest g made e h =
    subst (λ gs. NodesSoFar all gs made) (ap groups_of e ∙ groups_of-push rest g) h

pub last_ready : (all : List Entry) (old : Groups) (byte : ℕ) (es : List Entry) (made : List Part)
    → NodesSoFar all (old ++ (byte, es) ∷ []) made → IsReady (longest all) (byte, es)
last_ready all old byte es made h = (AreReady-back (longest all) old ((byte, es) ∷ []) h.ready).0

module _ (all : List Entry) (old new : Groups) (byte : ℕ) (es : List Entry) (made more : List Part)
    (e : new ≡ old ++ groups (below es)) (m : more ≡ part_for byte es ∷ made)
    (h : NodesSoFar all (old ++ (byte, es) ∷ []) made) where
  pub so_far-node : NodesSoFar all new more
  so_far-node = record {
    parts = (λ i. parts_of (nodes_of (longest all) (e i)) ++ m i)
        ∙ sym (append_assoc (parts_of (nodes_of (longest all) (old ++ groups (below es))))
        (part_for byte es ∷ []) made)
        ∙ ap (λ ps. ps ++ made)
        (sym (parts_of-last (longest all) old byte es
        (last_ready all old byte es made h).within))
        ∙ h.parts;
    ready = subst (AreReady (longest all)) (sym e)
        (AreReady-append (longest all) old (groups (below es))
        (AreReady-front (longest all) old ((byte, es) ∷ []) h.ready)
        (below-ready (longest all) byte es (last_ready all old byte es made h)));
  }

  pub fewer : length (parts_of (nodes_of (longest all) new))
      < length (parts_of (nodes_of (longest all) (old ++ (byte, es) ∷ [])))
  fewer =
      let parts
      = ap length
      (parts_of-last (longest all) old byte es (last_ready all old byte es made h).within)
      in
      omega (
        arith,
        parts,
        length-append (parts_of (nodes_of (longest all) (old ++ groups (below es))))
            (part_for byte es ∷ []),
        ap (λ gs. length (parts_of (nodes_of (longest all) gs))) e,
      )

pub so_far-end : (all : List Entry) (made : List Part) → NodesSoFar all [] made
    → made ≡ parts_of (tree all)
so_far-end all made h = h.parts

pub map-reverse : {A B : Type 0} (f : A → B) (xs : List A) → map f (reverse xs) ≡ reverse (map f xs)
map-reverse f [] = refl
map-reverse f (x ∷ xs) =
    ap (map f) (reverse-append (x ∷ []) xs)
    ∙ map-append f (reverse xs) (x ∷ [])
    ∙ ap (λ ys. ys ++ f x ∷ []) (map-reverse f xs)
    ∙ sym (reverse-append (f x ∷ []) (map f xs))

no_items : {A : Type 0} (xs : List A) → length xs ≡ 0 → xs ≡ []
no_items [] e = refl
no_items (x ∷ xs) e = absurd (omega arith)

-- a vector from which nothing could be taken
pub nothing_left : (v : Vec Group Global) → vec_len v ≡ 0 → v.items ≡ []
nothing_left v e = no_items v.items (omega arith)
