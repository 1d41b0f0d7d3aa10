-- Each row of nodes that was written is visited, and no test fails.
use Rattle.std.proofs.Common.{◌≡◌, refl, sym, ap, subst, ◌∙◌, ◌⊎◌, inl, inr, ⊎_elim, ℕ, zero, suc}
use Rattle.std.proofs.Common.{◌+◌, ◌^◌, ◌<◌, ◌≤◌, Bool, true, false, cond, ◌==◌, ◌&&◌, ◌||◌, List}
use Rattle.std.proofs.Common.{[], ◌∷◌, ◌++◌, length, drop, map, flat_map, Some, None, arith}
use Rattle.std.proofs.Common.{length-append}
use Rattle.std.proofs.Math.ListN.{length-drop}
use Rattle.std.proofs.lemmas.Bool.{le-leb, lt-ltb}
use Rattle.std.proofs.lemmas.List.{length-map}
use Rattle.std.specs.List.{AllByRecursion}
use Rattle.index_format.specs.declared.numbers.TheConstants.{FIRST_PLACE}
use Rattle.index_format.specs.Map.{Value}
use Rattle.index_format.specs.Link.{place_of, has_prefix, has_values, has_children, link_to}
use Rattle.index_format.specs.Node.{after_prefix, child, children}
use Rattle.index_format.specs.Check.{prefix_fits, children_fit, values_fit, Arrival, is_sound}
use Rattle.index_format.specs.Check.{arrivals}
use Rattle.index_format.specs.Tree.{Entry, common_prefix, cut, ending, grouped, groups, siblings}
use Rattle.index_format.specs.Tree.{nodes_below, Rises}
use Rattle.index_format.specs.File.{Links, offset, prefix_field, children_field, values_field}
use Rattle.index_format.specs.File.{node_bytes, written}
use Rattle.index_format.proofs.TreeLemmas.{behind, groups-rise, Within, groups-within}
use Rattle.index_format.proofs.TreeLemmas.{nodes_below-groups}
use Rattle.index_write.specs.Parts.{last_of}
use Rattle.index_write.proofs.NodeLemmas.{bytes_of-nodes_of}
use Rattle.index_write.proofs.WriteLemmas.{length-le-values_field, links-bytes}
use Rattle.index_write.proofs.Reading.{NoNul, Fits, place_of-link_to, has_values-link_to}
use Rattle.index_write.proofs.Reading.{has_children-link_to}
use Rattle.index_write.proofs.Lookup.{has, BytesRise, groups-bytes}
use Rattle.index_write.proofs.Walks.{Stands, RowStands, Good, Good-behind, NoNul-prefix}
use Rattle.index_write.proofs.Walks.{Fits-ending, Within-suc, length-fields, after_children_are}
use Rattle.index_write.proofs.Walks.{groups-all, row_last, as_row, row, at_place, link_row}
use Rattle.index_write.proofs.Walks.{row_tail, at_low, child_is, no_child, below, place, place_tail}
use Rattle.index_write.proofs.Walks.{first_own, first_own_start, row_inside, others_stand, under}
use Rattle.index_write.proofs.Walks.{node, next}
use Rattle.index_write.proofs.Accepted.{and_intro, or_right, sound_prefix, sound_children}
use Rattle.index_write.proofs.Accepted.{sound_no_children, sound_values}
use Rattle.index_format.proofs.Passing.{seen_after}
use Rattle.index_write.proofs.Visits.{NotIn, RowOk, row-cons, row-append, row-nil, row-more, narrow}
use Rattle.index_write.proofs.Visits.{arrival-ok, row_lookup, row_rise, last-bounds, children_of}

-- ---- entries of keys with bytes from 1 to 127, each with a value

abbrev pub KeyBytes : List ℕ → Type 0
KeyBytes key = AllByRecursion (λ c. (0 < c) × (c < 128)) key

pub record Fine (es : List Entry) : Type 0 where
  pub keys : AllByRecursion (λ e. KeyBytes e.0) es
  pub some : AllByRecursion (λ e. 0 < length e.1) es

KeyBytes-drop : (n : ℕ) (k : List ℕ) → KeyBytes k → KeyBytes (drop n k)
KeyBytes-drop zero k h = h
KeyBytes-drop (suc n) [] h = tt
KeyBytes-drop (suc n) (c ∷ k) h = KeyBytes-drop n k h.1

cut-keys : (n : ℕ) (es : List Entry) → AllByRecursion (λ e. KeyBytes e.0) es
    → AllByRecursion (λ e. KeyBytes e.0) (cut n es)
cut-keys n [] h = tt
cut-keys n (e ∷ es) h = (KeyBytes-drop n e.0 h.0, cut-keys n es h.1)

cut-some : (n : ℕ) (es : List Entry) → AllByRecursion (λ e. 0 < length e.1) es
    → AllByRecursion (λ e. 0 < length e.1) (cut n es)
cut-some n [] h = tt
cut-some n (e ∷ es) h = (h.0, cut-some n es h.1)

Fine-cut : (n : ℕ) (es : List Entry) → Fine es → Fine (cut n es)
Fine-cut n es h = record { keys = cut-keys n es h.keys; some = cut-some n es h.some }

abbrev BytesFit : List (ℕ × List Entry) → Type 0
BytesFit gs = AllByRecursion (λ g. (0 < g.0) × (g.0 < 128)) gs

grouped-fit : (d : ℕ) (e : Entry) (gs : List (ℕ × List Entry)) → (0 < d) × (d < 128) → BytesFit gs
    → BytesFit (grouped d e gs)
grouped-fit d e [] f h = (f, tt)
grouped-fit d e ((b, fs) ∷ gs) f h =
    elim (d == b) as (λ t. BytesFit (cond t ((b, e ∷ fs) ∷ gs) ((d, e ∷ []) ∷ (b, fs) ∷ gs)))
    [ true ↦ h | false ↦ (f, h) ]

groups-fit : (es : List Entry) → AllByRecursion (λ e. KeyBytes e.0) es → BytesFit (groups es)
groups-fit [] h = tt
groups-fit (([], v) ∷ es) h = groups-fit es h.1
groups-fit ((c ∷ k, v) ∷ es) h = grouped-fit c (k, v) (groups es) h.0.0 (groups-fit es h.1)

grouped-filled : (d : ℕ) (e : Entry) (gs : List (ℕ × List Entry))
    → AllByRecursion (λ g. 0 < length g.1) gs
    → AllByRecursion (λ g. 0 < length g.1) (grouped d e gs)
grouped-filled d e [] h = (omega arith, tt)
grouped-filled d e ((b, fs) ∷ gs) h =
    elim (d == b) as
    (λ t. AllByRecursion (λ g. 0 < length g.1)
    (cond t ((b, e ∷ fs) ∷ gs) ((d, e ∷ []) ∷ (b, fs) ∷ gs))) [
      | true ↦ (omega arith, h.1)
      | false ↦ (omega arith, h)
    ]

groups-filled : (es : List Entry) → AllByRecursion (λ g. 0 < length g.1) (groups es)
groups-filled [] = tt
groups-filled (([], v) ∷ es) = groups-filled es
groups-filled ((c ∷ k, v) ∷ es) = grouped-filled c (k, v) (groups es) (groups-filled es)

-- a group of which a node can be made and read
pub record GoodGroup (d : ℕ) (es : List Entry) : Type 0 where
  pub good : Good d es
  pub fine : Fine es
  pub filled : 0 < length es

pub record GoodRow (d : ℕ) (gs : List (ℕ × List Entry)) : Type 0 where
  pub each : AllByRecursion (λ g. GoodGroup d g.1) gs
  pub rise : BytesRise gs
  pub fit : BytesFit gs

each_group : (d : ℕ) (gs : List (ℕ × List Entry)) → AllByRecursion (λ g. Rises g.1) gs
    → AllByRecursion (λ g. Within d g.1) gs
    → AllByRecursion (λ g. AllByRecursion (λ e. NoNul e.0) g.1) gs
    → AllByRecursion (λ g. AllByRecursion (λ e. AllByRecursion Fits e.1) g.1) gs
    → AllByRecursion (λ g. AllByRecursion (λ e. KeyBytes e.0) g.1) gs
    → AllByRecursion (λ g. AllByRecursion (λ e. 0 < length e.1) g.1) gs
    → AllByRecursion (λ g. 0 < length g.1) gs → AllByRecursion (λ g. GoodGroup d g.1) gs
each_group d [] r w k f b s l = tt
each_group d (g ∷ gs) r w k f b s l = (
  record {
    good = record { rises = r.0; within = w.0; keys = k.0; fit = f.0 };
    fine = record { keys = b.0; some = s.0 };
    filled = l.0;
  },
  each_group d gs r.1 w.1 k.1 f.1 b.1 s.1 l.1,
)

pub GoodRow-groups : (d : ℕ) (es : List Entry) → Good d es → Fine es → GoodRow d (groups es)
GoodRow-groups d es g f = record {
  each
      = each_group d (groups es) (groups-rise es g.rises)
      (groups-within d es (Within-suc d es g.within))
      (groups-all (λ e. NoNul e.0) (λ c k v h. h.1) es g.keys)
      (groups-all (λ e. AllByRecursion Fits e.1) (λ c k v h. h) es g.fit)
      (groups-all (λ e. KeyBytes e.0) (λ c k v h. h.1) es f.keys)
      (groups-all (λ e. 0 < length e.1) (λ c k v h. h) es f.some)
      (groups-filled es);
  rise = groups-bytes es g.rises;
  fit = groups-fit es f.keys;
}

-- ---- a node is sound

last_small : (byte : ℕ) (gs : List (ℕ × List Entry)) → byte < 128 → BytesFit gs
    → last_of byte (map (λ g. g.0) gs) < 128
last_small byte [] h fit = h
last_small byte ((b, es) ∷ gs) h fit = last_small b gs fit.0.1 fit.1

module _ (b : List ℕ) (at : ℕ) (p : List ℕ) (vs : List Value) (more : List ℕ) (low : at < 2 ^ 28)
    (d : ℕ) where
  row_fit : (gs : List (ℕ × List Entry)) (s : ℕ)
      → after_prefix b (link_to at p (written s (siblings (nodes_below d) gs)).links vs)
      ≡ children_field (written s (siblings (nodes_below d) gs)).links ++ more
      → BytesRise gs → BytesFit gs
      → children_fit b (link_to at p (written s (siblings (nodes_below d) gs)).links vs) ≡ true
  unfolding written
  row_fit [] s tail rise fit = sound_no_children b at p vs low [] refl
  row_fit ((byte, es) ∷ gs) s tail rise fit =
      let under = written s (nodes_below d (behind es)) in
      let place = s + length under.bytes in
      let next = place + length (node_bytes (common_prefix es) under.links (ending (behind es))) in
      let l : ℕ × ℕ = (byte, link_to place (common_prefix es) under.links (ending (behind es))) in
      let ls = (written next (siblings (nodes_below d) gs)).links in
      let rises = row_rise d ((byte, es) ∷ gs) s rise in
      let bounds = last-bounds byte ls rises.0 rises.1 in
      sound_children b at p vs more low l ls tail fit.0.0 bounds.0
      (omega (arith, row_last d byte gs next, last_small byte gs fit.0.1 fit.1))

some_flag : (at : ℕ) (p : List ℕ) (links : Links) (vs : List Value) → at < 2 ^ 28
    → (0 < length vs) ⊎ (0 < length links)
    → (has_prefix (link_to at p links vs)
    || (has_values (link_to at p links vs) || has_children (link_to at p links vs)))
    ≡ true
some_flag at p links [] low (inl h) = absurd (omega (arith, h))
some_flag at p links (v ∷ vs) low (inl h) =
    let link = link_to at p links (v ∷ vs) in
    or_right (has_prefix link) _
    (ap (λ t. t || has_children link) (has_values-link_to at p links (v ∷ vs) low))
some_flag at p [] vs low (inr h) = absurd (omega (arith, h))
some_flag at p (l ∷ links) vs low (inr h) =
    let link = link_to at p (l ∷ links) vs in
    or_right (has_prefix link) _
    (or_right (has_values link) _ (has_children-link_to at p (l ∷ links) vs low))

filled_links : (links : Links) → 0 < length links → 0 < length (children_field links)
filled_links [] h = absurd (omega (arith, h))
filled_links (l ∷ links) h = omega arith

some_bytes : (p : List ℕ) (links : Links) (vs : List Value) → (0 < length vs) ⊎ (0 < length links)
    → 0 < length (node_bytes p links vs)
unfolding node_bytes
some_bytes p links vs (inl h) =
    omega (
      arith,
      h,
      length-le-values_field vs,
      length-append (prefix_field p ++ children_field links) (values_field vs),
    )
some_bytes p links vs (inr h) =
    omega (
      arith,
      filled_links links h,
      length-append (prefix_field p ++ children_field links) (values_field vs),
      length-append (prefix_field p) (children_field links),
    )

grouped_some : (d : ℕ) (e : Entry) (gs : List (ℕ × List Entry)) → 0 < length (grouped d e gs)
grouped_some d e [] = omega arith
grouped_some d e ((b, fs) ∷ gs) =
    elim (d == b) as (λ t. 0 < length (cond t ((b, e ∷ fs) ∷ gs) ((d, e ∷ []) ∷ (b, fs) ∷ gs)))
    [ true ↦ omega arith | false ↦ omega arith ]

has_content : (es : List Entry) → 0 < length es → Fine es
    → (0 < length (ending es)) ⊎ (0 < length (groups es))
has_content [] h f = absurd (omega (arith, h))
has_content (([], v) ∷ es) h f = inl f.some.0
has_content ((c ∷ k, v) ∷ es) h f = inr (grouped_some c (k, v) (groups es))

links_length : (d : ℕ) (gs : List (ℕ × List Entry)) (s : ℕ)
    → length (written s (siblings (nodes_below d) gs)).links ≡ length gs
links_length d gs s =
    sym (length-map (written s (siblings (nodes_below d) gs)).links (λ l. l.0))
    ∙ ap length (links-bytes (siblings (nodes_below d) gs) s ∙ bytes_of-nodes_of d gs)
    ∙ length-map gs (λ g. g.0)

module _ (b : List ℕ) (d : ℕ) (p : List ℕ) (es : List Entry) (link : ℕ) (st : Stands b d p es link)
    (good : Good d es) (text : NoNul p) (fine : Fine es) (inside : st.start ≤ length b) where
  pub kids : Links
  kids = (written st.start (siblings (nodes_below d) (groups es))).links

  pub q : ℕ
  q = at_place b d p es link st good text

  q_low : q < 2 ^ 28
  unfolding q
  q_low = at_low b d p es link st good text

  link_is : link ≡ link_to q p kids (ending es)
  unfolding q kids
  link_is = link_row b d p es link st good text

  kids_tail : after_prefix b (link_to q p kids (ending es))
      ≡ children_field kids ++ (values_field (ending es) ++ st.rest)
  unfolding q kids
  kids_tail = row_tail b d p es link st good text

  pub place_is : place_of link ≡ q
  place_is = ap place_of link_is ∙ place_of-link_to q p kids (ending es) q_low

  q_is : q ≡ st.start + length (written st.start (nodes_below d es)).bytes
  unfolding q at_place place below
  q_is = refl

  q_tail : drop q b
      ≡ prefix_field p
      ++ (children_field (written st.start (nodes_below d es)).links
      ++ (values_field (ending es) ++ st.rest))
  unfolding q at_place below
  q_tail = place_tail b d p es link st

  pub q_inside : q ≤ length b
  q_inside =
      omega (
        arith,
        inside,
        q_is,
        ap length st.tail,
        length-drop st.start b,
        length-append (written st.start (nodes_below d es)).bytes
            (node_bytes p (written st.start (nodes_below d es)).links (ending es) ++ st.rest),
      )

  few : length (ending es) < 2 ^ 32
  few
      = omega (
        arith,
        st.low,
        length-le-values_field (ending es),
        length-fields p (written st.start (nodes_below d es)).links (ending es),
      )

  fields_fit : (prefix_fits b link && (children_fit b link && values_fit b link)) ≡ true
  unfolding kids
  fields_fit =
      and_intro _ _
      (ap (prefix_fits b) link_is
      ∙ sound_prefix b q p kids (ending es)
      (children_field (written st.start (nodes_below d es)).links
      ++ (values_field (ending es) ++ st.rest)) q_low q_tail)
      (and_intro _ _
      (ap (children_fit b) link_is
      ∙ row_fit b q p (ending es) (values_field (ending es) ++ st.rest) q_low d (groups es)
      st.start kids_tail (groups-bytes es good.rises) (groups-fit es fine.keys))
      (ap (values_fit b) link_is
      ∙ sound_values b q p kids (ending es) st.rest q_low
      (after_children_are b q p kids (ending es) st.rest q_low kids_tail) few
      (Fits-ending es good.fit)))

  pub node_sound : (above : ℕ) (top : Bool)
      → (top || (has_prefix link || (has_values link || has_children link))) ≡ true
      → is_sound b (record { above = above; is_root = top; link = link }) ≡ true
  unfolding is_sound
  node_sound above top h =
      and_intro _ _
      (and_intro _ _
      (and_intro _ _ (le-leb FIRST_PLACE (place_of link) (omega (arith, place_is, q_is, st.high)))
      (le-leb (place_of link) (length b) (omega (arith, place_is, q_inside))))
      fields_fit)
      h

  pub node_flag : (0 < length (ending es)) ⊎ (0 < length (groups es))
      → (has_prefix link || (has_values link || has_children link)) ≡ true
  unfolding kids
  node_flag h =
      ap (λ l. has_prefix l || (has_values l || has_children l)) link_is
      ∙ some_flag q p kids (ending es) q_low
      (⊎_elim (λ v. inl v) (λ g. inr (omega (arith, g, links_length d (groups es) st.start))) h)

  pub node_children : children b link ≡ map (λ l. l.1) kids
  unfolding kids
  node_children =
      ap (children b) link_is
      ∙ children_of b q p (ending es) (values_field (ending es) ++ st.rest) q_low d (groups es)
      st.start kids_tail (groups-bytes es good.rises) (λ c.
      sym (ap (λ l. child b l c) link_is)
      ∙ elim (has c (groups es)) as
      (λ t. has c (groups es) ≡ t → child b link c ≡ cond t (Some (offset kids c)) None) [
        | true ↦ λ h. child_is b d p es link st good text c h
        | false ↦ λ h. no_child b d p es link st good text c h
      ] refl
      ∙ sym (row_lookup d c (groups es) st.start))

-- ---- rows, down to a depth

abbrev pub row_arrivals : List ℕ → ℕ → ℕ → Links → List Arrival
row_arrivals b depth above links =
    flat_map (λ link. arrivals b depth (record { above = above; is_root = false; link = link }))
    (map (λ l. l.1) links)

-- rows whose nodes are visited with this depth left
pub record Claim (b : List ℕ) (depth : ℕ) : Type 0 where
  pub rows : (d : ℕ) (gs : List (ℕ × List Entry)) (s above : ℕ) (seen : List ℕ) → RowStands b d gs s
      → GoodRow d gs → s ≤ length b
      → s + length (written s (siblings (nodes_below d) gs)).bytes ≤ above → above ≤ depth
      → NotIn s (s + length (written s (siblings (nodes_below d) gs)).bytes) seen
      → RowOk b seen (row_arrivals b depth above (written s (siblings (nodes_below d) gs)).links)
      (s + length (written s (siblings (nodes_below d) gs)).bytes)

abbrev pub ClaimBelow : List ℕ → ℕ → Type 0
ClaimBelow b zero = Unit {0}
ClaimBelow b (suc n) = Claim b n

-- a node, and all that is below it
pub node_visited : (depth : ℕ) (b : List ℕ) → ClaimBelow b depth
    → (d : ℕ) (p : List ℕ) (es : List Entry) (link : ℕ) (st : Stands b d p es link) → Good d es
    → NoNul p → Fine es → st.start ≤ length b → (above e : ℕ) (top : Bool) (seen : List ℕ)
    → place_of link < above → above ≤ depth → place_of link < e → NotIn st.start e seen
    → is_sound b (record { above = above; is_root = top; link = link }) ≡ true
    → RowOk b seen (arrivals b depth (record { above = above; is_root = top; link = link })) e
unfolding arrivals q kids
node_visited zero b inner d p es link st good text fine inside above e top seen lt deep to n sound =
    absurd (omega (arith, lt, deep))
node_visited (suc depth) b inner d p es link st good text fine inside above e top seen lt deep to n
    sound
    =
    let a : Arrival = record { above = above; is_root = top; link = link } in
    let row_links = (written st.start (siblings (nodes_below d) (groups es))).links in
    let row_bytes = (written st.start (siblings (nodes_below d) (groups es))).bytes in
    let place_eq = place_is b d p es link st good text fine inside in
    let here = q_is b d p es link st good text fine inside in
    let rows = ap (λ ns. length (written st.start ns).bytes) (as_row b d p es link st good text) in
    let ends : st.start + length row_bytes ≡ place_of link = omega (arith, place_eq, here, rows) in
    let below
    = inner.rows d (groups es) st.start (place_of link) (place_of link ∷ seen)
    (row b d p es link st good text) (GoodRow-groups d es good fine) inside
    (omega (arith, ends)) (omega (arith, lt, deep)) (
      inr (omega (arith, ends)),
      narrow st.start e st.start (st.start + length row_bytes) seen (omega arith)
          (omega (arith, ends, to)) n,
    ) in
    let all : arrivals b (suc depth) a ≡ a ∷ row_arrivals b depth (place_of link) row_links
    = ap (λ t. a
    ∷ cond t (flat_map
    (λ l. arrivals b depth (record { above = place_of link; is_root = false; link = l }))
    (children b link)) []) (lt-ltb (place_of link) above lt)
    ∙ ap (λ ls. a
    ∷ flat_map
    (λ l. arrivals b depth (record { above = place_of link; is_root = false; link = l }))
    ls) (node_children b d p es link st good text fine inside) in
    subst (λ rs. RowOk b seen rs e) (sym all)
    (row-cons b seen a (row_arrivals b depth (place_of link) row_links) e to
    (arrival-ok b seen a st.start e lt (omega (arith, place_eq, here)) to n sound)
    (row-more b (place_of link ∷ seen) (row_arrivals b depth (place_of link) row_links)
    (st.start + length row_bytes) e (omega (arith, ends, to)) below))

length-cut : (n : ℕ) (es : List Entry) → length (cut n es) ≡ length es
length-cut n es = length-map es (λ e. (drop n e.0, e.1))

rows_step : (depth : ℕ) (b : List ℕ) → ClaimBelow b depth
    → (d : ℕ) (gs : List (ℕ × List Entry)) (s above : ℕ) (seen : List ℕ) → RowStands b d gs s
    → GoodRow d gs → s ≤ length b
    → s + length (written s (siblings (nodes_below d) gs)).bytes ≤ above → above ≤ depth
    → NotIn s (s + length (written s (siblings (nodes_below d) gs)).bytes) seen
    → RowOk b seen (row_arrivals b depth above (written s (siblings (nodes_below d) gs)).links)
    (s + length (written s (siblings (nodes_below d) gs)).bytes)
unfolding written next under node
rows_step depth b inner d [] s above seen stand good inside low deep n = row-nil b seen (s + 0)
rows_step depth b inner d ((byte, es) ∷ gs) s above seen stand good inside low deep n =
    let under = written s (nodes_below d (behind es)) in
    let node = node_bytes (common_prefix es) under.links (ending (behind es)) in
    let after = s + length under.bytes + length node in
    let more = written after (siblings (nodes_below d) gs) in
    let at = s + length under.bytes in
    let link = link_to at (common_prefix es) under.links (ending (behind es)) in
    let end = s + length (under.bytes ++ node ++ more.bytes) in
    let sizes : end ≡ after + length more.bytes
    = omega
    (arith, length-append (under.bytes ++ node) more.bytes, length-append under.bytes node)
    in
    let st = first_own b d byte es gs s stand in
    let start = first_own_start b d byte es gs s stand in
    let g = good.each.0 in
    let behind_good = Good-behind d es g.good in
    let behind_fine = Fine-cut (length (common_prefix es)) es g.fine in
    let text = NoNul-prefix es g.good.keys in
    let content
    = has_content (behind es)
    (omega (arith, g.filled, length-cut (length (common_prefix es)) es)) behind_fine in
    let in_row : st.start ≤ length b = omega (arith, start, inside) in
    let place : place_of link ≡ at
    = place_of-link_to at (common_prefix es) under.links (ending (behind es))
    (omega (arith, stand.low, sizes)) in
    let some
    = some_bytes (common_prefix es) under.links (ending (behind es))
    (⊎_elim (λ v. inl v)
    (λ k. inr (omega (
      arith,
      k,
      ap (λ ns. length (written s ns).links)
          (nodes_below-groups d (behind es) behind_good.within),
      links_length d (groups (behind es)) s,
    ))) content) in
    let sound
    = node_sound b d (common_prefix es) (behind es) link st behind_good text behind_fine in_row
    above false
    (node_flag b d (common_prefix es) (behind es) link st behind_good text behind_fine
    in_row content) in
    let first_ok
    = node_visited depth b inner d (common_prefix es) (behind es) link st behind_good text
    behind_fine in_row above after false seen (omega (arith, place, some, sizes, low)) deep
    (omega (arith, place, some))
    (narrow s end st.start after seen (omega (arith, start)) (omega (arith, sizes)) n) sound
    in
    let others : RowStands b d gs after = others_stand b d byte es gs s stand in
    let rest_good : GoodRow d gs
    = record { each = good.each.1; rise = good.rise.1; fit = good.fit.1 } in
    let first_arrivals
    = arrivals b depth (record { above = above; is_root = false; link = link }) in
    let seen_then
    = first_ok.after after end (omega arith)
    (narrow s end after end seen (omega arith) (omega arith) n) in
    let others_ok
    = rows_step depth b inner d gs after above (seen_after first_arrivals seen) others rest_good
    (row_inside b d byte es gs s stand inside) (omega (arith, sizes, low)) deep
    (subst (λ e. NotIn after e (seen_after first_arrivals seen)) sizes seen_then) in
    subst (RowOk b seen (first_arrivals ++ row_arrivals b depth above more.links)) (sym sizes)
    (row-append b seen first_arrivals (row_arrivals b depth above more.links) after
    (after + length more.bytes) (omega arith) first_ok others_ok)

pub claim : (depth : ℕ) (b : List ℕ) → Claim b depth
claim zero b = record { rows = rows_step zero b tt }
claim (suc n) b = record { rows = rows_step (suc n) b (claim n b) }

pub claim_below : (depth : ℕ) (b : List ℕ) → ClaimBelow b depth
claim_below zero b = tt
claim_below (suc n) b = claim n b
