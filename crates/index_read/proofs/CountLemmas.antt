-- The nodes with their keys are as many as a reader visits.
use Rattle.std.proofs.Common.{◌≡◌, refl, sym, ap, subst, ◌∙◌, ⊎_elim, ℕ, zero, suc, ◌+◌, ◌-◌, ◌<◌}
use Rattle.std.proofs.Common.{◌≤◌, true, cond, ◌&&◌, nat_lt, nat_le, List, [], ◌∷◌, ◌++◌, length}
use Rattle.std.proofs.Common.{flat_map, filter_map, get_or, Option, Some, None, arith}
use Rattle.std.proofs.Common.{length-append}
use Rattle.std.proofs.lemmas.Bool.{lt-ltb, leb-true, and_parts, cases_Bool}
use Rattle.std.proofs.lemmas.List.{append-nil}
use Rattle.std.specs.List.{cons_option}
use Rattle.index_format.specs.Link.{place_of, has_children}
use Rattle.index_format.specs.Node.{root, prefix, after_prefix, first_byte, last_byte, child}
use Rattle.index_format.specs.Node.{upward, children}
use Rattle.index_format.specs.Check.{children_fit, Arrival, arrivals, root_arrival, index_fault}
use Rattle.index_format.specs.Nodes.{IsNode, top, below, node_count}
use Rattle.index_nodes.specs.Pending.{child_arrival}
use Rattle.index_nodes.proofs.FieldLemmas.{range_fits, children_test}
use Rattle.index_nodes.proofs.ReadLemmas.{childless, child_below_range, child_above_range}
use Rattle.index_nodes.proofs.SoundNodes.{child_below, node_sound}
use Rattle.index_read.specs.Keys.{Item, all_items, on_child, branches, key_bytes, items}

filter_none : (h : ℕ → Option ℕ) (n s : ℕ) → ((k : ℕ) → s ≤ k → k < s + n → h k ≡ None)
    → filter_map h (upward s n) ≡ []
filter_none h zero s none = refl
filter_none h (suc n) s none =
    ap (λ o. cons_option o (filter_map h (upward (s + 1) n))) (none s (omega arith) (omega arith))
    ∙ filter_none h n (s + 1) (λ k le lt. none k (omega (arith, le)) (omega (arith, lt)))

filter_split : (h : ℕ → Option ℕ) (m n s : ℕ)
    → filter_map h (upward s (m + n)) ≡ filter_map h (upward s m) ++ filter_map h (upward (s + m) n)
filter_split h zero n s =
    let none : 0 + n ≡ n = omega arith in
    let here : s ≡ s + 0 = omega arith in
    (λ i. filter_map h (upward (here i) (none i)))
filter_split h (suc m) n s =
    let more : suc m + n ≡ suc (m + n) = omega arith in
    let on : s + 1 + m ≡ s + suc m = omega arith in
    ap (λ k. filter_map h (upward s k)) more
    ∙ ap (cons_option (h s))
    (filter_split h m n (s + 1)
    ∙ ap (λ k. filter_map h (upward (s + 1) m) ++ filter_map h (upward k n)) on)
    ∙ cons_append (h s) (filter_map h (upward (s + 1) m)) (filter_map h (upward (s + suc m) n))
  where
    cons_append : (o : Option ℕ) (xs ys : List ℕ)
        → cons_option o (xs ++ ys) ≡ cons_option o xs ++ ys
    cons_append None xs ys = refl
    cons_append (Some x) xs ys = refl

range_order : (b : List ℕ) (link : ℕ) → has_children link ≡ true → children_fit b link ≡ true
    → (first_byte b link ≤ last_byte b link) × (last_byte b link ≤ 127)
unfolding first_byte last_byte
range_order b link h fit =
    let rest = after_prefix b link in
    let first = get_or rest 0 0 in
    let last = get_or rest 1 0 in
    let all : range_fits rest first last ≡ true = sym (children_test b link rest h refl) ∙ fit in
    let tests = (and_parts (nat_le 2 (length rest)) _ all).1 in
    let ends = (and_parts (nat_lt 0 first && nat_le first last && nat_le last 127) _ tests).0 in
    let both = and_parts (nat_lt 0 first && nat_le first last) (nat_le last 127) ends in (
      leb-true first last (and_parts (nat_lt 0 first) (nat_le first last) both.0).1,
      leb-true last 127 both.1,
    )

children_all : (b : List ℕ) (link : ℕ) → children_fit b link ≡ true
    → filter_map (child b link) (upward 0 key_bytes) ≡ children b link
unfolding children
children_all b link fit =
    ⊎_elim
    (λ has.
    let first = first_byte b link in
    let last = last_byte b link in
    let r = range_order b link has fit in
    let n = last - first + 1 in
    let split : key_bytes ≡ first + (n + (127 - last)) = omega (arith, r.0, r.1) in
    let start : 0 + first ≡ first = omega arith in
    let after : first + n ≡ last + 1 = omega (arith, r.0) in
    ap (λ k. filter_map (child b link) (upward 0 k)) split
    ∙ filter_split (child b link) first (n + (127 - last)) 0
    ∙ (λ i. filter_none (child b link) first 0
    (λ k le lt. child_below_range b link k (omega (arith, lt))) i
    ++ filter_map (child b link) (upward (start i) (n + (127 - last))))
    ∙ filter_split (child b link) n (127 - last) first
    ∙ ap (λ xs. filter_map (child b link) (upward first n) ++ xs)
    (filter_none (child b link) (127 - last) (first + n)
    (λ k le lt. child_above_range b link k (omega (arith, le, after))))
    ∙ append-nil (filter_map (child b link) (upward first n)))
    (λ none.
    filter_none (child b link) key_bytes 0 (λ k le lt. childless b link k none)
    ∙ sym (filter_none (child b link) (last_byte b link - first_byte b link + 1) (first_byte b link)
    (λ k le lt. childless b link k none)))
    (cases_Bool (has_children link))

count_branches : (f : ℕ → List ℕ → List Item) (g : ℕ → List Arrival) (b : List ℕ) (link : ℕ)
    (key : List ℕ) (byte n : ℕ)
    → ((c next : ℕ) (under : List ℕ) → child b link c ≡ Some next
    → length (f next under) ≡ length (g next))
    → length (branches f b link key byte n)
    ≡ length (flat_map g (filter_map (child b link) (upward byte n)))
unfolding branches
count_branches f g b link key byte zero h = refl
count_branches f g b link key byte (suc n) h =
    let more = branches f b link key (byte + 1) n in
    let others = filter_map (child b link) (upward (byte + 1) n) in
    let rest = count_branches f g b link key (byte + 1) n h in
    elim (child b link byte) as
    (λ o. child b link byte ≡ o
    → length (on_child o (λ next. f next (key ++ byte ∷ [])) ++ more)
    ≡ length (flat_map g (cons_option o others))) [
      | None ↦ λ e. rest
      | Some next ↦ λ e.
          let here = h byte next (key ++ byte ∷ []) e in
          omega (
            arith,
            here,
            rest,
            length-append (f next (key ++ byte ∷ [])) more,
            length-append (g next) (flat_map g others),
          )
    ] refl

pub count_items : (b : List ℕ) → index_fault b ≡ None → (d link : ℕ) (key : List ℕ) (a : Arrival)
    → a.link ≡ link → IsNode b link → place_of link < d → place_of link < a.above
    → length (items b d link key) ≡ length (arrivals b d a)
unfolding items arrivals
count_items b accepted zero link key a is node deep low = absurd (omega (arith, deep))
count_items b accepted (suc d) link key a is node deep low =
    let p = place_of link in
    let g = λ (l : ℕ). arrivals b d (child_arrival p l) in
    let lower : place_of a.link < a.above = subst (λ l. place_of l < a.above) (sym is) low in
    let under
    = count_branches (items b d) g b link (key ++ prefix b link) 0 key_bytes
    (λ c next under some. let lt
    = child_below b accepted link c next node some in count_items b accepted d next
    under (child_arrival p next) refl (below c next node some)
    (omega (arith, lt, deep)) lt) in
    ap suc (under
    ∙ ap (λ ls. length (flat_map g ls))
    (children_all b link (node_sound b accepted link node).children))
    ∙ ap (λ l. suc
    (length (flat_map (λ k. arrivals b d (child_arrival (place_of l) k)) (children b l))))
    (sym is)
    ∙ ap (λ t. suc
    (length (cond t
    (flat_map (λ k. arrivals b d (child_arrival (place_of a.link) k)) (children b a.link))
    []))) (sym (lt-ltb (place_of a.link) a.above lower))

pub count_all : (b : List ℕ) → index_fault b ≡ None → length (all_items b) ≡ node_count b
unfolding node_count
count_all b accepted =
    let node : IsNode b (root b) = top in
    let sound = node_sound b accepted (root b) node in
    count_items b accepted (length b + 1) (root b) [] (root_arrival b) refl node
    (omega (arith, sound.within)) (omega (arith, sound.within))

-- The root is one of them.
pub root_counted : (b : List ℕ) → 1 ≤ length (all_items b)
unfolding items
root_counted b =
    let some : length b + 1 ≡ suc (length b) = omega arith in
    subst (λ d. 1 ≤ length (items b d (root b) [])) (sym some) (omega arith)
