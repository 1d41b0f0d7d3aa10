-- Each node of an accepted file is sound, and above its children.
use Rattle.std.proofs.Common.{◌≡◌, refl, sym, ap, subst, ◌∙◌, ◌⊎◌, inl, inr, ⊎_elim, ℕ, zero, suc}
use Rattle.std.proofs.Common.{◌+◌, ◌-◌, ◌*◌, ◌<◌, ◌≤◌, Bool, true, false, cond, ◌==◌, ◌&&◌, nat_lt}
use Rattle.std.proofs.Common.{nat_le, List, [], ◌∷◌, length, filter_map, Option, Some, None, arith}
use Rattle.std.proofs.lemmas.Bool.{cases_eq, leb-true, ltb-false, and_parts}
use Rattle.std.specs.List.{cons_option}
use Rattle.km_names.specs.Number.{be}
use Rattle.index_format.specs.declared.numbers.TheConstants.{MAGIC, VERSION, FIRST_PLACE}
use Rattle.index_format.specs.Link.{place_of, has_children}
use Rattle.index_format.specs.Node.{after_prefix, first_byte, last_byte, present, child, upward}
use Rattle.index_format.specs.Node.{children}
use Rattle.index_format.specs.Check.{BadMagic, BadVersion, BadNode, prefix_fits, children_fit}
use Rattle.index_format.specs.Check.{values_fit, Arrival, arrival_fault, arrivals, root_arrival}
use Rattle.index_format.specs.Check.{index_fault}
use Rattle.index_format.specs.Nodes.{IsNode, top, below}
use Rattle.index_format.proofs.Passing.{Passes, seen_after, first_none, passes_head, passes_parts}
use Rattle.index_nodes.specs.Pending.{child_arrival, child_arrivals}
use Rattle.index_nodes.proofs.ChildLemmas.{sound_parts}
use Rattle.index_nodes.proofs.ArrivalLemmas.{Sound, sound_from_none, arrivals_head, arrivals_below}

-- ---- members

abbrev pub In : ℕ → List ℕ → Type 0
In x [] = ⊥
In x (y ∷ ys) = (y ≡ x) ⊎ In x ys

In-cons_option : (o : Option ℕ) (x : ℕ) (ys : List ℕ) → In x ys → In x (cons_option o ys)
In-cons_option None x ys h = h
In-cons_option (Some y) x ys h = inr h

in_range : (f : ℕ → Option ℕ) (n start byte next : ℕ) → start ≤ byte → byte < start + n
    → f byte ≡ Some next → In next (filter_map f (upward start n))
in_range f zero start byte next from to e = absurd (omega (arith, from, to))
in_range f (suc n) start byte next from to e =
    ⊎_elim
    (λ here. subst (λ o. In next (cons_option o (filter_map f (upward (start + 1) n))))
    (sym (ap f here ∙ e)) (inl refl))
    (λ later. In-cons_option (f start) next (filter_map f (upward (start + 1) n))
    (in_range f n (start + 1) byte next (omega (arith, from, later)) (omega (arith, to)) e))
    (cases_eq start byte)

none_some : (x : ℕ) → None ≡ Some x → ⊥
none_some x e = cc

-- a child is that of a byte of the range
pub child_range : (b : List ℕ) (link byte next : ℕ) → child b link byte ≡ Some next
    → (has_children link ≡ true) × (first_byte b link ≤ byte) × (byte ≤ last_byte b link)
unfolding child
child_range b link byte next e =
    elim (has_children link && (nat_le (first_byte b link) byte && nat_le byte (last_byte b link)))
    as (λ t. (has_children link
    && (nat_le (first_byte b link) byte && nat_le byte (last_byte b link)))
    ≡ t
    → cond t (present (be (after_prefix b link) (2 + 4 * (byte - first_byte b link)) 4)) None
    ≡ Some next
    → (has_children link ≡ true) × (first_byte b link ≤ byte) × (byte ≤ last_byte b link)) [
      | true ↦ λ q _.
          let both = and_parts _ _ q in
          let ends = and_parts _ _ both.1 in (
            both.0,
            leb-true (first_byte b link) byte ends.0,
            leb-true byte (last_byte b link) ends.1,
          )
      | false ↦ λ q g. absurd (none_some next g)
    ] refl e

pub child_is_in : (b : List ℕ) (link byte next : ℕ) → child b link byte ≡ Some next
    → In next (children b link)
unfolding children
child_is_in b link byte next e =
    let r = child_range b link byte next e in
    in_range (child b link) (last_byte b link - first_byte b link + 1) (first_byte b link) byte next
    r.1 (omega (arith, r.1, r.2)) e

-- ---- nodes that were visited

pub record Visited (b : List ℕ) (a : Arrival) : Type 0 where
  pub seen : List ℕ
  pub depth : ℕ
  pub deep : place_of a.link < depth
  pub passes : Passes b seen (arrivals b depth a)

visited_passes : (b : List ℕ) (a : Arrival) (v : Visited b a) → arrival_fault b v.seen a ≡ None
visited_passes b a v =
    let head = arrivals_head b v.depth a in
    (passes_head b v.seen a head.0 (subst (Passes b v.seen) head.1 v.passes)).0

pub visited_sound : (b : List ℕ) (a : Arrival) (v : Visited b a) → Sound b v.seen a
visited_sound b a v = sound_from_none b v.seen a (visited_passes b a v)

member_passes : (b : List ℕ) (p next : ℕ) (ls seen : List ℕ) → In next ls
    → Passes b seen (child_arrivals b p ls)
    → (later : List ℕ) × Passes b later (arrivals b p (child_arrival p next))
member_passes b p next [] seen h passes = absurd h
member_passes b p next (l ∷ ls) seen h passes =
    let parts
    = passes_parts b (arrivals b p (child_arrival p l)) (child_arrivals b p ls) seen passes in
    ⊎_elim
    (λ same. (seen, subst (λ k. Passes b seen (arrivals b p (child_arrival p k))) same parts.0))
    (λ later. member_passes b p next ls (seen_after (arrivals b p (child_arrival p l)) seen) later
    parts.1)
    h

pub visited_child : (b : List ℕ) (a : Arrival) (byte next : ℕ) → Visited b a
    → child b a.link byte ≡ Some next → Visited b (child_arrival (place_of a.link) next)
visited_child b a byte next v e =
    let p = place_of a.link in
    let low = (visited_sound b a v).low in
    let all = subst (Passes b v.seen) (arrivals_below b v.depth a v.deep low) v.passes in
    let rest = (passes_head b v.seen a (child_arrivals b p (children b a.link)) all).1 in
    let one
    = member_passes b p next (children b a.link) (p ∷ v.seen) (child_is_in b a.link byte next e)
    rest in
    let head = arrivals_head b p (child_arrival p next) in
    let first_test
    = (passes_head b one.0 (child_arrival p next) head.0
    (subst (Passes b one.0) head.1 one.1)).0 in
    record {
      seen = one.0;
      depth = p;
      deep = (sound_from_none b one.0 (child_arrival p next) first_test).low;
      passes = one.1;
    }

-- an accepted file
pub nodes_pass : (b : List ℕ) → index_fault b ≡ None
    → Passes b [] (arrivals b (length b + 1) (root_arrival b))
unfolding index_fault
nodes_pass b h =
    let one = first_none (cond (be b 0 4 == MAGIC) None (Some BadMagic)) _ h in
    let two = first_none (cond (be b 4 4 == VERSION) None (Some BadVersion)) _ one.1 in
    (first_none (cond (nat_lt (length b) FIRST_PLACE) (Some (BadNode 8)) None) _ two.1).1

fault_short : (t : Bool) → cond t (Some (BadNode 8)) None ≡ None → t ≡ false
fault_short true e = absurd (cc)
fault_short false e = refl

pub long_enough : (b : List ℕ) → index_fault b ≡ None → FIRST_PLACE ≤ length b
unfolding index_fault
long_enough b h =
    let one = first_none (cond (be b 0 4 == MAGIC) None (Some BadMagic)) _ h in
    let two = first_none (cond (be b 4 4 == VERSION) None (Some BadVersion)) _ one.1 in
    let three = first_none (cond (nat_lt (length b) FIRST_PLACE) (Some (BadNode 8)) None) _ two.1 in
    ltb-false (length b) FIRST_PLACE (fault_short (nat_lt (length b) FIRST_PLACE) three.0)

root_visited : (b : List ℕ) → index_fault b ≡ None → Visited b (root_arrival b)
root_visited b h =
    let head = arrivals_head b (length b + 1) (root_arrival b) in
    let passes = nodes_pass b h in
    let test = (passes_head b [] (root_arrival b) head.0 (subst (Passes b []) head.1 passes)).0 in
    record {
      seen = [];
      depth = length b + 1;
      deep = (sound_from_none b [] (root_arrival b) test).low;
      passes = passes;
    }

-- the arrival at a node
pub record Reached (b : List ℕ) (link : ℕ) : Type 0 where
  pub a : Arrival
  pub is : a.link ≡ link
  pub visited : Visited b a

pub reached : (b : List ℕ) → index_fault b ≡ None → (link : ℕ) → IsNode b link → Reached b link
reached b h _ top = record { a = root_arrival b; is = refl; visited = root_visited b h }
reached b h _ (below {link = link} byte next node e) =
    let r = reached b h link node in record {
      a = child_arrival (place_of r.a.link) next;
      is = refl;
      visited
          = visited_child b r.a byte next r.visited
          (subst (λ l. child b l byte ≡ Some next) (sym r.is) e);
    }

-- each node is sound
pub record SoundNode (b : List ℕ) (link : ℕ) : Type 0 where
  pub low : FIRST_PLACE ≤ place_of link
  pub within : place_of link ≤ length b
  pub prefix : prefix_fits b link ≡ true
  pub children : children_fit b link ≡ true
  pub values : values_fit b link ≡ true

pub node_sound : (b : List ℕ) → index_fault b ≡ None → (link : ℕ) → IsNode b link → SoundNode b link
node_sound b h link node =
    let r = reached b h link node in
    let p = sound_parts b r.a (visited_sound b r.a r.visited).sound in
    subst (SoundNode b) r.is
    (record {
      low = p.low;
      within = p.within;
      prefix = p.prefix;
      children = p.children;
      values = p.values;
    })

pub child_below : (b : List ℕ) → index_fault b ≡ None → (link byte next : ℕ) → IsNode b link
    → child b link byte ≡ Some next → place_of next < place_of link
child_below b h link byte next node e =
    let r = reached b h link node in
    let v
    = visited_child b r.a byte next r.visited
    (subst (λ l. child b l byte ≡ Some next) (sym r.is) e) in
    subst (λ l. place_of next < place_of l) r.is
    (visited_sound b (child_arrival (place_of r.a.link) next) v).low
