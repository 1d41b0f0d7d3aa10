-- The children of a node, and whether it is sound.
use Rattle.std.proofs.Common.{◌≡◌, refl, sym, ap, ◌∙◌, ◌⊎◌, inl, inr, ⊎_elim, ℕ, zero, suc, ◌+◌}
use Rattle.std.proofs.Common.{◌-◌, ◌*◌, ◌<◌, ◌≤◌, true, false, cond, ◌&&◌, ◌||◌, nat_le, List, []}
use Rattle.std.proofs.Common.{◌∷◌, length, drop, get_or, filter_map, Option, None, arith}
use Rattle.std.proofs.lemmas.Bool.{le-leb, lt-leb, leb-true, ltb-true, and_parts, and_from}
use Rattle.std.proofs.lemmas.Bool.{and_left, and_right, and_cases, or_from}
use Rattle.std.proofs.lemmas.List.{get_or-drop, length-drop}
use Rattle.std.specs.List.{cons_option}
use Rattle.km_names.specs.Number.{be}
use Rattle.index_format.specs.declared.numbers.TheConstants.{FIRST_PLACE}
use Rattle.index_format.specs.Link.{place_of, has_prefix, has_values, has_children}
use Rattle.index_format.specs.Node.{after_prefix, first_byte, last_byte, present, child, upward}
use Rattle.index_format.specs.Node.{children}
use Rattle.index_format.specs.Check.{prefix_fits, children_fit, values_fit, Arrival, is_sound}
use Rattle.index_format.proofs.BigEndian.{be-drop}
use Rattle.index_nodes.specs.Pending.{links_at}
use Rattle.index_nodes.proofs.FieldLemmas.{range_fits, children_test}

none_of : (f : ℕ → Option ℕ) (xs : List ℕ) → ((c : ℕ) → f c ≡ None) → filter_map f xs ≡ []
none_of f [] h = refl
none_of f (x ∷ xs) h = ap (λ o. cons_option o (filter_map f xs)) (h x) ∙ none_of f xs h

pub no_children : (b : List ℕ) (link : ℕ) → has_children link ≡ false → children b link ≡ []
unfolding children child
no_children b link h =
    none_of (child b link) _
    (λ c. ap (λ t. cond (t && (nat_le (first_byte b link) c && nat_le c (last_byte b link)))
    (present (be (after_prefix b link) (2 + 4 * (c - first_byte b link)) 4)) None) h)

-- what holds of the range of a node's children, which stand from a place on
pub record HasRange (b : List ℕ) (link start : ℕ) : Type 0 where
  pub first : first_byte b link ≡ get_or b start 0
  pub last : last_byte b link ≡ get_or b (start + 1) 0
  pub order : get_or b start 0 ≤ get_or b (start + 1) 0
  pub top : get_or b (start + 1) 0 ≤ 127
  pub positive : 0 < get_or b start 0
  pub room : start + 2 + 4 * (get_or b (start + 1) 0 - get_or b start 0 + 1) ≤ length b

range_parts : (rest : List ℕ) (first last : ℕ) → range_fits rest first last ≡ true
    → (0 < first) × (first ≤ last) × (last ≤ 127) × (2 + 4 * (last - first + 1) ≤ length rest)
range_parts rest first last h =
    let two = and_parts _ _ h in
    let size = and_parts _ _ two.1 in
    let top = and_parts _ _ size.0 in
    let order = and_parts _ _ top.0 in (
      ltb-true 0 first order.0,
      leb-true first last order.1,
      leb-true last 127 top.1,
      leb-true (2 + 4 * (last - first + 1)) (length rest) size.1,
    )

pub range_of : (b : List ℕ) (link start : ℕ) → has_children link ≡ true → start ≤ length b
    → drop start b ≡ after_prefix b link → children_fit b link ≡ true → HasRange b link start
unfolding first_byte last_byte
range_of b link start h within is fit =
    let zero_is : start + 0 ≡ start = omega arith in
    let first : get_or (drop start b) 0 0 ≡ get_or b start 0
    = get_or-drop start b 0 0 ∙ ap (λ k. get_or b k 0) zero_is in
    let last : get_or (drop start b) 1 0 ≡ get_or b (start + 1) 0 = get_or-drop start b 1 0 in
    let parts
    = range_parts (drop start b) (get_or (drop start b) 0 0) (get_or (drop start b) 1 0)
    (sym (children_test b link (drop start b) h is) ∙ fit) in
    record {
      first = sym (ap (λ r. get_or r 0 0) is) ∙ first;
      last = sym (ap (λ r. get_or r 1 0) is) ∙ last;
      order = omega (arith, parts.1, first, last);
      top = omega (arith, parts.2, last);
      positive = omega (arith, parts.0, first);
      room = omega (arith, parts.3, first, last, length-drop start b, within);
    }

-- the child for a byte of the range
child_in : (b : List ℕ) (link start first last k : ℕ) → has_children link ≡ true
    → drop start b ≡ after_prefix b link → first_byte b link ≡ first → last_byte b link ≡ last
    → first + k ≤ last → child b link (first + k) ≡ present (be b (start + 2 + 4 * k) 4)
unfolding child
child_in b link start first last k h is f l le =
    let back : start + (2 + 4 * (first + k - first)) ≡ start + 2 + 4 * k = omega arith in
    (λ i. cond (h i && (nat_le (f i) (first + k) && nat_le (first + k) (l i)))
    (present (be (sym is i) (2 + 4 * (first + k - f i)) 4)) None)
    ∙ (λ i. cond (le-leb first (first + k) (omega arith) i && le-leb (first + k) last le i)
    (present (be (drop start b) (2 + 4 * (first + k - first)) 4)) None)
    ∙ ap present (be-drop b start (2 + 4 * (first + k - first)) 4 ∙ ap (λ p. be b p 4) back)

links_from : (b : List ℕ) (link start first last : ℕ) → has_children link ≡ true
    → drop start b ≡ after_prefix b link → first_byte b link ≡ first → last_byte b link ≡ last
    → (n k : ℕ) → k + n ≡ last - first + 1 → first ≤ last
    → filter_map (child b link) (upward (first + k) n) ≡ links_at b (start + 2 + 4 * k) n
unfolding links_at
links_from b link start first last h is f l zero k e order = refl
links_from b link start first last h is f l (suc n) k e order =
    let next : first + k + 1 ≡ first + (k + 1) = omega arith in
    let on : start + 2 + 4 * (k + 1) ≡ start + 2 + 4 * k + 4 = omega arith in
    (λ i. cons_option (child_in b link start first last k h is f l (omega (arith, e, order)) i)
    (filter_map (child b link) (upward (next i) n)))
    ∙ ap (cons_option (present (be b (start + 2 + 4 * k) 4)))
    (links_from b link start first last h is f l n (k + 1) (omega (arith, e)) order
    ∙ ap (λ p. links_at b p n) on)

pub children_links : (b : List ℕ) (link start : ℕ) → has_children link ≡ true
    → drop start b ≡ after_prefix b link → HasRange b link start
    → children b link ≡ links_at b (start + 2) (get_or b (start + 1) 0 - get_or b start 0 + 1)
unfolding children
children_links b link start h is r =
    let first = get_or b start 0 in
    let last = get_or b (start + 1) 0 in
    let here : start + 2 + 4 * 0 ≡ start + 2 = omega arith in
    let from : first ≡ first + 0 = omega arith in
    (λ i. filter_map (child b link) (upward (r.first i) (r.last i - r.first i + 1)))
    ∙ ap (λ k. filter_map (child b link) (upward k (last - first + 1))) from
    ∙ links_from b link start first last h is r.first r.last (last - first + 1) 0 (omega arith)
    r.order
    ∙ ap (λ p. links_at b p (last - first + 1)) here

-- ---- sound nodes

pub unsound_place : (b : List ℕ) (a : Arrival)
    → (place_of a.link < FIRST_PLACE) ⊎ (length b < place_of a.link) → is_sound b a ≡ false
unfolding is_sound
unsound_place b a (inl low) =
    and_left _ _ (and_left _ _ (and_left _ _ (lt-leb FIRST_PLACE (place_of a.link) low)))
unsound_place b a (inr high) =
    and_left _ _ (and_left _ _ (and_right _ _ (lt-leb (place_of a.link) (length b) high)))

pub unsound_field : (b : List ℕ) (a : Arrival) → a.is_root ≡ false
    → (has_prefix a.link || (has_values a.link || has_children a.link)) ≡ false
    → is_sound b a ≡ false
unfolding is_sound
unsound_field b a root h = and_right _ _ (or_from _ _ root h)

pub unsound_parts : (b : List ℕ) (a : Arrival)
    → (prefix_fits b a.link && children_fit b a.link) ≡ false → is_sound b a ≡ false
unfolding is_sound
unsound_parts b a h =
    and_left _ _ (and_right _ _
    (⊎_elim (λ p. and_left (prefix_fits b a.link) (children_fit b a.link && values_fit b a.link) p)
    (λ c. and_right (prefix_fits b a.link) (children_fit b a.link && values_fit b a.link)
    (and_left _ _ c)) (and_cases _ _ h)))

pub unsound_values : (b : List ℕ) (a : Arrival) → values_fit b a.link ≡ false → is_sound b a ≡ false
unfolding is_sound
unsound_values b a h =
    and_left _ _
    (and_right _ _ (and_right (prefix_fits b a.link) _ (and_right (children_fit b a.link) _ h)))

pub sound_from : (b : List ℕ) (a : Arrival) → FIRST_PLACE ≤ place_of a.link
    → place_of a.link ≤ length b → (prefix_fits b a.link && children_fit b a.link) ≡ true
    → values_fit b a.link ≡ true
    → (a.is_root || (has_prefix a.link || (has_values a.link || has_children a.link))) ≡ true
    → is_sound b a ≡ true
unfolding is_sound
sound_from b a low high parts values field =
    let both = and_parts _ _ parts in
    and_from _ _
    (and_from _ _ (and_from _ _ (le-leb FIRST_PLACE (place_of a.link) low)
    (le-leb (place_of a.link) (length b) high))
    (and_from (prefix_fits b a.link) _ both.0
    (and_from (children_fit b a.link) _ both.1 values)))
    field

-- the facts of a sound node
pub record SoundParts (b : List ℕ) (a : Arrival) : Type 0 where
  pub low : FIRST_PLACE ≤ place_of a.link
  pub within : place_of a.link ≤ length b
  pub prefix : prefix_fits b a.link ≡ true
  pub children : children_fit b a.link ≡ true
  pub values : values_fit b a.link ≡ true

pub sound_parts : (b : List ℕ) (a : Arrival) → is_sound b a ≡ true → SoundParts b a
unfolding is_sound
sound_parts b a h =
    let field = and_parts _ _ h in
    let parts = and_parts _ _ field.0 in
    let place = and_parts _ _ parts.0 in
    let rest = and_parts (prefix_fits b a.link) _ parts.1 in
    let last = and_parts (children_fit b a.link) (values_fit b a.link) rest.1 in
    record {
      low = leb-true FIRST_PLACE (place_of a.link) place.0;
      within = leb-true (place_of a.link) (length b) place.1;
      prefix = rest.0;
      children = last.0;
      values = last.1;
    }
