-- What the fields of a sound node have.
use Rattle.std.proofs.Common.{◌≡◌, sym, ap, ◌∙◌, ℕ, suc, ◌+◌, ◌-◌, ◌*◌, ◌<◌, ◌≤◌, true, false, cond}
use Rattle.std.proofs.Common.{◌&&◌, nat_le, List, [], ◌∷◌, length, take, drop, Option, Some, None}
use Rattle.std.proofs.Common.{arith}
use Rattle.std.proofs.lemmas.Bool.{lt-leb, le-leb, leb-true, ltb-true, and_parts, and_left}
use Rattle.std.proofs.lemmas.Bool.{and_right}
use Rattle.std.proofs.lemmas.List.{drop-drop, length-drop}
use Rattle.std.specs.Prelude.{IfNone, IfSome}
use Rattle.km_names.specs.Number.{be}
use Rattle.index_format.specs.Link.{place_of, has_prefix, has_values, has_children}
use Rattle.index_format.specs.Node.{text, after_text, prefix, after_prefix, first_byte, last_byte}
use Rattle.index_format.specs.Node.{present, child, after_children, values_in, values}
use Rattle.index_format.specs.Check.{has_nul, whole_values, values_fit}
use Rattle.index_format.specs.Nodes.{values_from}
use Rattle.index_format.proofs.BigEndian.{be-at, be-drop}
use Rattle.index_nodes.specs.declared.place.Place.{Place}
use Rattle.index_nodes.specs.Places.{IsPlaceOf, value_at, values_left}
use Rattle.index_nodes.proofs.FieldLemmas.{length-text, text_len, text-take, after_text-drop}
use Rattle.index_nodes.proofs.FieldLemmas.{has_nul-text, with_values}

-- ---- the prefix

pub no_prefix : (b : List ℕ) (link : ℕ) → has_prefix link ≡ false → prefix b link ≡ []
unfolding prefix
no_prefix b link h = ap (λ t. cond t (text (drop (place_of link) b)) []) h

pub the_prefix : (b : List ℕ) (link : ℕ) → has_prefix link ≡ true
    → take (length (prefix b link)) (drop (place_of link) b) ≡ prefix b link
unfolding prefix
the_prefix b link h =
    let rest = drop (place_of link) b in
    ap (λ t. take (length (cond t (text rest) [])) rest) h ∙ text-take rest
    ∙ sym (ap (λ t. cond t (text rest) []) h)

-- ---- children

pub childless : (b : List ℕ) (link byte : ℕ) → has_children link ≡ false → child b link byte ≡ None
unfolding child
childless b link byte h =
    ap (λ t. cond (t && (nat_le (first_byte b link) byte && nat_le byte (last_byte b link)))
    (present (be (after_prefix b link) (2 + 4 * (byte - first_byte b link)) 4)) None) h

pub child_below_range : (b : List ℕ) (link byte : ℕ) → byte < first_byte b link
    → child b link byte ≡ None
unfolding child
child_below_range b link byte h =
    ap (λ t. cond t (present (be (after_prefix b link) (2 + 4 * (byte - first_byte b link)) 4))
    None)
    (and_right (has_children link) _ (and_left _ _ (lt-leb (first_byte b link) byte h)))

pub child_above_range : (b : List ℕ) (link byte : ℕ) → last_byte b link < byte
    → child b link byte ≡ None
unfolding child
child_above_range b link byte h =
    ap (λ t. cond t (present (be (after_prefix b link) (2 + 4 * (byte - first_byte b link)) 4))
    None)
    (and_right (has_children link) _
    (and_right (nat_le (first_byte b link) byte) _ (lt-leb byte (last_byte b link) h)))

pub child_in_range : (b : List ℕ) (link start first last byte : ℕ) → has_children link ≡ true
    → drop start b ≡ after_prefix b link → first_byte b link ≡ first → last_byte b link ≡ last
    → first ≤ byte → byte ≤ last
    → child b link byte ≡ present (be b (start + 2 + 4 * (byte - first)) 4)
unfolding child
child_in_range b link start first last byte h is f l from to =
    let back : start + (2 + 4 * (byte - first)) ≡ start + 2 + 4 * (byte - first) = omega arith in
    (λ i. cond (h i && (nat_le (f i) byte && nat_le byte (l i)))
    (present (be (sym is i) (2 + 4 * (byte - f i)) 4)) None)
    ∙ (λ i. cond (le-leb first byte from i && le-leb byte last to i)
    (present (be (drop start b) (2 + 4 * (byte - first)) 4)) None)
    ∙ ap present (be-drop b start (2 + 4 * (byte - first)) 4 ∙ ap (λ p. be b p 4) back)

-- ---- values

pub no_values : (b : List ℕ) (link : ℕ) → has_values link ≡ false → values b link ≡ []
unfolding values
no_values b link h =
    ap (λ t. cond t (values_in (be (after_children b link) 0 4) (drop 4 (after_children b link)))
    []) h

pub the_values : (b : List ℕ) (link start count : ℕ) → has_values link ≡ true
    → drop start b ≡ after_children b link → count ≡ be b start 4
    → values b link ≡ values_from b (start + 4) count
unfolding values
the_values b link start count h is e =
    ap (λ t. cond t (values_in (be (after_children b link) 0 4) (drop 4 (after_children b link)))
    []) h
    ∙ ap (λ r. values_in (be r 0 4) (drop 4 r)) (sym is)
    ∙ (λ i. values_in ((sym (be-at b start 4) ∙ sym e) i) (drop-drop 4 start b i))

pub whole_count : (b : List ℕ) (link start count : ℕ) → has_values link ≡ true
    → drop start b ≡ after_children b link → count ≡ be b start 4 → values_fit b link ≡ true
    → (4 ≤ length (drop start b)) × (whole_values count (drop (start + 4) b) ≡ true)
whole_count b link start count h is e fit =
    let both = and_parts _ _ (sym (with_values b link (drop start b) h is) ∙ fit) in
    let four : 4 + start ≡ start + 4 = omega arith in (
      leb-true 4 (length (drop start b)) both.0,
      (λ i. whole_values ((e ∙ be-at b start 4) i) (sym (drop-drop 4 start b) i)) ∙ both.1,
    )

pub room_for : (b : List ℕ) (start : ℕ) → 4 ≤ length (drop start b) → start + 4 ≤ length b
room_for b start h = omega (arith, h, length-drop start b)

-- a whole value and those after it
pub record WholeValue (b : List ℕ) (start n : ℕ) : Type 0 where
  pub four : start + 4 ≤ length b
  pub text_in : start + 4 + length (text (drop (start + 4) b)) + 1 ≤ length b
  pub rest : whole_values n (drop (start + 4 + length (text (drop (start + 4) b)) + 1) b) ≡ true

pub after_value : (b : List ℕ) (start : ℕ)
    → after_text (drop 4 (drop start b))
    ≡ drop (start + 4 + length (text (drop (start + 4) b)) + 1) b
after_value b start =
    let size : start + 4 + (length (text (drop (start + 4) b)) + 1)
    ≡ start + 4 + length (text (drop (start + 4) b)) + 1
    = omega arith in
    ap after_text (drop-drop 4 start b)
    ∙ after_text-drop (drop (start + 4) b)
    ∙ drop-drop (length (text (drop (start + 4) b)) + 1) (start + 4) b
    ∙ ap (λ k. drop k b) size

pub whole_value : (b : List ℕ) (start n : ℕ) → whole_values (suc n) (drop start b) ≡ true
    → WholeValue b start n
unfolding whole_values
whole_value b start n h =
    let all = and_parts _ _ h in
    let rest = and_parts _ _ all.1 in
    let four : start + 4 ≤ length b = room_for b start (leb-true 4 (length (drop start b)) all.0) in
    let from = drop (start + 4) b in
    let nul : has_nul from ≡ true = ap has_nul (sym (drop-drop 4 start b)) ∙ rest.0 in
    let inside : text_len from < length from
    = ltb-true (text_len from) (length from) (sym (has_nul-text from) ∙ nul) in
    record {
      four = four;
      text_in = omega (arith, inside, length-text from, length-drop (start + 4) b, four);
      rest = ap (whole_values n) (sym (after_value b start)) ∙ rest.1;
    }

-- the values from a place on: the one there, and those after it
pub values-step : (b : List ℕ) (start n : ℕ)
    → values_from b start (suc n)
    ≡ (be b start 4, text (drop (start + 4) b))
    ∷ values_from b (start + 4 + length (text (drop (start + 4) b)) + 1) n
unfolding values_in
values-step b start n =
    (λ i. (sym (be-at b start 4) i, text (drop-drop 4 start b i))
    ∷ values_in n (after_value b start i))

pub place_parts : (b : List ℕ) (p : Place) → IsPlaceOf b p → WholeValue b p.start (p.left - 1)
place_parts b p h =
    let one : p.left ≡ suc (p.left - 1) = omega (arith, h.place.some) in
    whole_value b p.start (p.left - 1)
    (sym (ap (λ n. whole_values n (drop p.start b)) one) ∙ h.place.whole)

pub values_left-step : (b : List ℕ) (p : Place) → IsPlaceOf b p
    → values_left b p
    ≡ value_at b p
    ∷ values_from b (p.start + 4 + length (text (drop (p.start + 4) b)) + 1) (p.left - 1)
values_left-step b p h =
    let one : p.left ≡ suc (p.left - 1) = omega (arith, h.place.some) in
    ap (values_from b p.start) one
    ∙ values-step b p.start (p.left - 1)
    ∙ ap (λ n. (n, text (drop (p.start + 4) b))
    ∷ values_from b (p.start + 4 + length (text (drop (p.start + 4) b)) + 1) (p.left - 1))
    (be-at b p.start 4 ∙ sym h.priority)

pub if_none : {A P Q : Type 0} (o : Option A) → (P → Q) → IfNone o P → IfNone o Q
if_none None f h = f h
if_none (Some x) f h = h

pub if_some : {A : Type 0} (o : Option A) (P Q : A → Type 0) → ((x : A) → P x → Q x) → IfSome o P
    → IfSome o Q
if_some None P Q f h = h
if_some (Some x) P Q f h = f x h
