-- Where a field ends, and whether it is whole.
use Rattle.std.proofs.Common.{◌≡◌, sym, ap, ◌∙◌, ⊎_elim, ℕ, suc, ◌+◌, ◌-◌, ◌*◌, ◌<◌, ◌≤◌, Bool}
use Rattle.std.proofs.Common.{true, false, not, cond, ◌==◌, ◌&&◌, ◌||◌, nat_lt, nat_le, List, []}
use Rattle.std.proofs.Common.{◌∷◌, length, take, drop, get_or, arith}
use Rattle.std.proofs.lemmas.Bool.{eq-eqb, ne_eqb, lt-ltb, le-ltb, le-leb, lt-leb, cases_lt}
use Rattle.std.proofs.lemmas.Bool.{and_from, and_left, and_right}
use Rattle.std.proofs.lemmas.List.{drop-drop, length-drop, length-take}
use Rattle.std.specs.List.{prefix_len}
use Rattle.km_names.specs.Number.{be}
use Rattle.std.specs.Prelude.{bit_and}
use Rattle.index_format.specs.Link.{place_of, has_prefix, has_values, has_children}
use Rattle.index_format.specs.Node.{is_nul, text, after_text, prefix, after_prefix, first_byte}
use Rattle.index_format.specs.Node.{last_byte, children_size, after_children}
use Rattle.index_format.specs.Check.{has_nul, prefix_fits, children_fit, whole_values, values_fit}
use Rattle.index_format.proofs.BigEndian.{be-at}
use Rattle.index_nodes.specs.Fields.{IsPrefixEnd, IsChildrenEnd}

-- ---- flags

pub bit_set : (n flag : ℕ) → (bit_and n flag ≡ 0 → ⊥) → not (bit_and n flag == 0) ≡ true
bit_set n flag h = ap not (ne_eqb (bit_and n flag) 0 h)

pub bit_clear : (n flag : ℕ) → bit_and n flag ≡ 0 → not (bit_and n flag == 0) ≡ false
bit_clear n flag h = ap not (eq-eqb (bit_and n flag) 0 h)

-- ---- texts

-- how many bytes there are before the first NUL
abbrev pub text_len : List ℕ → ℕ
text_len bytes = prefix_len (λ x. not (is_nul x)) bytes

pub text_len-le : (bytes : List ℕ) → text_len bytes ≤ length bytes
text_len-le [] = omega arith
text_len-le (x ∷ bytes) =
    elim (x == 0) as (λ t. cond (not t) (1 + text_len bytes) 0 ≤ suc (length bytes)) [
      | true ↦ omega arith
      | false ↦ omega (arith, text_len-le bytes)
    ]

pub length-text : (bytes : List ℕ) → length (text bytes) ≡ text_len bytes
length-text bytes = omega (arith, length-take (text_len bytes) bytes, text_len-le bytes)

-- there is a NUL exactly where the text is shorter than the bytes
pub has_nul-text : (bytes : List ℕ) → has_nul bytes ≡ nat_lt (text_len bytes) (length bytes)
has_nul-text [] = sym (le-ltb 0 0 (omega arith))
has_nul-text (x ∷ bytes) =
    elim (x == 0) as
    (λ t. (t || has_nul bytes)
    ≡ nat_lt (cond (not t) (1 + text_len bytes) 0) (suc (length bytes))) [
      | true ↦ sym (lt-ltb 0 (suc (length bytes)) (omega arith))
      | false ↦ has_nul-text bytes ∙ by_one (text_len bytes) (length bytes)
    ]
  where
    by_one : (m n : ℕ) → nat_lt m n ≡ nat_lt (1 + m) (suc n)
    by_one m n =
        ⊎_elim (λ lt. lt-ltb m n lt ∙ sym (lt-ltb (1 + m) (suc n) (omega (arith, lt))))
        (λ le. le-ltb m n le ∙ sym (le-ltb (1 + m) (suc n) (omega (arith, le)))) (cases_lt m n)

pub nul_there : (bytes : List ℕ) → length (text bytes) < length bytes → has_nul bytes ≡ true
nul_there bytes h =
    has_nul-text bytes
    ∙ lt-ltb (text_len bytes) (length bytes) (omega (arith, h, length-text bytes))

pub nul_absent : (bytes : List ℕ) → length bytes ≤ length (text bytes) → has_nul bytes ≡ false
nul_absent bytes h =
    has_nul-text bytes
    ∙ le-ltb (text_len bytes) (length bytes) (omega (arith, h, length-text bytes))

pub after_text-drop : (bytes : List ℕ) → after_text bytes ≡ drop (length (text bytes) + 1) bytes
after_text-drop bytes = ap (λ n. drop (n + 1) bytes) (sym (length-text bytes))

pub text-take : (bytes : List ℕ) → take (length (text bytes)) bytes ≡ text bytes
text-take bytes = ap (λ n. take n bytes) (length-text bytes)

-- ---- the prefix

pub without_prefix : (b : List ℕ) (link : ℕ) → has_prefix link ≡ false → place_of link ≤ length b
    → (prefix_fits b link ≡ true) × IsPrefixEnd b link (place_of link)
unfolding prefix_fits after_prefix prefix
without_prefix b link h within = (
  ap (λ t. not t || has_nul (drop (place_of link) b)) h,
  record {
    within = within;
    rest = sym (ap (λ t. cond t (after_text (drop (place_of link) b)) (drop (place_of link) b)) h);
    size = λ e. absurd (true_false (sym e ∙ h));
  },
)
  where
    true_false : true ≡ false → ⊥
    true_false e = cc

pub with_prefix : (b : List ℕ) (link : ℕ) → has_prefix link ≡ true → place_of link ≤ length b
    → length (text (drop (place_of link) b)) < length (drop (place_of link) b)
    → (prefix_fits b link ≡ true)
    × IsPrefixEnd b link (place_of link + length (text (drop (place_of link) b)) + 1)
unfolding prefix_fits after_prefix prefix
with_prefix b link h within lt =
    let rest = drop (place_of link) b in
    let size : place_of link + (length (text rest) + 1) ≡ place_of link + length (text rest) + 1
    = omega arith in (
      ap (λ t. not t || has_nul rest) h ∙ nul_there rest lt,
      record {
        within = omega (arith, lt, length-drop (place_of link) b);
        rest =
            ap (λ n. drop n b) (sym size)
            ∙ sym (drop-drop (length (text rest) + 1) (place_of link) b)
            ∙ sym (after_text-drop rest)
            ∙ sym (ap (λ t. cond t (after_text rest) rest) h);
        size = λ e. ap (λ t. place_of link + length (cond t (text rest) []) + 1) (sym h);
      },
    )

pub cut_prefix : (b : List ℕ) (link : ℕ) → has_prefix link ≡ true
    → length (drop (place_of link) b) ≤ length (text (drop (place_of link) b))
    → prefix_fits b link ≡ false
unfolding prefix_fits
cut_prefix b link h le =
    ap (λ t. not t || has_nul (drop (place_of link) b)) h ∙ nul_absent (drop (place_of link) b) le

-- ---- the children

pub without_children : (b : List ℕ) (link start : ℕ) → has_children link ≡ false → start ≤ length b
    → drop start b ≡ after_prefix b link → (children_fit b link ≡ true) × IsChildrenEnd b link start
unfolding children_fit after_children
without_children b link start h within is = (
  ap (λ t. not t
      || (nat_le 2 (length (after_prefix b link))
      && (nat_lt 0 (first_byte b link)
      && nat_le (first_byte b link) (last_byte b link)
      && nat_le (last_byte b link) 127
      && nat_le (children_size b link) (length (after_prefix b link))))) h,
  record {
    within = within;
    rest
        = is
        ∙ sym (ap (λ t. cond t (drop (children_size b link) (after_prefix b link))
        (after_prefix b link)) h);
  },
)

-- the tests of a range of children, by the bytes that stand after the prefix
abbrev pub range_fits : List ℕ → ℕ → ℕ → Bool
range_fits rest first last =
    nat_le 2 (length rest)
    && (nat_lt 0 first
    && nat_le first last
    && nat_le last 127
    && nat_le (2 + 4 * (last - first + 1)) (length rest))

pub children_test : (b : List ℕ) (link : ℕ) (rest : List ℕ) → has_children link ≡ true
    → rest ≡ after_prefix b link
    → children_fit b link ≡ range_fits rest (get_or rest 0 0) (get_or rest 1 0)
unfolding children_fit first_byte last_byte children_size
children_test b link rest h is =
    ap (λ t. not t
    || range_fits (after_prefix b link) (get_or (after_prefix b link) 0 0)
    (get_or (after_prefix b link) 1 0)) h
    ∙ ap (λ r. range_fits r (get_or r 0 0) (get_or r 1 0)) (sym is)

pub with_children : (b : List ℕ) (link start first last : ℕ) (rest : List ℕ)
    → has_children link ≡ true → start ≤ length b → drop start b ≡ after_prefix b link
    → rest ≡ drop start b → first ≡ get_or rest 0 0 → last ≡ get_or rest 1 0 → 2 ≤ length rest
    → 0 < first → first ≤ last → last ≤ 127 → 2 + 4 * (last - first + 1) ≤ length rest
    → (children_fit b link ≡ true) × IsChildrenEnd b link (start + (2 + 4 * (last - first + 1)))
unfolding after_children first_byte last_byte children_size
with_children b link start first last rest h within is rest_is first_is last_is two pos order top
    room
    =
    let all = rest_is ∙ is in (
      children_test b link rest h all
          ∙ (λ i. range_fits rest (sym first_is i) (sym last_is i))
          ∙ and_from _ _ (le-leb 2 (length rest) two)
          (and_from _ _ (and_from _ _ (and_from _ _ (lt-ltb 0 first pos) (le-leb first last order))
          (le-leb last 127 top)) (le-leb (2 + 4 * (last - first + 1)) (length rest) room)),
      record {
        within = omega (arith, room, ap length rest_is, length-drop start b, within);
        rest =
            sym (drop-drop (2 + 4 * (last - first + 1)) start b)
            ∙ ap (drop (2 + 4 * (last - first + 1))) is
            ∙ (λ i. drop (2
            + 4
            * ((last_is ∙ ap (λ r. get_or r 1 0) all) i
            - (first_is ∙ ap (λ r. get_or r 0 0) all) i
            + 1)) (after_prefix b link))
            ∙ sym (ap (λ t. cond t (drop (children_size b link) (after_prefix b link))
            (after_prefix b link)) h);
      },
    )

pub cut_children : (b : List ℕ) (link first last : ℕ) (rest : List ℕ) → has_children link ≡ true
    → rest ≡ after_prefix b link → first ≡ get_or rest 0 0 → last ≡ get_or rest 1 0
    → range_fits rest first last ≡ false → children_fit b link ≡ false
cut_children b link first last rest h is first_is last_is out =
    children_test b link rest h is ∙ (λ i. range_fits rest (sym first_is i) (sym last_is i)) ∙ out

pub too_short : (rest : List ℕ) (first last : ℕ) → length rest < 2
    → range_fits rest first last ≡ false
too_short rest first last h = and_left _ _ (lt-leb 2 (length rest) h)

pub no_room : (rest : List ℕ) (first last : ℕ) → length rest < 2 + 4 * (last - first + 1)
    → range_fits rest first last ≡ false
no_room rest first last h =
    and_right _ _ (and_right _ _ (lt-leb (2 + 4 * (last - first + 1)) (length rest) h))

pub first_is_0 : (rest : List ℕ) (first last : ℕ) → first ≡ 0 → range_fits rest first last ≡ false
first_is_0 rest first last h =
    and_right _ _ (and_left _ _ (and_left _ _ (and_left _ _ (le-ltb 0 first (omega (arith, h))))))

pub last_below : (rest : List ℕ) (first last : ℕ) → last < first
    → range_fits rest first last ≡ false
last_below rest first last h =
    and_right _ _ (and_left _ _ (and_left _ _ (and_right _ _ (lt-leb first last h))))

pub last_above : (rest : List ℕ) (first last : ℕ) → 127 < last → range_fits rest first last ≡ false
last_above rest first last h = and_right _ _ (and_left _ _ (and_right _ _ (lt-leb last 127 h)))

-- ---- the values

pub without_values : (b : List ℕ) (link : ℕ) → has_values link ≡ false → values_fit b link ≡ true
unfolding values_fit
without_values b link h =
    ap (λ t. not t
    || (nat_le 4 (length (after_children b link))
    && whole_values (be (after_children b link) 0 4)
    (drop 4 (after_children b link)))) h

pub with_values : (b : List ℕ) (link : ℕ) (rest : List ℕ) → has_values link ≡ true
    → rest ≡ after_children b link
    → values_fit b link ≡ (nat_le 4 (length rest) && whole_values (be rest 0 4) (drop 4 rest))
unfolding values_fit
with_values b link rest h is =
    ap (λ t. not t
    || (nat_le 4 (length (after_children b link))
    && whole_values (be (after_children b link) 0 4)
    (drop 4 (after_children b link)))) h
    ∙ ap (λ r. nat_le 4 (length r) && whole_values (be r 0 4) (drop 4 r)) (sym is)

-- the values of a node decide, by those that follow their number
pub values-counted : (b : List ℕ) (link start count : ℕ) → has_values link ≡ true
    → drop start b ≡ after_children b link → start + 4 ≤ length b → count ≡ be b start 4
    → values_fit b link ≡ whole_values count (drop (start + 4) b)
values-counted b link start count h is room count_is =
    with_values b link (drop start b) h is
    ∙ ap (λ t. t && whole_values (be (drop start b) 0 4) (drop 4 (drop start b)))
    (le-leb 4 (length (drop start b)) (omega (arith, length-drop start b, room)))
    ∙ (λ i. whole_values (sym (count_is ∙ be-at b start 4) i) (drop-drop 4 start b i))

pub values-short : (b : List ℕ) (link start : ℕ) → has_values link ≡ true
    → drop start b ≡ after_children b link → start ≤ length b → length b - start < 4
    → values_fit b link ≡ false
values-short b link start h is within short =
    with_values b link (drop start b) h is
    ∙ and_left _ _
    (lt-leb 4 (length (drop start b)) (omega (arith, length-drop start b, within, short)))
