-- What a reader finds where a node was written.
use Rattle.std.proofs.Common.{◌≡◌, refl, ap, ◌∙◌, ℕ, zero, suc, ◌+◌, ◌-◌, ◌*◌, ◌/◌, ◌%◌, ◌^◌, ◌<◌}
use Rattle.std.proofs.Common.{◌≤◌, false, not, cond, ◌==◌, ◌&&◌, nat_le, ⊎_elim, List, [], ◌∷◌}
use Rattle.std.proofs.Common.{◌++◌, length, take, drop, get_or, flat_map, None, arith, append_assoc}
use Rattle.std.proofs.Math.Nat.{zero-mul, one-mul}
use Rattle.std.proofs.lemmas.Bool.{le-leb, ne_eqb}
use Rattle.std.proofs.lemmas.Bool.Decides.{eqb_tells}
use Rattle.std.proofs.lemmas.Nat.{and_mask, pow_pos}
use Rattle.std.proofs.lemmas.Nat.Bits.{and_pow}
use Rattle.std.specs.Prelude.{bit_and}
use Rattle.std.specs.Int.{bit_at}
use Rattle.index_format.specs.declared.numbers.TheConstants.{PLACE_MASK}
use Rattle.index_format.proofs.BigEndian.{be-at, be-number}
use Rattle.std.specs.List.{AllByRecursion, prefix_len}
use Rattle.km_names.specs.Number.{be}
use Rattle.index_format.specs.Map.{Value}
use Rattle.index_format.specs.Link.{place_of, has_prefix, has_values, has_children, flag, link_to}
use Rattle.index_format.specs.Node.{text, after_text, prefix, after_prefix, first_byte, last_byte}
use Rattle.index_format.specs.Node.{children_size, present, child, after_children, values_in}
use Rattle.index_format.specs.Node.{values}
use Rattle.index_format.specs.File.{Links, number, offset, last, prefix_field, children_field}
use Rattle.index_format.specs.File.{value_bytes, values_field, node_bytes}
use Rattle.index_write.specs.Parts.{offsets_bytes}
use Rattle.index_write.proofs.WriteLemmas.{length-offsets}

-- ---- flags and places

flag_small : {A : Type 0} (xs : List A) → flag xs ≤ 1
flag_small [] = omega arith
flag_small (x ∷ xs) = omega arith

low_bits : (p v c at : ℕ) → at < 2 ^ 28
    → bit_and (p * 2 ^ 31 + v * 2 ^ 30 + c * 2 ^ 29 + at) PLACE_MASK ≡ at
low_bits p v c at h =
    let n = p * 2 ^ 31 + v * 2 ^ 30 + c * 2 ^ 29 + at in
    let low : n % 2 ^ 28 ≡ at = omega arith in
    and_mask n 28 ∙ low

bit_31 : (p v c at : ℕ) → p ≤ 1 → v ≤ 1 → c ≤ 1 → at < 2 ^ 28
    → (p * 2 ^ 31 + v * 2 ^ 30 + c * 2 ^ 29 + at) / 2 ^ 31 % 2 ≡ p
bit_31 p v c at hp hv hc h = omega arith

bit_30 : (p v c at : ℕ) → p ≤ 1 → v ≤ 1 → c ≤ 1 → at < 2 ^ 28
    → (p * 2 ^ 31 + v * 2 ^ 30 + c * 2 ^ 29 + at) / 2 ^ 30 % 2 ≡ v
bit_30 p v c at hp hv hc h = omega arith

bit_29 : (p v c at : ℕ) → p ≤ 1 → v ≤ 1 → c ≤ 1 → at < 2 ^ 28
    → (p * 2 ^ 31 + v * 2 ^ 30 + c * 2 ^ 29 + at) / 2 ^ 29 % 2 ≡ c
bit_29 p v c at hp hv hc h = omega arith

-- the test of a bit that is 0 or 1
bit_test : {A : Type 0} (n k : ℕ) (xs : List A) → bit_at n k ≡ flag xs
    → not (bit_and n (2 ^ k) == 0) ≡ (flag xs == 1)
bit_test n k [] e = ap (λ m. not (m == 0)) (and_pow n k ∙ ap (λ m. m * 2 ^ k) e ∙ zero-mul (2 ^ k))
bit_test n k (x ∷ xs) e =
    ap (λ m. not (m == 0)) (and_pow n k ∙ ap (λ m. m * 2 ^ k) e ∙ one-mul (2 ^ k))
    ∙ ap not (ne_eqb (2 ^ k) 0 (λ z. omega (arith, z, pow_pos k)))

module _ {A B : Type 0} (at : ℕ) (p : List ℕ) (links : List A) (vs : List B) (low : at < 2 ^ 28)
  where
    pub place_of-link_to : place_of (link_to at p links vs) ≡ at
    place_of-link_to = low_bits (flag p) (flag vs) (flag links) at low

    pub has_prefix-link_to : has_prefix (link_to at p links vs) ≡ (flag p == 1)
    has_prefix-link_to
        = bit_test (link_to at p links vs) 31 p
        (bit_31 (flag p) (flag vs) (flag links) at (flag_small p) (flag_small vs)
        (flag_small links) low)

    pub has_values-link_to : has_values (link_to at p links vs) ≡ (flag vs == 1)
    has_values-link_to
        = bit_test (link_to at p links vs) 30 vs
        (bit_30 (flag p) (flag vs) (flag links) at (flag_small p) (flag_small vs)
        (flag_small links) low)

    pub has_children-link_to : has_children (link_to at p links vs) ≡ (flag links == 1)
    has_children-link_to
        = bit_test (link_to at p links vs) 29 links
        (bit_29 (flag p) (flag vs) (flag links) at (flag_small p) (flag_small vs)
        (flag_small links) low)

-- ---- texts

-- no byte is a NUL
abbrev pub NoNul : List ℕ → Type 0
NoNul bytes = AllByRecursion (λ byte. 0 < byte) bytes

up_to_nul : (t more : List ℕ) → NoNul t → prefix_len (λ c. not (c == 0)) (t ++ 0 ∷ more) ≡ length t
up_to_nul [] more h = refl
up_to_nul (c ∷ t) more h =
    let apart : (c == 0) ≡ false
    = ⊎_elim (λ p. absurd (omega (arith, p.1, h.0))) (λ p. p.0) (eqb_tells c 0) in
    ap (λ b. cond (not b) (1 + prefix_len (λ c. not (c == 0)) (t ++ 0 ∷ more)) 0) apart
    ∙ omega (arith, up_to_nul t more h.1)

take_front : {A : Type 0} (xs ys : List A) → take (length xs) (xs ++ ys) ≡ xs
take_front [] ys = refl
take_front (x ∷ xs) ys = ap (λ zs. x ∷ zs) (take_front xs ys)

drop_front : {A : Type 0} (xs ys : List A) → drop (length xs) (xs ++ ys) ≡ ys
drop_front [] ys = refl
drop_front (x ∷ xs) ys = drop_front xs ys

drop_past : (t more : List ℕ) → drop (length t + 1) (t ++ 0 ∷ more) ≡ more
drop_past [] more = refl
drop_past (c ∷ t) more =
    let at : length (c ∷ t) + 1 ≡ suc (length t + 1) = omega arith in
    ap (λ k. drop k ((c ∷ t) ++ 0 ∷ more)) at ∙ drop_past t more

pub text-nul : (t more : List ℕ) → NoNul t → text (t ++ 0 ∷ more) ≡ t
text-nul t more h = ap (λ k. take k (t ++ 0 ∷ more)) (up_to_nul t more h) ∙ take_front t (0 ∷ more)

pub after_text-nul : (t more : List ℕ) → NoNul t → after_text (t ++ 0 ∷ more) ≡ more
after_text-nul t more h =
    ap (λ k. drop (k + 1) (t ++ 0 ∷ more)) (up_to_nul t more h) ∙ drop_past t more

-- ---- values

-- a value that a file can have
abbrev pub Fits : Value → Type 0
Fits v = (v.0 < 2 ^ 32) × NoNul v.1

pub values_in-bytes : (vs : List Value) (r : List ℕ) → AllByRecursion Fits vs
    → values_in (length vs) (flat_map value_bytes vs ++ r) ≡ vs
unfolding values_in
values_in-bytes [] r h = refl
values_in-bytes (v ∷ vs) r h =
    let more = flat_map value_bytes vs ++ r in
    let whole : flat_map value_bytes (v ∷ vs) ++ r ≡ number v.0 ++ (v.1 ++ 0 ∷ more)
    = append_assoc (value_bytes v) (flat_map value_bytes vs) r
    ∙ append_assoc (number v.0 ++ v.1) (0 ∷ []) more
    ∙ append_assoc (number v.0) v.1 (0 ∷ more) in
    ap (values_in (suc (length vs))) whole
    ∙ (λ i. (be-number v.0 (v.1 ++ 0 ∷ more) h.0.0 i, text-nul v.1 more h.0.1 i)
    ∷ values_in (length vs) (after_text-nul v.1 more h.0.1 i))
    ∙ ap (λ rest. v ∷ rest) (values_in-bytes vs r h.1)

-- ---- the fields of a node

pub fields : (p : List ℕ) (links : Links) (vs : List Value) (r : List ℕ)
    → node_bytes p links vs ++ r
    ≡ prefix_field p ++ (children_field links ++ (values_field vs ++ r))
unfolding node_bytes
fields p links vs r =
    append_assoc (prefix_field p ++ children_field links) (values_field vs) r
    ∙ append_assoc (prefix_field p) (children_field links) (values_field vs ++ r)

module _ (b : List ℕ) (at : ℕ) (links : Links) (vs : List Value) (more : List ℕ) (low : at < 2 ^ 28)
  where
    pub read_prefix : (p : List ℕ) → drop at b ≡ prefix_field p ++ more → NoNul p
        → prefix b (link_to at p links vs) ≡ p
    unfolding prefix
    read_prefix [] tail h
        = ap (λ t. cond t (text (drop (place_of (link_to at [] links vs)) b)) [])
        (has_prefix-link_to at [] links vs low)
    read_prefix (c ∷ p) tail h =
        ap (λ t. cond t (text (drop (place_of (link_to at (c ∷ p) links vs)) b)) [])
        (has_prefix-link_to at (c ∷ p) links vs low)
        ∙ ap (λ n. text (drop n b)) (place_of-link_to at (c ∷ p) links vs low)
        ∙ ap text (tail ∙ append_assoc (c ∷ p) (0 ∷ []) more)
        ∙ text-nul (c ∷ p) more h

    pub read_after_prefix : (p : List ℕ) → drop at b ≡ prefix_field p ++ more → NoNul p
        → after_prefix b (link_to at p links vs) ≡ more
    unfolding after_prefix
    read_after_prefix [] tail h =
        ap (λ t. cond t (after_text (drop (place_of (link_to at [] links vs)) b))
        (drop (place_of (link_to at [] links vs)) b)) (has_prefix-link_to at [] links vs low)
        ∙ ap (λ n. drop n b) (place_of-link_to at [] links vs low)
        ∙ tail
    read_after_prefix (c ∷ p) tail h =
        ap (λ t. cond t (after_text (drop (place_of (link_to at (c ∷ p) links vs)) b))
        (drop (place_of (link_to at (c ∷ p) links vs)) b))
        (has_prefix-link_to at (c ∷ p) links vs low)
        ∙ ap (λ n. after_text (drop n b)) (place_of-link_to at (c ∷ p) links vs low)
        ∙ ap after_text (tail ∙ append_assoc (c ∷ p) (0 ∷ []) more)
        ∙ after_text-nul (c ∷ p) more h

pub drop_sized : {A : Type 0} (xs ys : List A) (n : ℕ) → n ≡ length xs → drop n (xs ++ ys) ≡ ys
drop_sized xs ys n e = ap (λ k. drop k (xs ++ ys)) e ∙ drop_front xs ys

drop-offsets : (links : Links) (s n i : ℕ) (more : List ℕ) → i < n
    → (rest : List ℕ)
    × (drop (4 * i) (offsets_bytes links s n ++ more) ≡ number (offset links (s + i)) ++ rest)
drop-offsets links s zero i more h = absurd (omega arith)
drop-offsets links s (suc n) zero more h =
    let at : s ≡ s + 0 = omega arith in (
      offsets_bytes links (s + 1) n ++ more,
      append_assoc (number (offset links s)) (offsets_bytes links (s + 1) n) more
          ∙ ap (λ k. number (offset links k) ++ (offsets_bytes links (s + 1) n ++ more)) at,
    )
drop-offsets links s (suc n) (suc i) more h =
    let rest = drop-offsets links (s + 1) n i more (omega arith) in
    let four : 4 * suc i ≡ suc (suc (suc (suc (4 * i)))) = omega arith in
    let at : s + 1 + i ≡ s + suc i = omega arith in (
      rest.0,
      ap (λ k. drop k (offsets_bytes links s (suc n) ++ more)) four ∙ rest.1
          ∙ ap (λ k. number (offset links k) ++ rest.0) at,
    )

module _ (b : List ℕ) (at : ℕ) (p : List ℕ) (vs : List Value) (more : List ℕ) (low : at < 2 ^ 28)
  where
    abbrev pub the_link : Links → ℕ
    the_link links = link_to at p links vs

    pub read_no_child : (c : ℕ) → child b (the_link []) c ≡ None
    unfolding child
    read_no_child c =
        ap (λ t. cond
        (t && (nat_le (first_byte b (the_link [])) c && nat_le c (last_byte b (the_link []))))
        (present
        (be (after_prefix b (the_link [])) (2 + 4 * (c - first_byte b (the_link []))) 4))
        None) (has_children-link_to {A = ℕ × ℕ} {B = Value} at p [] vs low)

    pub read_no_children : after_children b (the_link []) ≡ after_prefix b (the_link [])
    unfolding after_children
    read_no_children =
        ap (λ t. cond t (drop (children_size b (the_link [])) (after_prefix b (the_link [])))
        (after_prefix b (the_link [])))
        (has_children-link_to {A = ℕ × ℕ} {B = Value} at p [] vs low)

    module _ (l : ℕ × ℕ) (ls : Links)
        (tail : after_prefix b (the_link (l ∷ ls)) ≡ children_field (l ∷ ls) ++ more) where
      pub read_first : first_byte b (the_link (l ∷ ls)) ≡ l.0
      unfolding first_byte
      read_first = ap (λ xs. get_or xs 0 0) tail

      pub read_last : last_byte b (the_link (l ∷ ls)) ≡ last l.0 ls
      unfolding last_byte
      read_last = ap (λ xs. get_or xs 1 0) tail

      pub read_size : children_size b (the_link (l ∷ ls)) ≡ 2 + 4 * (last l.0 ls - l.0 + 1)
      unfolding children_size
      read_size = λ i. 2 + 4 * (read_last i - read_first i + 1)

      pub read_after_children : after_children b (the_link (l ∷ ls)) ≡ more
      unfolding after_children
      read_after_children =
          ap (λ t. cond t
          (drop (children_size b (the_link (l ∷ ls))) (after_prefix b (the_link (l ∷ ls))))
          (after_prefix b (the_link (l ∷ ls)))) (has_children-link_to at p (l ∷ ls) vs low)
          ∙ (λ i. drop (read_size i) (tail i))
          ∙ drop_sized (children_field (l ∷ ls)) more (2 + 4 * (last l.0 ls - l.0 + 1))
          (omega (arith, length-offsets (l ∷ ls) l.0 (last l.0 ls - l.0 + 1)))

      opened : (c : ℕ)
          → child b (the_link (l ∷ ls)) c
          ≡ cond (nat_le l.0 c && nat_le c (last l.0 ls))
          (present (be (children_field (l ∷ ls) ++ more) (2 + 4 * (c - l.0)) 4)) None
      unfolding child
      opened c =
          ap (λ t. cond (t
          && (nat_le (first_byte b (the_link (l ∷ ls))) c
          && nat_le c (last_byte b (the_link (l ∷ ls)))))
          (present (be (after_prefix b (the_link (l ∷ ls)))
          (2 + 4 * (c - first_byte b (the_link (l ∷ ls)))) 4)) None)
          (has_children-link_to at p (l ∷ ls) vs low)
          ∙ (λ i. cond (nat_le (read_first i) c && nat_le c (read_last i))
          (present (be (tail i) (2 + 4 * (c - read_first i)) 4)) None)

      pub read_child : (c : ℕ) → l.0 ≤ c → c ≤ last l.0 ls → offset (l ∷ ls) c < 2 ^ 32
          → child b (the_link (l ∷ ls)) c ≡ present (offset (l ∷ ls) c)
      read_child c from to fits =
          let n = last l.0 ls - l.0 + 1 in
          let rest = drop-offsets (l ∷ ls) l.0 n (c - l.0) more (omega arith) in
          let two : 2 + 4 * (c - l.0) ≡ suc (suc (4 * (c - l.0))) = omega arith in
          let here : l.0 + (c - l.0) ≡ c = omega arith in
          opened c
          ∙ (λ i. cond (le-leb l.0 c from i && le-leb c (last l.0 ls) to i)
          (present (be (children_field (l ∷ ls) ++ more) (2 + 4 * (c - l.0)) 4)) None)
          ∙ ap present (be-at (children_field (l ∷ ls) ++ more) (2 + 4 * (c - l.0)) 4
          ∙ ap (λ k. be (drop k (children_field (l ∷ ls) ++ more)) 0 4) two
          ∙ ap (λ xs. be xs 0 4) (rest.1 ∙ ap (λ k. number (offset (l ∷ ls) k) ++ rest.0) here)
          ∙ be-number (offset (l ∷ ls) c) rest.0 fits)

      pub read_outside : (c : ℕ) → (nat_le l.0 c && nat_le c (last l.0 ls)) ≡ false
          → child b (the_link (l ∷ ls)) c ≡ None
      read_outside c out
          = opened c
          ∙ ap (λ t. cond t (present (be (children_field (l ∷ ls) ++ more) (2 + 4 * (c - l.0)) 4))
          None) out

pub read_values : (b : List ℕ) (at : ℕ) (p : List ℕ) (links : Links) (vs : List Value) (r : List ℕ)
    → at < 2 ^ 28 → after_children b (link_to at p links vs) ≡ values_field vs ++ r
    → length vs < 2 ^ 32 → AllByRecursion Fits vs → values b (link_to at p links vs) ≡ vs
unfolding values
read_values b at p links [] r low tail few h =
    let none : List Value = [] in
    let link = link_to at p links none in
    ap (λ t. cond t (values_in (be (after_children b link) 0 4) (drop 4 (after_children b link)))
    []) (has_values-link_to at p links none low)
read_values b at p links (v ∷ vs) r low tail few h =
    let link = link_to at p links (v ∷ vs) in
    ap (λ t. cond t (values_in (be (after_children b link) 0 4) (drop 4 (after_children b link)))
    []) (has_values-link_to at p links (v ∷ vs) low)
    ∙ (λ i. values_in (be (tail i) 0 4) (drop 4 (tail i)))
    ∙ ap (λ n. values_in n (flat_map value_bytes (v ∷ vs) ++ r))
    (be-number (length (v ∷ vs)) (flat_map value_bytes (v ∷ vs) ++ r) few)
    ∙ values_in-bytes (v ∷ vs) r h
