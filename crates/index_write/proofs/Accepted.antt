-- A reader accepts the nodes that were written.
use Rattle.std.proofs.Common.{◌≡◌, refl, sym, ap, ◌∙◌, ⊎_elim, ℕ, zero, suc, ◌+◌, ◌-◌, ◌*◌, ◌^◌}
use Rattle.std.proofs.Common.{◌<◌, ◌≤◌, Bool, true, false, not, cond, ◌==◌, ◌&&◌, ◌||◌, nat_le}
use Rattle.std.proofs.Common.{nat_lt, List, [], ◌∷◌, ◌++◌, length, drop, map, flat_map, filter_map}
use Rattle.std.proofs.Common.{Option, Some, None, arith, length-append, append_assoc}
use Rattle.std.proofs.lemmas.Bool.{eqb-true, le-leb, lt-ltb}
use Rattle.std.proofs.lemmas.Bool.Decides.{eqb_tells}
use Rattle.std.specs.List.{AllByRecursion, cons_option}
use Rattle.km_names.specs.Number.{be}
use Rattle.index_format.specs.Map.{Value}
use Rattle.index_format.specs.Link.{place_of, has_prefix, has_values, has_children, flag, link_to}
use Rattle.index_format.specs.Node.{after_prefix, first_byte, last_byte, children_size, upward}
use Rattle.index_format.specs.Node.{after_children}
use Rattle.index_format.specs.Check.{has_nul, prefix_fits, children_fit, whole_values, values_fit}
use Rattle.index_format.specs.File.{Links, number, last, prefix_field, children_field, value_bytes}
use Rattle.index_format.specs.File.{values_field}
use Rattle.index_write.proofs.WriteLemmas.{length-offsets}
use Rattle.index_format.proofs.BigEndian.{be-number}
use Rattle.index_write.proofs.Reading.{Fits, place_of-link_to, has_prefix-link_to}
use Rattle.index_write.proofs.Reading.{has_values-link_to, has_children-link_to, after_text-nul}
use Rattle.index_write.proofs.Reading.{read_first, read_last, read_size}

pub and_intro : (x y : Bool) → x ≡ true → y ≡ true → (x && y) ≡ true
and_intro true y p q = q
and_intro false y p q = p

pub or_right : (x y : Bool) → y ≡ true → (x || y) ≡ true
or_right true y q = refl
or_right false y q = q

-- ---- the fields are whole

has_nul-text : (t more : List ℕ) → has_nul (t ++ 0 ∷ more) ≡ true
has_nul-text [] more = refl
has_nul-text (c ∷ t) more = or_right (c == 0) (has_nul (t ++ 0 ∷ more)) (has_nul-text t more)

pub sound_prefix : (b : List ℕ) (at : ℕ) (p : List ℕ) (links : Links) (vs : List Value)
    (more : List ℕ)
    → at < 2 ^ 28 → drop at b ≡ prefix_field p ++ more
    → prefix_fits b (link_to at p links vs) ≡ true
unfolding prefix_fits
sound_prefix b at [] links vs more low tail =
    ap (λ t. not t || has_nul (drop (place_of (link_to at [] links vs)) b))
    (has_prefix-link_to at [] links vs low)
sound_prefix b at (c ∷ p) links vs more low tail =
    or_right (not (has_prefix (link_to at (c ∷ p) links vs)))
    (has_nul (drop (place_of (link_to at (c ∷ p) links vs)) b))
    (ap (λ n. has_nul (drop n b)) (place_of-link_to at (c ∷ p) links vs low)
    ∙ ap has_nul (tail ∙ append_assoc (c ∷ p) (0 ∷ []) more)
    ∙ has_nul-text (c ∷ p) more)

pub sound_children : (b : List ℕ) (at : ℕ) (p : List ℕ) (vs : List Value) (more : List ℕ)
    (low : at < 2 ^ 28) (l : ℕ × ℕ) (ls : Links)
    (tail : after_prefix b (link_to at p (l ∷ ls) vs) ≡ children_field (l ∷ ls) ++ more)
    → 0 < l.0 → l.0 ≤ last l.0 ls → last l.0 ls ≤ 127
    → children_fit b (link_to at p (l ∷ ls) vs) ≡ true
unfolding children_fit
sound_children b at p vs more low l ls tail pos order top =
    let link = link_to at p (l ∷ ls) vs in
    let size = 2 + 4 * (last l.0 ls - l.0 + 1) in
    let room : size ≤ length (children_field (l ∷ ls) ++ more)
    = omega (
      arith,
      length-append (children_field (l ∷ ls)) more,
      length-offsets (l ∷ ls) l.0 (last l.0 ls - l.0 + 1),
    ) in
    or_right (not (has_children link)) _
    ((λ i. nat_le 2 (length (tail i))
    && (nat_lt 0 (read_first b at p vs more low l ls tail i)
    && nat_le (read_first b at p vs more low l ls tail i)
    (read_last b at p vs more low l ls tail i)
    && nat_le (read_last b at p vs more low l ls tail i) 127
    && nat_le (read_size b at p vs more low l ls tail i) (length (tail i))))
    ∙ and_intro _ _ (le-leb 2 (length (children_field (l ∷ ls) ++ more)) (omega (arith, room)))
    (and_intro _ _ (and_intro _ _
    (and_intro _ _ (lt-ltb 0 l.0 pos) (le-leb l.0 (last l.0 ls) order))
    (le-leb (last l.0 ls) 127 top))
    (le-leb size (length (children_field (l ∷ ls) ++ more)) room)))

pub sound_no_children : (b : List ℕ) (at : ℕ) (p : List ℕ) (vs : List Value) → at < 2 ^ 28
    → (none : Links) → none ≡ [] → children_fit b (link_to at p none vs) ≡ true
unfolding children_fit
sound_no_children b at p vs low none e =
    let link = link_to at p none vs in
    ap (λ t. not t
    || (nat_le 2 (length (after_prefix b link))
    && (nat_lt 0 (first_byte b link)
    && nat_le (first_byte b link) (last_byte b link)
    && nat_le (last_byte b link) 127
    && nat_le (children_size b link) (length (after_prefix b link)))))
    (has_children-link_to at p none vs low ∙ ap (λ ls. flag ls == 1) e)

whole_all : (vs : List Value) (r : List ℕ) → AllByRecursion Fits vs
    → whole_values (length vs) (flat_map value_bytes vs ++ r) ≡ true
unfolding whole_values
whole_all [] r h = refl
whole_all (v ∷ vs) r h =
    let more = flat_map value_bytes vs ++ r in
    let whole : flat_map value_bytes (v ∷ vs) ++ r ≡ number v.0 ++ (v.1 ++ 0 ∷ more)
    = append_assoc (value_bytes v) (flat_map value_bytes vs) r
    ∙ append_assoc (number v.0 ++ v.1) (0 ∷ []) more
    ∙ append_assoc (number v.0) v.1 (0 ∷ more) in
    ap (whole_values (suc (length vs))) whole
    ∙ and_intro _ _ (le-leb 4 (length (number v.0 ++ (v.1 ++ 0 ∷ more))) (omega arith))
    (and_intro _ _ (has_nul-text v.1 more)
    (ap (whole_values (length vs)) (after_text-nul v.1 more h.0.1) ∙ whole_all vs r h.1))

pub sound_values : (b : List ℕ) (at : ℕ) (p : List ℕ) (links : Links) (vs : List Value) (r : List ℕ)
    → at < 2 ^ 28 → after_children b (link_to at p links vs) ≡ values_field vs ++ r
    → length vs < 2 ^ 32 → AllByRecursion Fits vs → values_fit b (link_to at p links vs) ≡ true
unfolding values_fit
sound_values b at p links [] r low tail few h =
    let none : List Value = [] in
    let link = link_to at p links none in
    ap (λ t. not t
    || (nat_le 4 (length (after_children b link))
    && whole_values (be (after_children b link) 0 4)
    (drop 4 (after_children b link)))) (has_values-link_to at p links none low)
sound_values b at p links (v ∷ vs) r low tail few h =
    let link = link_to at p links (v ∷ vs) in
    or_right (not (has_values link)) _
    ((λ i. nat_le 4 (length (tail i)) && whole_values (be (tail i) 0 4) (drop 4 (tail i)))
    ∙ and_intro _ _ (le-leb 4 (length (values_field (v ∷ vs) ++ r)) (omega arith))
    (ap (λ n. whole_values n (flat_map value_bytes (v ∷ vs) ++ r))
    (be-number (length (v ∷ vs)) (flat_map value_bytes (v ∷ vs) ++ r) few)
    ∙ whole_all (v ∷ vs) r h))

-- ---- the children, one after the other

abbrev pub lookup : ℕ → Links → Option ℕ
lookup c [] = None
lookup c (l ∷ ls) = cond (l.0 == c) (Some l.1) (lookup c ls)

abbrev pub LinksRise : Links → Type 0
LinksRise [] = Unit {0}
LinksRise (l ∷ ls) = AllByRecursion (λ m. l.0 < m.0) ls × LinksRise ls

apart_test : (a b : ℕ) → (a ≡ b → ⊥) → (a == b) ≡ false
apart_test a b h = ⊎_elim (λ p. absurd (h p.1)) (λ p. p.0) (eqb_tells a b)

not_there : (c : ℕ) (ls : Links) → AllByRecursion (λ m. c < m.0) ls → lookup c ls ≡ None
not_there c [] h = refl
not_there c (l ∷ ls) h =
    ap (λ t. cond t (Some l.1) (lookup c ls)) (apart_test l.0 c (λ e. omega (arith, e, h.0)))
    ∙ not_there c ls h.1

above_lower : (c d : ℕ) (ls : Links) → c < d → AllByRecursion (λ m. d < m.0) ls
    → AllByRecursion (λ m. c < m.0) ls
above_lower c d [] lt h = tt
above_lower c d (l ∷ ls) lt h = (omega (arith, lt, h.0), above_lower c d ls lt h.1)

abbrev pub Between : ℕ → ℕ → Links → Type 0
Between s n ls = AllByRecursion (λ m. (s ≤ m.0) × (m.0 < s + n)) ls

later_between : (s n d : ℕ) (ls : Links) → s ≤ d → AllByRecursion (λ m. d < m.0) ls
    → Between s (suc n) ls → Between (s + 1) n ls
later_between s n d [] le a h = tt
later_between s n d (l ∷ ls) le a h =
    ((omega (arith, le, a.0), omega (arith, h.0.1)), later_between s n d ls le a.1 h.1)

true_false : true ≡ false → ⊥
true_false e = cc

above_ne : (a s : ℕ) → (a ≡ s → ⊥) → s ≤ a → s < a
above_ne a s ne le = omega arith

after_test : (a s : ℕ) → (a == s) ≡ false → s ≤ a → s < a
after_test a s e le =
    ⊎_elim (λ p. absurd (true_false (sym p.0 ∙ e))) (λ p. above_ne a s p.1 le) (eqb_tells a s)

-- going over a range of bytes, one comes to each link in turn
pub sweep : (n : ℕ) (h : ℕ → Option ℕ) (ls : Links) (s : ℕ) → LinksRise ls → Between s n ls
    → ((c : ℕ) → s ≤ c → h c ≡ lookup c ls) → filter_map h (upward s n) ≡ map (λ l. l.1) ls
sweep zero h [] s rise between is = refl
sweep zero h (l ∷ ls) s rise between is = absurd (omega (arith, between.0.0, between.0.1))
sweep (suc n) h [] s rise between is =
    ap (λ o. cons_option o (filter_map h (upward (s + 1) n))) (is s (omega arith))
    ∙ sweep n h [] (s + 1) tt tt (λ c le. is c (omega (arith, le)))
sweep (suc n) h (l ∷ ls) s rise between is =
    elim (l.0 == s) as
    (λ t. (l.0 == s) ≡ t
    → cons_option (h s) (filter_map h (upward (s + 1) n)) ≡ l.1 ∷ map (λ m. m.1) ls) [
      | true ↦ λ e.
          let at = eqb-true l.0 s e in
          ap (λ o. cons_option o (filter_map h (upward (s + 1) n)))
          (is s (omega arith) ∙ ap (λ t. cond t (Some l.1) (lookup s ls)) e)
          ∙ ap (λ xs. l.1 ∷ xs)
          (sweep n h ls (s + 1) rise.1
          (later_between s n l.0 ls (omega (arith, at)) rise.0 between.1)
          (λ c le. is c (omega (arith, le))
          ∙ ap (λ t. cond t (Some l.1) (lookup c ls))
          (apart_test l.0 c (λ q. omega (arith, q, at, le)))))
      | false ↦ λ e.
          let above : s < l.0 = after_test l.0 s e between.0.0 in
          ap (λ o. cons_option o (filter_map h (upward (s + 1) n)))
          (is s (omega arith) ∙ not_there s (l ∷ ls) (above, above_lower s l.0 ls above rise.0))
          ∙ sweep n h (l ∷ ls) (s + 1) rise (
            (omega (arith, above), omega (arith, between.0.1)),
            later_between s n l.0 ls between.0.0 rise.0 between.1,
          )
          (λ c le. is c (omega (arith, le)))
    ] refl
