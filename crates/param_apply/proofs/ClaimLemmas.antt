-- Which bytes are taken, and by which parameters.
use Rattle.std.proofs.Common.{◌≡◌, ◌≤◌, ◌<◌, ◌+◌, ◌-◌, ◌∙◌, inl, inr, ℕ, Bool, true, false, List}
use Rattle.std.proofs.Common.{[], ◌∷◌, ◌++◌, Some, refl, sym, ap, arith, length, get_or}
use Rattle.std.specs.Prelude.{slice_get, nat_lt, nat_le, not, ◌&&◌, ◌||◌, ◌==◌}
use Rattle.std.specs.List.{list_any, range_with_len}
use Rattle.std.proofs.lemmas.Bool.{cases_Bool, and_from, and_parts, or_cases, or_parts, or_from}
use Rattle.std.proofs.lemmas.Bool.{or_left, or_right, le-leb, lt-ltb, ltb-false, ltb-true, leb-true}
use Rattle.std.proofs.lemmas.Bool.{le-ltb, eq-eqb, eqb-true, both_ways, not_from_false}
use Rattle.std.proofs.lemmas.Bool.{false_from_ne_true}
use Rattle.std.proofs.lemmas.List.Folds.{list_any-append, list_any_at, list_any_none}
use Rattle.std.proofs.lemmas.List.Elements.{All-from_get_or}
use Rattle.std.proofs.lemmas.List.FromFn.{get_or-range_with_len, length-range_with_len}
use Rattle.elf_object.specs.Object.{FileObject}
use Rattle.param_apply.specs.declared.claims.Claims.{Claims}
use Rattle.param_apply.specs.Words.{Parameter, Setting}
use Rattle.param_apply.specs.Places.{is_among, is_in_value, is_misplaced, is_of_other, is_reserved}
use Rattle.param_apply.specs.Places.{value_width}
use Rattle.param_apply.specs.Applied.{is_named}
use Rattle.param_apply.specs.Writing.{AreClaims, is_of_any}
use Rattle.std.proofs.Math.Bool.{or-false, or_assoc}

-- A byte is among some.
pub among : (at size x : ℕ) → at ≤ x → x < at + size → is_among at size x ≡ true
among at size x low high = and_from _ _ (le-leb at x low) (lt-ltb x (at + size) high)

pub among-parts : (at size x : ℕ) → is_among at size x ≡ true → (at ≤ x) × (x < at + size)
among-parts at size x is =
    let parts
    = and_parts (nat_le at x) (nat_lt x (at + size)) is in
    (leb-true at x parts.0, ltb-true x (at + size) parts.1)

-- A test of the numbers from one on.
any-range : (test : ℕ → Bool) (at size x : ℕ) → at ≤ x → x < at + size → test x ≡ true
    → list_any test (range_with_len at size) ≡ true
any-range test at size x low high is =
    let long = length-range_with_len at size in
    let here : get_or (range_with_len at size) (x - at) 0 ≡ x
    = get_or-range_with_len at size (x - at) 0 (omega arith) ∙ (omega arith) in
    list_any_at test (range_with_len at size) (x - at) 0 (omega arith) (ap test here ∙ is)

none-range : (test : ℕ → Bool) (at size : ℕ) → ((x : ℕ) → at ≤ x → x < at + size → test x ≡ false)
    → list_any test (range_with_len at size) ≡ false
none-range test at size none =
    let long = length-range_with_len at size in
    list_any_none test (range_with_len at size) (All-from_get_or (λ x. test x ≡ false)
    (range_with_len at size) 0
    (λ i less. let here
    = get_or-range_with_len at size i 0 (omega arith) in rw here
    (none (at + i) (omega arith) (omega arith))))

-- The byte at x isn't for the value of the parameter k, after some words.
abbrev pub is_closed : FileObject → List Parameter → List Setting → ℕ → ℕ → Bool
is_closed o params before k x = is_reserved o x || list_any (is_of_other params k x) before

pub misplaced-past : (o : FileObject) (params : List Parameter) (len : ℕ) (before : List Setting)
    (k : ℕ) (p : Parameter)
    → len < p.at + value_width p → is_misplaced o params len before k p ≡ true
unfolding is_misplaced
misplaced-past o params len before k p past = or_left _ _ (lt-ltb len _ past)

pub misplaced-closed : (o : FileObject) (params : List Parameter) (len : ℕ) (before : List Setting)
    (k : ℕ) (p : Parameter) (x : ℕ)
    → p.at ≤ x → x < p.at + value_width p → is_closed o params before k x ≡ true
    → is_misplaced o params len before k p ≡ true
unfolding is_misplaced
misplaced-closed o params len before k p x low high closed =
    or_right _ _ (any-range (is_closed o params before k) p.at (value_width p) x low high closed)

pub placed-from : (o : FileObject) (params : List Parameter) (len : ℕ) (before : List Setting)
    (k : ℕ) (p : Parameter)
    → p.at + value_width p ≤ len
    → ((x : ℕ) → p.at ≤ x → x < p.at + value_width p → is_closed o params before k x ≡ false)
    → is_misplaced o params len before k p ≡ false
unfolding is_misplaced
placed-from o params len before k p inside are_open =
    or_from _ _ (le-ltb len _ inside)
    (none-range (is_closed o params before k) p.at (value_width p) are_open)

pub placed-inside : (o : FileObject) (params : List Parameter) (len : ℕ) (before : List Setting)
    (k : ℕ) (p : Parameter)
    → is_misplaced o params len before k p ≡ false → p.at + value_width p ≤ len
unfolding is_misplaced
placed-inside o params len before k p placed = ltb-false len _ (or_parts _ _ placed).0

pub placed-open : (o : FileObject) (params : List Parameter) (len : ℕ) (before : List Setting)
    (k : ℕ) (p : Parameter) (x : ℕ)
    → is_misplaced o params len before k p ≡ false → p.at ≤ x → x < p.at + value_width p
    → is_closed o params before k x ≡ false
placed-open o params len before k p x placed low high =
    false_from_ne_true _
    (λ closed. both_ways _ placed (misplaced-closed o params len before k p x low high closed))

-- The bytes of a parameter's value.
pub in_value : (params : List Parameter) (k : ℕ) (p : Parameter) (x : ℕ)
    → slice_get params k ≡ Some p → is_in_value params k x ≡ is_among p.at (value_width p) x
unfolding is_in_value
in_value params k p x is = rw is refl

-- A parameter that is named has its bytes, and for others they are of another.
named-other : (params : List Parameter) (e k x : ℕ) (ss : List Setting) → is_named ss k ≡ true
    → (k == e) ≡ false → is_in_value params k x ≡ true → list_any (is_of_other params e x) ss ≡ true
named-other params e k x [] named other inside = cc
named-other params e k x (s ∷ ss) named other inside =
    elim (or_cases (s.number == k) (is_named ss k) named) [
      | inl here ↦
          let same : s.number ≡ k = eqb-true s.number k here in
          let this : is_of_other params e x s ≡ true
          = ap (λ (n : ℕ). not (n == e) && is_in_value params n x) same
          ∙ and_from (not (k == e)) (is_in_value params k x) (not_from_false (k == e) other)
          inside in
          or_left _ _ this
      | inr later ↦ or_right _ _ (named-other params e k x ss later other inside)
    ]

named-any : (params : List Parameter) (k x : ℕ) (ss : List Setting) → is_named ss k ≡ true
    → is_in_value params k x ≡ true → is_of_any params x ss ≡ true
named-any params k x [] named inside = cc
named-any params k x (s ∷ ss) named inside =
    elim (or_cases (s.number == k) (is_named ss k) named) [
      | inl here ↦
          let this : is_in_value params s.number x ≡ true
          = ap (λ (n : ℕ). is_in_value params n x) (eqb-true s.number k here) ∙ inside in
          or_left _ _ this
      | inr later ↦ or_right _ _ (named-any params k x ss later inside)
    ]

unnamed-other : (params : List Parameter) (e x : ℕ) (ss : List Setting) → is_named ss e ≡ false
    → list_any (is_of_other params e x) ss ≡ is_of_any params x ss
unnamed-other params e x [] unnamed = refl
unnamed-other params e x (s ∷ ss) unnamed =
    let parts = or_parts (s.number == e) (is_named ss e) unnamed in
    rw (parts.0, unnamed-other params e x ss parts.1) refl

not-true-is : (b : Bool) → not b ≡ true → b ≡ false
not-true-is true is = cc
not-true-is false is = refl

-- After one word more a value that could be where it is still can, if that word's own value can.
placed-more : (o : FileObject) (params : List Parameter) (len : ℕ) (done : List Setting)
    (s : Setting) (e k : ℕ) (p q : Parameter)
    → slice_get params e ≡ Some p → slice_get params k ≡ Some q → s.number ≡ e
    → is_misplaced o params len done e p ≡ false → is_misplaced o params len done k q ≡ false
    → ((k == e) ≡ false → is_named done k ≡ true)
    → is_misplaced o params len (done ++ s ∷ []) k q ≡ false
placed-more o params len done s e k p q is_e is_k number placed_e placed_k named =
    placed-from o params len (done ++ s ∷ []) k q (placed-inside o params len done k q placed_k)
    (λ x low high.
    let open_k = or_parts _ _ (placed-open o params len done k q x placed_k low high) in
    let in_k : is_in_value params k x ≡ true
    = in_value params k q x is_k ∙ among q.at (value_width q) x low high in
    let other : is_of_other params k x s ≡ false = false_from_ne_true _ (λ is.
    let parts = and_parts (not (s.number == k)) (is_in_value params s.number x) is in
    let apart : (k == e) ≡ false = false_from_ne_true (k == e) (λ same.
    both_ways (s.number == k) (not-true-is (s.number == k) parts.0)
    (eq-eqb s.number k (number ∙ sym (eqb-true k e same)))) in
    let in_e : is_in_value params e x ≡ true
    = ap (λ n. is_in_value params n x) (sym number) ∙ parts.1 in
    let range = among-parts p.at (value_width p) x (sym (in_value params e p x is_e) ∙ in_e) in
    let open_e = or_parts _ _ (placed-open o params len done e p x placed_e range.0 range.1) in
    both_ways _ open_e.1 (named-other params e k x done (named apart) apart in_k)) in
    or_from _ _ open_k.0
    (list_any-append (is_of_other params k x) done (s ∷ [])
    ∙ or_from _ _ open_k.1 (or_from _ _ other refl)))

named-here : (done : List Setting) (s : Setting) (k : ℕ) → is_named done k ≡ false
    → (is_named done k || (s.number == k)) ≡ true → (s.number == k) ≡ true
named-here done s k new or =
    elim (or_cases (is_named done k) (s.number == k) or)
    [ inl old ↦ absurd (both_ways (is_named done k) new old) | inr here ↦ here ]

-- The flags of parameters, with one more.
named-more : (done : List Setting) (s : Setting) (k : ℕ)
    → is_named (done ++ s ∷ []) k ≡ (is_named done k || (s.number == k))
named-more done s k =
    list_any-append (λ (x : Setting). x.number == k) done (s ∷ [])
    ∙ ap (λ b. is_named done k || b) (or-false (s.number == k))

-- What the flags are with a word more, where they were those of the words before.
pub claims-more : (c d : Claims) (o : FileObject) (params : List Parameter) (done : List Setting)
    (s : Setting) (e : ℕ) (p : Parameter)
    → AreClaims c o params done → slice_get params e ≡ Some p → s.number ≡ e
    → is_misplaced o params (length c.taken.items) done e p ≡ false
    → length d.taken.items ≡ length c.taken.items → length d.named.items ≡ length c.named.items
    → ((x : ℕ) → x < length c.taken.items
    → get_or d.taken.items x false
    ≡ (get_or c.taken.items x false || is_among p.at (value_width p) x))
    → ((k : ℕ) → k < length c.named.items
    → get_or d.named.items k false ≡ (get_or c.named.items k false || (e == k)))
    → AreClaims d o params (done ++ s ∷ [])
claims-more c d o params done s e p are is number placed same count taken named = record {
  taken = λ x less.
      let inside : x < length c.taken.items = omega arith in
      taken x inside
      ∙ ap (λ b. b || is_among p.at (value_width p) x) (are.taken x inside)
      ∙ or_assoc (is_reserved o x) (is_of_any params x done) (is_among p.at (value_width p) x)
      ∙ ap (λ b. is_reserved o x || (is_of_any params x done || b))
      (sym (or-false (is_in_value params s.number x) ∙ ap (λ n. is_in_value params n x) number
      ∙ in_value params e p x is))
      ∙ ap (λ b. is_reserved o x || b)
      (sym (list_any-append (λ (t : Setting). is_in_value params t.number x) done (s ∷ [])));
  count = count ∙ are.count;
  named = λ k less.
      let inside : k < length c.named.items = omega (arith, are.count) in
      named k inside
      ∙ ap (λ b. b || (e == k)) (are.named k less)
      ∙ ap (λ n. is_named done k || (n == k)) (sym number)
      ∙ sym (named-more done s k);
  placed = λ k q is_k named_k.
      rw same
      (elim (cases_Bool (is_named done k)) [
        | inl before ↦ placed-more o params (length c.taken.items) done s e k p q is is_k number
            placed (are.placed k q is_k before) (λ other. before)
        | inr new ↦
            let here : (s.number == k) ≡ true
            = named-here done s k new (sym (named-more done s k) ∙ named_k) in
            let at : e ≡ k = sym number ∙ eqb-true s.number k here in
            let again : Some p ≡ Some q = sym is ∙ ap (slice_get params) at ∙ is_k in
            let one : p ≡ q = cc in
            placed-more o params (length c.taken.items) done s e k p q is is_k number placed
            (rw (← at, ← one) placed)
            (λ other. absurd (both_ways (k == e) other (eq-eqb k e (sym at))))
      ]);
}

-- Where a parameter is named, its bytes are taken.
pub taken-named : (c : Claims) (o : FileObject) (params : List Parameter) (done : List Setting)
    (e : ℕ) (p : Parameter) (x : ℕ)
    → AreClaims c o params done → slice_get params e ≡ Some p → is_named done e ≡ true
    → x < length c.taken.items
    → get_or c.taken.items x false
    ≡ (get_or c.taken.items x false || is_among p.at (value_width p) x)
taken-named c o params done e p x are is named inside =
    elim (cases_Bool (is_among p.at (value_width p) x)) [
      | inl within ↦
          let held : get_or c.taken.items x false ≡ true
          = are.taken x inside
          ∙ or_right _ _
          (named-any params e x done named (in_value params e p x is ∙ within)) in
          rw held refl
      | inr out ↦ rw out (sym (or-false (get_or c.taken.items x false)))
    ]

-- A value whose bytes are free can be where it is.
pub free-placed : (c : Claims) (o : FileObject) (params : List Parameter) (done : List Setting)
    (e : ℕ) (p : Parameter)
    → AreClaims c o params done → is_named done e ≡ false
    → p.at + value_width p ≤ length c.taken.items
    → ((x : ℕ) → p.at ≤ x → x < p.at + value_width p → get_or c.taken.items x false ≡ false)
    → is_misplaced o params (length c.taken.items) done e p ≡ false
free-placed c o params done e p are unnamed inside free =
    placed-from o params (length c.taken.items) done e p inside (λ x low high.
    ap (λ b. is_reserved o x || b) (unnamed-other params e x done unnamed)
    ∙ sym (are.taken x (omega arith)) ∙ free x low high)

-- One of whose bytes one is taken can't.
pub taken-misplaced : (c : Claims) (o : FileObject) (params : List Parameter) (done : List Setting)
    (e : ℕ) (p : Parameter) (x : ℕ)
    → AreClaims c o params done → is_named done e ≡ false → p.at ≤ x → x < p.at + value_width p
    → x < length c.taken.items → get_or c.taken.items x false ≡ true
    → is_misplaced o params (length c.taken.items) done e p ≡ true
taken-misplaced c o params done e p x are unnamed low high inside taken =
    misplaced-closed o params (length c.taken.items) done e p x low high
    (ap (λ b. is_reserved o x || b) (unnamed-other params e x done unnamed)
    ∙ sym (are.taken x inside) ∙ taken)
