-- The normal form of an alias, read byte by byte from the left.
use Rattle.std.proofs.Common.{◌≡◌, ℕ, suc, inl, inr, subst, ◌+◌, ◌<◌, ◌≤◌, Bool, true, false, cond}
use Rattle.std.proofs.Common.{eqb, List, [], ◌∷◌, ◌++◌, length, take, drop, get_or, Option, Some}
use Rattle.std.proofs.Common.{None, sym, refl, ap, ◌∙◌, arith}
use Rattle.std.specs.Prelude.{not, ◌&&◌, ◌||◌, map}
use Rattle.std.specs.Option.{option_map}
use Rattle.std.specs.List.{slice_split, onto_first, position_or_len, join_with_byte}
use Rattle.std.proofs.lemmas.List.{append-nil, append_assoc, at_drop_more, at_drop_all}
use Rattle.std.proofs.lemmas.Bool.{eqb-true, cases_Bool}
use Rattle.std.proofs.Common.{ne_eqb}
use Rattle.km_names.specs.Path.{underscored}
use Rattle.km_names.specs.AliasForm.{opens, brackets_pair, underscored_outside, normal_alias}

-- what is written for a byte, in a bracket or outside
abbrev pub written : Bool → ℕ → ℕ
written bracket b = cond (eqb b 45 && not bracket) 95 b

-- whether the next byte stands in a bracket
abbrev pub still : Bool → ℕ → Bool
still bracket b = eqb b 91 || (bracket && not (eqb b 93))

-- the normal form of what is left, in a bracket or outside
abbrev pub normal_from : Bool → List ℕ → Option (List ℕ)
normal_from bracket [] = cond bracket None (Some [])
normal_from bracket (b ∷ bs) =
    cond (eqb b 93 && not bracket) None
    (option_map (λ r. written bracket b ∷ r) (normal_from (still bracket b) bs))

-- what the parts after a part give, which has an opening bracket or not
pub rest_of : Bool → List (List ℕ) → Option (List ℕ)
rest_of opened [] = cond opened None (Some [])
rest_of opened (q ∷ qs) =
    cond opened (option_map (λ r. 93 ∷ (underscored_outside q ++ r)) (rest_of (opens q) qs)) None

-- what the parts of a text give, the first in a bracket or not
pub of_parts : Bool → List (List ℕ) → Option (List ℕ)
of_parts bracket [] = None
of_parts bracket (p ∷ ps) =
    option_map (λ r. cond bracket p (underscored_outside p) ++ r) (rest_of (bracket || opens p) ps)

pub option_map-more : (front : List ℕ) (b : ℕ) (o : Option (List ℕ))
    → option_map (λ r. (front ++ b ∷ []) ++ r) o
    ≡ option_map (λ r. front ++ r) (option_map (λ r. b ∷ r) o)
option_map-more front b None = refl
option_map-more front b (Some x) = ap Some (append_assoc front (b ∷ []) x)

put_in_front : (p : List ℕ) (b : ℕ) (o : Option (List ℕ))
    → option_map (λ r. b ∷ r) (option_map (λ r. p ++ r) o) ≡ option_map (λ r. (b ∷ p) ++ r) o
put_in_front p b None = refl
put_in_front p b (Some x) = refl

nothing_in_front : (o : Option (List ℕ)) → o ≡ option_map (λ r. [] ++ r) o
nothing_in_front None = refl
nothing_in_front (Some x) = refl

outside_at : (b n : ℕ) (p : List ℕ)
    → underscored (take (1 + n) (b ∷ p)) ++ drop (1 + n) (b ∷ p)
    ≡ cond (eqb b 45) 95 b ∷ (underscored (take n p) ++ drop n p)
outside_at b n p = let e : 1 + n ≡ suc n = omega arith in rw e refl

outside-cons : (b : ℕ) (p : List ℕ) → eqb b 91 ≡ false
    → underscored_outside (b ∷ p) ≡ cond (eqb b 45) 95 b ∷ underscored_outside p
outside-cons b p ne = rw ne (outside_at b (position_or_len (λ c. eqb c 91) p) p)

outside-open : (b : ℕ) (p : List ℕ) → eqb b 91 ≡ true → underscored_outside (b ∷ p) ≡ b ∷ p
outside-open b p is = rw is refl

split-nonempty : (text : List ℕ)
    → (p : List ℕ) × (ps : List (List ℕ)) × (slice_split (λ b. eqb b 93) text ≡ p ∷ ps)
split-nonempty [] = ([], [], refl)
split-nonempty (b ∷ bs) =
    let ih = split-nonempty bs in
    elim (eqb b 93) as
    (λ v. (p : List ℕ) × (ps : List (List ℕ))
    × (cond v ([] ∷ slice_split (λ c. eqb c 93) bs)
    (onto_first b (slice_split (λ c. eqb c 93) bs))
    ≡ p ∷ ps)) [
      | true ↦ ([], slice_split (λ c. eqb c 93) bs, refl)
      | false ↦ (b ∷ ih.0, ih.1, ap (onto_first b) ih.2)
    ]

-- a text that is cut at its first byte
of_parts-cut : (bracket : Bool) (q : List ℕ) (qs : List (List ℕ))
    → cond (not bracket) None (option_map (λ r. 93 ∷ r) (of_parts false (q ∷ qs)))
    ≡ of_parts bracket ([] ∷ q ∷ qs)
unfolding of_parts rest_of
of_parts-cut true q qs = put_in_front _ _ _ ∙ nothing_in_front _
of_parts-cut false q qs = refl

written-true : (b : ℕ) → written true b ≡ b
written-true b = elim (eqb b 45) as (λ v. cond (v && false) 95 b ≡ b) [ true ↦ refl | false ↦ refl ]

written-false : (b : ℕ) → written false b ≡ cond (eqb b 45) 95 b
written-false b =
    elim (eqb b 45) as (λ v. cond (v && true) 95 b ≡ cond v 95 b) [ true ↦ refl | false ↦ refl ]

written-open : (b : ℕ) → eqb b 91 ≡ true → written false b ≡ b
written-open b is =
    let ne : eqb b 45 ≡ false
    = ne_eqb b 45 (λ e. absurd (omega (arith, eqb-true b 91 is, e))) in rw ne refl

still-true : (b : ℕ) → eqb b 93 ≡ false → still true b ≡ true
still-true b ne =
    rw ne (elim (eqb b 91) as (λ v. (v || true) ≡ true) [ true ↦ refl | false ↦ refl ])

still-open : (b : ℕ) → eqb b 91 ≡ true → still false b ≡ true
still-open b is = rw is refl

still-false : (b : ℕ) → eqb b 91 ≡ false → still false b ≡ false
still-false b ne = rw ne refl

of_parts-onto : (bracket : Bool) (b : ℕ) (p : List ℕ) (ps : List (List ℕ)) → eqb b 93 ≡ false
    → option_map (λ r. written bracket b ∷ r) (of_parts (still bracket b) (p ∷ ps))
    ≡ of_parts bracket ((b ∷ p) ∷ ps)
unfolding of_parts rest_of
of_parts-onto true b p ps ne =
    rw (still-true b ne, written-true b) (put_in_front p b (rest_of true ps))
of_parts-onto false b p ps ne =
    elim (cases_Bool (eqb b 91)) [
      | inl is ↦ rw (still-open b is, written-open b is, outside-open b p is)
          (rw is (put_in_front p b (rest_of true ps)))
      | inr ne ↦ rw (still-false b ne, written-false b, outside-cons b p ne)
          (rw ne
          (put_in_front (underscored_outside p) (cond (eqb b 45) 95 b) (rest_of (opens p) ps)))
    ]

-- at a closing bracket
at_close : (bracket : Bool) (b : ℕ) (bs q : List ℕ) (qs : List (List ℕ)) → eqb b 93 ≡ true
    → normal_from false bs ≡ of_parts false (q ∷ qs)
    → cond (not bracket) None
    (option_map (λ r. written bracket b ∷ r) (normal_from (still bracket b) bs))
    ≡ of_parts bracket ([] ∷ q ∷ qs)
at_close false b bs q qs is here = of_parts-cut false q qs
at_close true b bs q qs is here =
    let P : ℕ → Type 0
    = λ n. option_map (λ r. written true n ∷ r) (normal_from (still true n) bs)
    ≡ of_parts true ([] ∷ q ∷ qs) in
    subst P (sym (eqb-true b 93 is)) (ap (option_map (λ r. 93 ∷ r)) here ∙ of_parts-cut true q qs)

pub normal_from_is : (bracket : Bool) (text : List ℕ)
    → normal_from bracket text ≡ of_parts bracket (slice_split (λ b. eqb b 93) text)
unfolding of_parts rest_of
normal_from_is true [] = refl
normal_from_is false [] = refl
normal_from_is bracket (b ∷ bs) =
    let some = split-nonempty bs in
    let here : normal_from false bs ≡ of_parts false (some.0 ∷ some.1)
    = normal_from_is false bs ∙ ap (of_parts false) some.2 in
    let there : normal_from (still bracket b) bs ≡ of_parts (still bracket b) (some.0 ∷ some.1)
    = normal_from_is (still bracket b) bs ∙ ap (of_parts (still bracket b)) some.2 in
    let X : Option (List ℕ)
    = option_map (λ r. written bracket b ∷ r) (normal_from (still bracket b) bs) in
    let cut : List (List ℕ) → Bool → Option (List ℕ)
    = λ parts v. of_parts bracket (cond v ([] ∷ parts) (onto_first b parts)) in
    let parts : List (List ℕ) = slice_split (λ c. eqb c 93) bs in
    elim (cases_Bool (eqb b 93)) [
      | inl is ↦
          ap (λ v. cond (v && not bracket) None X) is ∙ at_close bracket b bs some.0 some.1 is here
          ∙ sym (ap (cut parts) is ∙ ap (λ ps. cut ps true) some.2)
      | inr ne ↦
          ap (λ v. cond (v && not bracket) None X) ne
          ∙ (ap (option_map (λ r. written bracket b ∷ r)) there
          ∙ of_parts-onto bracket b some.0 some.1 ne)
          ∙ sym (ap (cut parts) ne ∙ ap (λ ps. cut ps false) some.2)
    ]

map-map' : (g f : List ℕ → List ℕ) (o : Option (List ℕ))
    → option_map g (option_map f o) ≡ option_map (λ x. g (f x)) o
map-map' g f None = refl
map-map' g f (Some x) = refl

map-cond : (front text : List ℕ) (b : Bool)
    → option_map (λ r. front ++ r) (option_map (λ r. 93 ∷ r) (cond b (Some text) None))
    ≡ cond b (Some (front ++ 93 ∷ text)) None
map-cond front text true = refl
map-cond front text false = refl

-- the parts of a text, as the definition has them
of_parts_is : (p : List ℕ) (ps : List (List ℕ))
    → of_parts false (p ∷ ps)
    ≡ cond (brackets_pair (p ∷ ps))
    (Some (join_with_byte 93 (map underscored_outside (p ∷ ps)))) None
unfolding of_parts rest_of
of_parts_is p [] =
    elim (opens p) as
    (λ v. option_map (λ r. underscored_outside p ++ r) (cond v None (Some []))
    ≡ cond (not v) (Some (underscored_outside p)) None) [
      | true ↦ refl
      | false ↦ ap Some (append-nil (underscored_outside p))
    ]
of_parts_is p (q ∷ qs) =
    let ih = of_parts_is q qs in
    elim (opens p) as
    (λ v. option_map (λ r. underscored_outside p ++ r)
    (cond v (option_map (λ r. 93 ∷ (underscored_outside q ++ r)) (rest_of (opens q) qs))
    None)
    ≡ cond (v && brackets_pair (q ∷ qs))
    (Some (underscored_outside p ++ 93
    ∷ join_with_byte 93 (underscored_outside q ∷ map underscored_outside qs))) None) [
      | true ↦ ap (option_map (λ r. underscored_outside p ++ r))
          (sym (map-map' (λ r. 93 ∷ r) (λ r. underscored_outside q ++ r) (rest_of (opens q) qs))
          ∙ ap (option_map (λ r. 93 ∷ r)) ih)
          ∙ map-cond _ _ _
      | false ↦ refl
    ]

pub normal_is : (text : List ℕ) → normal_from false text ≡ normal_alias text
unfolding normal_alias
normal_is text =
    let some = split-nonempty text in
    normal_from_is false text ∙ (rw some.2 (of_parts_is some.0 some.1))

-- a closing bracket that stands outside
pub stops : (front text : List ℕ) (i : ℕ) (bracket : Bool) → i < length text → get_or text i 0 ≡ 93
    → bracket ≡ false
    → option_map (λ r. front ++ r) (normal_from bracket (drop i text)) ≡ normal_from false text
    → None ≡ normal_alias text
stops front text i bracket l is out told =
    let e : normal_from bracket (drop i text) ≡ None
    = ap (λ v. normal_from v (drop i text)) out ∙ at_drop_more (normal_from false) text i 0 l
    ∙ ap (λ b. normal_from false (b ∷ drop (i + 1) text)) is in
    sym (ap (option_map (λ r. front ++ r)) e) ∙ told ∙ normal_is text

-- the end of the text
pub ends : (front text : List ℕ) (i : ℕ) (bracket : Bool) → length text ≤ i
    → option_map (λ r. front ++ r) (normal_from bracket (drop i text)) ≡ normal_from false text
    → cond bracket None (Some front) ≡ normal_alias text
ends front text i bracket l told =
    let e : normal_from bracket (drop i text) ≡ cond bracket None (Some [])
    = at_drop_all (normal_from bracket) text i l in
    in_front bracket ∙ sym (ap (option_map (λ r. front ++ r)) e) ∙ told ∙ normal_is text
  where
    in_front : (v : Bool)
        → cond v None (Some front) ≡ option_map (λ r. front ++ r) (cond v None (Some []))
    in_front true = refl
    in_front false = ap Some (sym (append-nil front))
