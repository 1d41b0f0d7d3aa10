-- What a round of the search for distances finds: item by item, and list by list.
use Rattle.std.proofs.Common.{◌≡◌, ℕ, ◌+◌, ◌<◌, Bool, true, false, eqb, List, [], ◌∷◌, ◌++◌, length}
use Rattle.std.proofs.Common.{get_or, set, take, sym, refl, ap, ◌∙◌, subst, inl, inr}
use Rattle.std.specs.Prelude.{◌&&◌, ◌||◌, if◌then◌else◌}
use Rattle.std.specs.List.{list_any}
use Rattle.std.proofs.lemmas.Bool.{cases_eq, eq-eqb, ne_eqb}
use Rattle.std.proofs.lemmas.List.{get_or-set_same, get_or-set_other, get_or_default}
use Rattle.std.proofs.lemmas.List.Folds.{list_any-append, list_any_more}
use Rattle.relation_order.specs.Sets.{has}
use Rattle.relation_order.specs.Rounds.{Finds}

and-false : (a : Bool) → (a && false) ≡ false
and-false true = refl
and-false false = refl

or-false : (a : Bool) → a ≡ (a || false)
or-false true = refl
or-false false = refl

-- a value after two rounds of one number is the value after one round with both tests
value-twice : (free t u : Bool) (round none f f1 : ℕ) → (round ≡ none → ⊥) → eqb f none ≡ free
    → f1 ≡ (if free && t then round else f)
    → (if eqb f1 none && u then round else f1) ≡ (if free && (t || u) then round else f)
value-twice true true u round none f f1 ne is e =
    ap (λ b. if b && u then round else f1) (ap (λ v. eqb v none) e ∙ ne_eqb round none ne) ∙ e
value-twice true false u round none f f1 ne is e =
    ap (λ b. if b && u then round else f1) (ap (λ v. eqb v none) e ∙ is)
    ∙ ap (λ v. if u then round else v) e
value-twice false t u round none f f1 ne is e =
    ap (λ b. if b && u then round else f1) (ap (λ v. eqb v none) e ∙ is) ∙ e

-- and whether an item is found in them
found-twice : (free t u before : Bool) (round none f f1 : ℕ) → (round ≡ none → ⊥)
    → eqb f none ≡ free → f1 ≡ (if free && t then round else f)
    → ((before || (free && t)) || (eqb f1 none && u)) ≡ (before || (free && (t || u)))
found-twice free t u true round none f f1 ne is e = refl
found-twice true true u false round none f f1 ne is e = refl
found-twice true false u false round none f f1 ne is e =
    ap (λ b. b && u) (ap (λ v. eqb v none) e ∙ is)
found-twice false t u false round none f f1 ne is e = ap (λ b. b && u) (ap (λ v. eqb v none) e ∙ is)

-- nothing is found if no item without a distance passes the test
finds-nothing : (test : ℕ → Bool) (round none : ℕ) (far found : List ℕ)
    → ((z : ℕ) → (eqb (get_or far z 0) none && test z) ≡ false)
    → Finds test round none far far found found
finds-nothing test round none far found out = record {
  far_is = λ z. ap (λ b. if b then round else get_or far z 0) (sym (out z));
  found_is = λ z. or-false (has found z) ∙ ap (λ b. has found z || b) (sym (out z));
}

-- nothing is found at the start
pub finds-start : (test : ℕ → Bool) (round none : ℕ) (far found : List ℕ)
    → ((z : ℕ) → test z ≡ false) → Finds test round none far far found found
finds-start test round none far found out =
    finds-nothing test round none far found
    (λ z. ap (λ b. eqb (get_or far z 0) none && b) (out z)
    ∙ and-false (eqb (get_or far z 0) none))

-- two searches, one after the other, find what passes one of their tests
finds-both : (test other both : ℕ → Bool) (round none : ℕ)
    (far far1 far2 found found1 found2 : List ℕ)
    → ((z : ℕ) → both z ≡ (test z || other z)) → (round ≡ none → ⊥)
    → Finds test round none far far1 found found1 → Finds other round none far1 far2 found1 found2
    → Finds both round none far far2 found found2
finds-both test other both round none far far1 far2 found found1 found2 or ne first second =
    record {
      far_is
          = λ z. second.far_is z
          ∙ value-twice (eqb (get_or far z 0) none) (test z) (other z) round none (get_or far z 0)
          (get_or far1 z 0) ne refl (first.far_is z)
          ∙ ap (λ t. if eqb (get_or far z 0) none && t then round else get_or far z 0) (sym (or z));
      found_is
          = λ z. second.found_is z
          ∙ ap (λ b. b || (eqb (get_or far1 z 0) none && other z)) (first.found_is z)
          ∙ found-twice (eqb (get_or far z 0) none) (test z) (other z) (has found z) round none
          (get_or far z 0) (get_or far1 z 0) ne refl (first.far_is z)
          ∙ ap (λ t. has found z || (eqb (get_or far z 0) none && t)) (sym (or z));
    }

-- an item without a distance is found
finds-free : (round none : ℕ) (far found : List ℕ) (x : ℕ) → x < length far → get_or far x 0 ≡ none
    → Finds (λ z. eqb z x) round none far (set far x round) found (found ++ x ∷ [])
finds-free round none far found x low free = record {
  far_is = λ z. elim (cases_eq z x) [
    | inl s ↦
        ap (λ i. get_or (set far x round) i 0) s ∙ get_or-set_same far x round 0 low
        ∙ sym (ap (λ b. if b && eqb z x then round else get_or far z 0) (is-free z s)
        ∙ ap (λ b. if b then round else get_or far z 0) (eq-eqb z x s))
    | inr other ↦ get_or-set_other far x z round 0 other
        ∙ sym (ap (λ b. if b then round else get_or far z 0) (isnt-it z other))
  ];
  found_is
      = λ z. list_any-append (eqb z) found (x ∷ [])
      ∙ ap (λ b. has found z || b) (elim (cases_eq z x) [
        | inl s ↦ ap (λ b. b || false) (eq-eqb z x s)
            ∙ sym (ap (λ b. b && eqb z x) (is-free z s) ∙ eq-eqb z x s)
        | inr other ↦ ap (λ b. b || false) (ne_eqb z x other) ∙ sym (isnt-it z other)
      ]);
}
  where
    is-free : (z : ℕ) → z ≡ x → eqb (get_or far z 0) none ≡ true
    is-free z s = eq-eqb (get_or far z 0) none (ap (λ i. get_or far i 0) s ∙ free)

    isnt-it : (z : ℕ) → (z ≡ x → ⊥) → (eqb (get_or far z 0) none && eqb z x) ≡ false
    isnt-it z other
        = ap (λ b. eqb (get_or far z 0) none && b) (ne_eqb z x other)
        ∙ and-false (eqb (get_or far z 0) none)

-- an item that has a distance isn't
finds-taken : (round none : ℕ) (far found : List ℕ) (x : ℕ) → (get_or far x 0 ≡ none → ⊥)
    → Finds (λ z. eqb z x) round none far far found found
finds-taken round none far found x taken =
    finds-nothing (λ z. eqb z x) round none far found (λ z. elim (cases_eq z x) [
      | inl s ↦ ap (λ b. b && eqb z x)
          (ne_eqb (get_or far z 0) none (λ e. taken (ap (λ i. get_or far i 0) (sym s) ∙ e)))
      | inr other ↦ ap (λ b. eqb (get_or far z 0) none && b) (ne_eqb z x other)
          ∙ and-false (eqb (get_or far z 0) none)
    ])

-- the next item of a list, in its two cases
module _ (items : List ℕ) (i : ℕ) (round none : ℕ) (far far1 found found1 : List ℕ)
    (low : i < length items) (ne : round ≡ none → ⊥)
    (finds : Finds (has (take i items)) round none far far1 found found1) where
  both : (far2 found2 : List ℕ)
      → Finds (λ z. eqb z (get_or items i 0)) round none far1 far2 found1 found2
      → Finds (has (take (i + 1) items)) round none far far2 found found2
  both far2 found2 next
      = finds-both (has (take i items)) (λ z. eqb z (get_or items i 0)) (has (take (i + 1) items))
      round none far far1 far2 found found1 found2 (λ z. list_any_more (eqb z) items i 0 low) ne
      finds next

  pub finds-next_free : (v : ℕ) (far2 found2 : List ℕ) → get_or items i 0 < length far1
      → v ≡ get_or far1 (get_or items i 0) v → v ≡ none → far2 ≡ set far1 (get_or items i 0) round
      → found2 ≡ found1 ++ get_or items i 0 ∷ []
      → Finds (has (take (i + 1) items)) round none far far2 found found2
  finds-next_free v far2 found2 inside at free set-is found-is =
      let x = get_or items i 0 in
      let is = get_or_default far1 x 0 v inside ∙ sym at ∙ free in
      both far2 found2
      (subst (λ xs. Finds (λ z. eqb z x) round none far1 xs found1 found2) (sym set-is)
      (subst (λ xs. Finds (λ z. eqb z x) round none far1 (set far1 x round) found1 xs)
      (sym found-is) (finds-free round none far1 found1 x inside is)))

  pub finds-next_taken : (v : ℕ) (far2 found2 : List ℕ) → get_or items i 0 < length far1
      → v ≡ get_or far1 (get_or items i 0) v → (v ≡ none → ⊥) → far2 ≡ far1 → found2 ≡ found1
      → Finds (has (take (i + 1) items)) round none far far2 found found2
  finds-next_taken v far2 found2 inside at taken far-is found-is =
      let x = get_or items i 0 in
      both far2 found2
      (subst (λ xs. Finds (λ z. eqb z x) round none far1 xs found1 found2) (sym far-is)
      (subst (λ xs. Finds (λ z. eqb z x) round none far1 far1 found1 xs) (sym found-is)
      (finds-taken round none far1 found1 x
      (λ e. taken (at ∙ get_or_default far1 x v 0 inside ∙ e)))))

-- the next list, by whether an item is in the list of another
pub finds-next_list : (in-list : ℕ → ℕ → Bool) (list : List ℕ) (last : List ℕ) (i round none : ℕ)
    (far far1 far2 found found1 found2 : List ℕ)
    → i < length last → (round ≡ none → ⊥) → ((z : ℕ) → has list z ≡ in-list (get_or last i 0) z)
    → Finds (λ x. list_any (λ y. in-list y x) (take i last)) round none far far1 found found1
    → Finds (has list) round none far1 far2 found1 found2
    → Finds (λ x. list_any (λ y. in-list y x) (take (i + 1) last)) round none far far2 found found2
finds-next_list in-list list last i round none far far1 far2 found found1 found2 low ne is finds
    next
    =
    finds-both (λ x. list_any (λ y. in-list y x) (take i last)) (has list)
    (λ x. list_any (λ y. in-list y x) (take (i + 1) last)) round none far far1 far2 found found1
    found2 (λ z. list_any_more (λ y. in-list y z) last i 0 low
    ∙ ap (λ b. list_any (λ y. in-list y z) (take i last) || b) (sym (is z))) ne finds next
