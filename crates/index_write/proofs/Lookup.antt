-- The walks of keys through the nodes that were written.
use Rattle.std.proofs.Common.{◌≡◌, refl, sym, ap, subst, ◌∙◌, ◌⊎◌, inl, inr, ⊎_elim, ℕ, ◌<◌, Bool}
use Rattle.std.proofs.Common.{true, false, cond, ◌==◌, ◌&&◌, nat_eq, List, [], ◌∷◌, ◌++◌, length}
use Rattle.std.proofs.Common.{drop, Option, Some, None, unwrap_or, arith}
use Rattle.std.proofs.lemmas.Bool.{eqb-true, eq-eqb}
use Rattle.std.proofs.lemmas.Bool.Decides.{eqb_tells}
use Rattle.std.specs.FinMap.{find, nat_cmp-IsAntisymmetric, slice_cmp-IsAntisymmetric}
use Rattle.std.specs.List.{AllByRecursion, starts_with}
use Rattle.std.specs.Ordering.{is_eq}
use Rattle.std.specs.declared.cmp.Ordering.{Ordering}
use Rattle.std.specs.declared.cmp.Ordering.TheVariants.{Less, Equal, Greater}
use Rattle.index_format.specs.Map.{Value}
use Rattle.index_format.specs.Tree.{Entry, cut, ending, grouped, groups, Above, Rises}
use Rattle.index_format.proofs.TreeLemmas.{R, same_byte, same_front, Above-goes_on, AllFront}
use Rattle.index_format.proofs.TreeLemmas.{Front-drop, groups-above}
use Rattle.index_write.specs.Lists.{found}

-- ---- keys among entries

abbrev is_less : Ordering → Type 0
is_less Less = Unit {0}
is_less Equal = ⊥
is_less Greater = ⊥

less_not_eq : (o : Ordering) → o ≡ Less → is_eq o ≡ false
less_not_eq o e = ap is_eq e

-- the empty key isn't among keys that go on
no_empty : (es : List Entry) → AllByRecursion (λ e. 0 < length e.0) es → find R [] es ≡ None
no_empty [] h = refl
no_empty (([], v) ∷ es) h = absurd (omega (arith, h.0))
no_empty ((c ∷ k, v) ∷ es) h = no_empty es h.1

pub found-ending : (es : List Entry) → Rises es → found es [] ≡ ending es
found-ending [] h = refl
found-ending (([], v) ∷ es) h = refl
found-ending ((c ∷ k, v) ∷ es) h =
    ap (λ o. unwrap_or o []) (no_empty es (Above-goes_on (c ∷ k) es h.0))

cons_same : (p k : List ℕ) (x : ℕ) → (e : List ℕ) → e ≡ p ++ drop (length p) e
    → R (p ++ k) e ≡ R k (drop (length p) e)
cons_same p k x e h = ap (R (p ++ k)) h ∙ same_front p k (drop (length p) e)

pub found-behind : (p k : List ℕ) (es : List Entry) → AllFront p es
    → found es (p ++ k) ≡ found (cut (length p) es) k
found-behind p k es h = ap (λ o. unwrap_or o []) (finds es h)
  where
    finds : (es : List Entry) → AllFront p es → find R (p ++ k) es ≡ find R k (cut (length p) es)
    finds [] h = refl
    finds (e ∷ es) h
        = λ i. cond (is_eq
        ((ap (R (p ++ k)) (Front-drop p e.0 h.0) ∙ same_front p k (drop (length p) e.0)) i))
        (Some e.1) (finds es h.1 i)

-- ---- whether a key begins with a prefix

pub starts_front : (p k : List ℕ) → starts_with nat_eq (p ++ k) p ≡ true
starts_front [] k = refl
starts_front (c ∷ p) k =
    ap (λ b. b && starts_with nat_eq (p ++ k) p) (eq-eqb c c refl) ∙ starts_front p k

pub starts_back : (p key : List ℕ) → starts_with nat_eq key p ≡ true
    → key ≡ p ++ drop (length p) key
starts_back [] key h = refl
starts_back (c ∷ p) [] h = absurd (cc)
starts_back (c ∷ p) (d ∷ key) h =
    elim (nat_eq c d) as
    (λ t. nat_eq c d ≡ t → (t && starts_with nat_eq key p) ≡ true
    → d ∷ key ≡ c ∷ (p ++ drop (length p) key)) [
      | true ↦ λ e g. λ i. sym (eqb-true c d e) i ∷ starts_back p key g i
      | false ↦ λ e g. absurd (cc)
    ] refl h

same_key : (x y : List ℕ) → R x y ≡ Equal → x ≡ y
same_key = slice_cmp-IsAntisymmetric nat_cmp-IsAntisymmetric

pub true_false : true ≡ false → ⊥
true_false e = cc

pub found-other : (p key : List ℕ) (es : List Entry) → AllFront p es
    → starts_with nat_eq key p ≡ false → found es key ≡ []
found-other p key es h out = ap (λ o. unwrap_or o []) (none es h)
  where
    none : (es : List Entry) → AllFront p es → find R key es ≡ None
    none [] h = refl
    none (e ∷ es) h =
        elim (R key e.0) as (λ o. R key e.0 ≡ o
        → cond (is_eq o) (Some e.1) (find R key es) ≡ None) [
          | Less ↦ λ q. none es h.1
          | Equal ↦ λ q. absurd
              (true_false (sym (ap (λ k. starts_with nat_eq k p) (same_key key e.0 q ∙ h.0.1)
              ∙ starts_front p h.0.0)
              ∙ out))
          | Greater ↦ λ q. none es h.1
        ] refl

-- ---- the groups of entries

abbrev Groups : Type 0
Groups = List (ℕ × List Entry)

-- whether there is a group for a byte, and its entries
abbrev pub has : ℕ → Groups → Bool
has c [] = false
has c ((d, es) ∷ gs) = cond (d == c) true (has c gs)

abbrev pub group_for : ℕ → Groups → List Entry
group_for c [] = []
group_for c ((d, es) ∷ gs) = cond (d == c) es (group_for c gs)

abbrev pub AllAbove : ℕ → Groups → Type 0
AllAbove c gs = AllByRecursion (λ g. c < g.0) gs

abbrev pub BytesRise : Groups → Type 0
BytesRise [] = Unit {0}
BytesRise ((b, es) ∷ gs) = AllAbove b gs × BytesRise gs

above_more : (c d : ℕ) (gs : Groups) → c < d → AllAbove d gs → AllAbove c gs
above_more c d [] lt h = tt
above_more c d (g ∷ gs) lt h = (omega (arith, lt, h.0), above_more c d gs lt h.1)

ne_test : (a b : ℕ) → (a ≡ b → ⊥) → (a == b) ≡ false
ne_test a b h = ⊎_elim (λ p. absurd (h p.1)) (λ p. p.0) (eqb_tells a b)

none_above : (c : ℕ) (gs : Groups) → AllAbove c gs → group_for c gs ≡ []
none_above c [] h = refl
none_above c ((d, es) ∷ gs) h =
    ap (λ t. cond t es (group_for c gs)) (ne_test d c (λ e. omega (arith, e, h.0)))
    ∙ none_above c gs h.1

pub no_group : (c : ℕ) (gs : Groups) → has c gs ≡ false → group_for c gs ≡ []
no_group c [] h = refl
no_group c ((d, es) ∷ gs) h =
    elim (d == c) as (λ t. cond t true (has c gs) ≡ false → cond t es (group_for c gs) ≡ []) [
      | true ↦ λ g. absurd (true_false g)
      | false ↦ λ g. no_group c gs g
    ] h

-- the byte d with the key j is below the first group, or is its byte
abbrev Comes : ℕ → List ℕ → Groups → Type 0
Comes d j [] = Unit {0}
Comes d j ((b, fs) ∷ gs) = (d < b) ⊎ ((d ≡ b) × Above j fs)

comes : (d : ℕ) (j : List ℕ) (es : List Entry) → Above (d ∷ j) es → Comes d j (groups es)
comes d j es h = at (groups es) (groups-above d j es h)
  where
    at : (gs : Groups) → Comes d j gs → Comes d j gs
    at gs h = h

above_unless : (d b : ℕ) (j : List ℕ) (fs : List Entry) (gs : Groups) → (d == b) ≡ false
    → (d < b) ⊎ ((d ≡ b) × Above j fs) → AllAbove b gs → AllAbove d ((b, fs) ∷ gs)
above_unless d b j fs gs other (inl lt) h = (lt, above_more d b gs lt h)
above_unless d b j fs gs other (inr both) h = absurd (true_false (sym (eq-eqb d b both.0) ∙ other))

grouped-bytes : (d : ℕ) (j : List ℕ) (w : List Value) (gs : Groups) → Comes d j gs → BytesRise gs
    → BytesRise (grouped d (j, w) gs)
grouped-bytes d j w [] a h = (tt, tt)
grouped-bytes d j w ((b, fs) ∷ gs) a h =
    elim (d == b) as
    (λ t. (d == b) ≡ t
    → BytesRise (cond t ((b, (j, w) ∷ fs) ∷ gs) ((d, (j, w) ∷ []) ∷ (b, fs) ∷ gs))) [
      | true ↦ λ same. h
      | false ↦ λ other. (above_unless d b j fs gs other a h.0, h)
    ] refl

pub groups-bytes : (es : List Entry) → Rises es → BytesRise (groups es)
groups-bytes [] h = tt
groups-bytes (([], v) ∷ es) h = groups-bytes es h.1
groups-bytes ((d ∷ j, w) ∷ es) h =
    grouped-bytes d j w (groups es) (comes d j es h.0) (groups-bytes es h.1)

-- ---- a key among groups

pick : (w : List Value) (t : Bool) (x y : Option (List Value)) → unwrap_or x [] ≡ unwrap_or y []
    → unwrap_or (cond t (Some w) x) [] ≡ unwrap_or (cond t (Some w) y) []
pick w true x y e = refl
pick w false x y e = e

-- the first entry, where its byte is the key's
module _ (c d : ℕ) (k j : List ℕ) (w : List Value) (same : d ≡ c) where
  ties : is_eq (R (c ∷ k) (d ∷ j)) ≡ is_eq (R k j)
  ties = ap is_eq (ap (λ x. R (c ∷ k) (x ∷ j)) same ∙ same_byte c k j)

  first_here : (es : List Entry) (gs : Groups) → Comes d j gs → BytesRise gs
      → found es (c ∷ k) ≡ found (group_for c gs) k
      → found ((d ∷ j, w) ∷ es) (c ∷ k) ≡ found (group_for c (grouped d (j, w) gs)) k
  first_here es [] a h e =
      ap (λ t. unwrap_or (cond t (Some w) (find R (c ∷ k) es)) []) ties
      ∙ pick w (is_eq (R k j)) (find R (c ∷ k) es) None e
      ∙ ap (λ t. found (cond t ((j, w) ∷ []) []) k) (sym (eq-eqb d c same))
  first_here es ((b, fs) ∷ gs) a h e =
      ap (λ t. unwrap_or (cond t (Some w) (find R (c ∷ k) es)) []) ties
      ∙ elim (d == b) as
      (λ t. (d == b) ≡ t
      → unwrap_or (cond (is_eq (R k j)) (Some w) (find R (c ∷ k) es)) []
      ≡ found (group_for c
      (cond t ((b, (j, w) ∷ fs) ∷ gs) ((d, (j, w) ∷ []) ∷ (b, fs) ∷ gs))) k) [
        | true ↦ λ one.
            let here : (b == c) ≡ true = eq-eqb b c (sym (eqb-true d b one) ∙ same) in
            pick w (is_eq (R k j)) (find R (c ∷ k) es) (find R k fs)
            (e ∙ ap (λ t. found (cond t fs (group_for c gs)) k) here)
            ∙ ap (λ t. found (cond t ((j, w) ∷ fs) (group_for c gs)) k) (sym here)
        | false ↦ λ other.
            let above
            = subst (λ x. AllAbove x ((b, fs) ∷ gs)) same (above_unless d b j fs gs other a h.0)
            in
            pick w (is_eq (R k j)) (find R (c ∷ k) es) None
            (e ∙ ap (λ fs. found fs k) (none_above c ((b, fs) ∷ gs) above))
            ∙ ap (λ t. found (cond t ((j, w) ∷ []) (group_for c ((b, fs) ∷ gs))) k)
            (sym (eq-eqb d c same))
      ] refl

not_tied : (x y : List ℕ) → (x ≡ y → ⊥) → is_eq (R x y) ≡ false
not_tied x y h =
    elim (R x y) as (λ o. R x y ≡ o → is_eq o ≡ false) [
      | Less ↦ λ q. refl
      | Equal ↦ λ q. absurd (h (same_key x y q))
      | Greater ↦ λ q. refl
    ] refl

head_of : List ℕ → ℕ
head_of [] = 0
head_of (c ∷ k) = c

heads : (c d : ℕ) (k j : List ℕ) → c ∷ k ≡ d ∷ j → d ≡ c
unfolding head_of
heads c d k j e = sym (ap head_of e)

other_group : (c d : ℕ) (j : List ℕ) (w : List Value) (gs : Groups) → (d == c) ≡ false
    → group_for c (grouped d (j, w) gs) ≡ group_for c gs
other_group c d j w [] ne = ap (λ t. cond t ((j, w) ∷ []) []) ne
other_group c d j w ((b, fs) ∷ gs) ne =
    elim (d == b) as
    (λ t. (d == b) ≡ t
    → group_for c (cond t ((b, (j, w) ∷ fs) ∷ gs) ((d, (j, w) ∷ []) ∷ (b, fs) ∷ gs))
    ≡ group_for c ((b, fs) ∷ gs)) [
      | true ↦ λ one.
          let apart : (b == c) ≡ false = ap (λ x. x == c) (sym (eqb-true d b one)) ∙ ne in
          ap (λ t. cond t ((j, w) ∷ fs) (group_for c gs)) apart
          ∙ ap (λ t. cond t fs (group_for c gs)) (sym apart)
      | false ↦ λ other. ap (λ t. cond t ((j, w) ∷ []) (group_for c ((b, fs) ∷ gs))) ne
    ] refl

-- a key that goes on is looked up in the group of its byte
pub found-group : (c : ℕ) (k : List ℕ) (es : List Entry) → Rises es
    → found es (c ∷ k) ≡ found (group_for c (groups es)) k
found-group c k [] h = refl
found-group c k (([], v) ∷ es) h = found-group c k es h.1
found-group c k ((d ∷ j, w) ∷ es) h =
    elim (d == c) as
    (λ t. (d == c) ≡ t
    → found ((d ∷ j, w) ∷ es) (c ∷ k)
    ≡ found (group_for c (grouped d (j, w) (groups es))) k) [
      | true ↦ λ e. first_here c d k j w (eqb-true d c e) es (groups es) (comes d j es h.0)
          (groups-bytes es h.1) (found-group c k es h.1)
      | false ↦ λ e.
          ap (λ t. unwrap_or (cond t (Some w) (find R (c ∷ k) es)) [])
          (not_tied (c ∷ k) (d ∷ j) (λ q. true_false (sym (eq-eqb d c (heads c d k j q)) ∙ e)))
          ∙ found-group c k es h.1
          ∙ ap (λ fs. found fs k) (sym (other_group c d j w (groups es) e))
    ] refl
