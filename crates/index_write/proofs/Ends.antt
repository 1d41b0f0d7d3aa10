-- The longest prefix that is common to keys that rise is common to the first and the last of them.
use Rattle.std.proofs.Common.{◌≡◌, refl, sym, ap, ◌∙◌, ◌⊎◌, inl, inr, ℕ, ◌-◌, ◌<◌, cond, ◌==◌, List}
use Rattle.std.proofs.Common.{[], ◌∷◌, length, drop, Some, slice_get, arith}
use Rattle.std.proofs.lemmas.Bool.{eq-eqb, ne_eqb, lt-ltb}
use Rattle.std.specs.Ordering.{ordering_then}
use Rattle.std.specs.declared.cmp.Ordering.TheVariants.{Less, Equal, Greater}
use Rattle.index_format.specs.Tree.{Entry, common, narrowed, common_prefix, Above, Rises}
use Rattle.index_format.proofs.TreeLemmas.{R, same_byte, goes_on, first_less}
use Rattle.index_write.specs.declared.node.KeyEntry.{KeyEntry}
use Rattle.index_write.specs.Groups.{at_depth}
use Rattle.index_write.proofs.NodeLemmas.{same_one, none_there}

common-apart : (x y : ℕ) (a b : List ℕ) → (x ≡ y → ⊥) → common (x ∷ a) (y ∷ b) ≡ []
common-apart x y a b h = ap (λ t. cond t (x ∷ common a b) []) (ne_eqb x y h)

common-same : (x y : ℕ) (a b : List ℕ) → x ≡ y → common (x ∷ a) (y ∷ b) ≡ x ∷ common a b
common-same x y a b h = ap (λ t. cond t (x ∷ common a b) []) (eq-eqb x y h)

common-self : (a : List ℕ) → common a a ≡ a
common-self [] = refl
common-self (x ∷ a) = common-same x x a a refl ∙ ap (λ r. x ∷ r) (common-self a)

less_first : (x z : ℕ) (a f : List ℕ) → x < z → R (x ∷ a) (z ∷ f) ≡ Less
less_first x z a f h =
    ap (λ t. ordering_then (cond t Less (cond (x == z) Equal Greater)) (R a f)) (lt-ltb x z h)

-- what a has in common with k, and then with f, where k is between them
abbrev Squeezed : List ℕ → List ℕ → List ℕ → Type 0
Squeezed a k f = (common (common a k) f ≡ common a f) × (R a f ≡ Less)

squeezed_low : (x y z : ℕ) (a k f : List ℕ) → x < y → x < z → Squeezed (x ∷ a) (y ∷ k) (z ∷ f)
squeezed_low x y z a k f lt lz =
    let apart : common (x ∷ a) (y ∷ k) ≡ [] = common-apart x y a k (λ e. omega (arith, e, lt)) in
    let away : common (x ∷ a) (z ∷ f) ≡ [] = common-apart x z a f (λ e. omega (arith, e, lz)) in
    (ap (λ c. common c (z ∷ f)) apart ∙ sym away, less_first x z a f lz)

squeezed_high : (x y z : ℕ) (a k f : List ℕ) → x ≡ y → y < z → Squeezed (x ∷ a) (y ∷ k) (z ∷ f)
squeezed_high x y z a k f e lt =
    let away : x ≡ z → ⊥ = λ q. omega (arith, q, e, lt) in (
      ap (λ c. common c (z ∷ f)) (common-same x y a k e) ∙ common-apart x z (common a k) f away
          ∙ sym (common-apart x z a f away),
      less_first x z a f (omega (arith, e, lt)),
    )

squeezed_same : (x y z : ℕ) (a k f : List ℕ) → x ≡ y → y ≡ z → Squeezed a k f
    → Squeezed (x ∷ a) (y ∷ k) (z ∷ f)
squeezed_same x y z a k f e g s = (
  ap (λ c. common c (z ∷ f)) (common-same x y a k e) ∙ common-same x z (common a k) f (e ∙ g)
      ∙ ap (λ r. x ∷ r) s.0 ∙ sym (common-same x z a f (e ∙ g)),
  ap (λ c. R (x ∷ a) (c ∷ f)) (sym (e ∙ g)) ∙ same_byte x a f ∙ s.1,
)

squeezed : (a k f : List ℕ) → R a k ≡ Less → R k f ≡ Less → Squeezed a k f
squeezed a k [] h g = absurd (omega (arith, goes_on k [] g))
squeezed [] k (z ∷ f) h g = (refl, refl)
squeezed (x ∷ a) [] (z ∷ f) h g = absurd (omega (arith, goes_on (x ∷ a) [] h))
squeezed (x ∷ a) (y ∷ k) (z ∷ f) h g =
    elim (first_less x y a k h) as (λ _. Squeezed (x ∷ a) (y ∷ k) (z ∷ f)) [
      | inl lt ↦ elim (first_less y z k f g) as (λ _. Squeezed (x ∷ a) (y ∷ k) (z ∷ f)) [
        | inl lz ↦ squeezed_low x y z a k f lt (omega (arith, lt, lz))
        | inr e ↦ squeezed_low x y z a k f lt (omega (arith, lt, e.0))
      ]
      | inr e ↦ elim (first_less y z k f g) as (λ _. Squeezed (x ∷ a) (y ∷ k) (z ∷ f)) [
        | inl lz ↦ squeezed_high x y z a k f e.0 lz
        | inr g ↦ squeezed_same x y z a k f e.0 g.0 (squeezed a k f e.1 g.1)
      ]
    ]

-- the same where k may be a itself
squeezed_from : (a k f : List ℕ) → (a ≡ k) ⊎ (R a k ≡ Less) → R k f ≡ Less → Squeezed a k f
squeezed_from a k f (inl e) g =
    (ap (λ c. common c f) (ap (common a) (sym e) ∙ common-self a), ap (λ c. R c f) e ∙ g)
squeezed_from a k f (inr h) g = squeezed a k f h g

last_key : List ℕ → List Entry → List ℕ
last_key k [] = k
last_key k (e ∷ es) = last_key e.0 es

narrowed-ends : (a k : List ℕ) (es : List Entry) → (a ≡ k) ⊎ (R a k ≡ Less) → Above k es → Rises es
    → narrowed (common a k) es ≡ common a (last_key k es)
unfolding last_key
narrowed-ends a k [] h above rises = refl
narrowed-ends a k (f ∷ fs) h above rises =
    let s = squeezed_from a k f.0 h above.0 in
    ap (λ p. narrowed p fs) s.0 ∙ narrowed-ends a f.0 fs (inr s.1) rises.0 rises.1

-- the last of the entries at a depth
last-place : (d : ℕ) (e : KeyEntry) (es : List KeyEntry) (last : KeyEntry)
    → slice_get (e ∷ es) (length es) ≡ Some last
    → last_key (drop d e.key.now) (at_depth d es) ≡ drop d last.key.now
unfolding last_key
last-place d e [] last is = ap (λ x. drop d x.key.now) (same_one e last is)
last-place d e (f ∷ es) last is = last-place d f es last is

pub ends_prefix : (d : ℕ) (es : List KeyEntry) (first last : KeyEntry) → slice_get es 0 ≡ Some first
    → slice_get es (length es - 1) ≡ Some last → Rises (at_depth d es)
    → common (drop d first.key.now) (drop d last.key.now) ≡ common_prefix (at_depth d es)
ends_prefix d [] first last is at rises = absurd (none_there first is)
ends_prefix d (e ∷ es) first last is at rises =
    let place : length (e ∷ es) - 1 ≡ length es = omega arith in
    let key = drop d e.key.now in
    ap (λ x. common (drop d x.key.now) (drop d last.key.now)) (sym (same_one e first is))
    ∙ ap (common key) (sym (last-place d e es last (ap (slice_get (e ∷ es)) (sym place) ∙ at)))
    ∙ sym (narrowed-ends key key (at_depth d es) (inl refl) rises.0 rises.1)
    ∙ ap (λ p. narrowed p (at_depth d es)) (common-self key)
