-- The tree of entries whose keys rise.
use Rattle.std.proofs.Common.{◌≡◌, refl, sym, ap, subst, ◌∙◌, ◌⊎◌, inl, inr, ℕ, zero, suc, ◌<◌, ◌≤◌}
use Rattle.std.proofs.Common.{true, false, cond, ◌==◌, List, [], ◌∷◌, ◌++◌, length, drop, arith}
use Rattle.std.proofs.Common.{append_assoc}
use Rattle.std.proofs.Math.ListN.{length-drop}
use Rattle.std.proofs.lemmas.Bool.{eqb-true}
use Rattle.std.proofs.lemmas.Cmp.{ranked}
use Rattle.std.proofs.lemmas.List.{append-nil}
use Rattle.std.specs.Cmp.{nat_cmp_is}
use Rattle.std.specs.Cmp.Lexicographic.{slice_cmp}
use Rattle.std.specs.List.{AllByRecursion}
use Rattle.std.specs.Ordering.{nat_cmp, ordering_then}
use Rattle.std.specs.declared.cmp.Ordering.{Ordering}
use Rattle.std.specs.declared.cmp.Ordering.TheVariants.{Less, Equal, Greater}
use Rattle.index_format.specs.Map.{Value}
use Rattle.index_format.specs.Tree.{Entry, Forest, Branch, common, narrowed, common_prefix, cut}
use Rattle.index_format.specs.Tree.{ending, grouped, groups, siblings, nodes_below, longest, Above}
use Rattle.index_format.specs.Tree.{Rises}

abbrev pub R : List ℕ → List ℕ → Ordering
R = slice_cmp nat_cmp

-- ---- the order of keys

equal_here : (c : ℕ) → nat_cmp c c ≡ Equal
equal_here c = sym (nat_cmp_is c c Equal refl)

pub same_byte : (c : ℕ) (x y : List ℕ) → R (c ∷ x) (c ∷ y) ≡ R x y
same_byte c x y = ap (λ o. ordering_then o (R x y)) (equal_here c)

pub same_front : (p x y : List ℕ) → R (p ++ x) (p ++ y) ≡ R x y
same_front [] x y = refl
same_front (c ∷ p) x y = same_byte c (p ++ x) (p ++ y) ∙ same_front p x y

abbrev is_below : Ordering → Type 0
is_below Less = Unit {0}
is_below Equal = ⊥
is_below Greater = ⊥

pub first_less : (c d : ℕ) (x y : List ℕ) → R (c ∷ x) (d ∷ y) ≡ Less
    → (c < d) ⊎ ((c ≡ d) × (R x y ≡ Less))
first_less c d x y h =
    elim (nat_cmp c d) as
    (λ o. o ≡ nat_cmp c d → ordering_then o (R x y) ≡ Less
    → (c < d) ⊎ ((c ≡ d) × (R x y ≡ Less))) [
      | Less ↦ λ e g. inl (ranked c d Less e)
      | Equal ↦ λ e g. inr (ranked c d Equal e, g)
      | Greater ↦ λ e g. absurd (subst is_below (sym g) tt)
    ] refl h

pub goes_on : (x k : List ℕ) → R x k ≡ Less → 0 < length k
goes_on [] [] h = absurd (subst is_below (sym h) tt)
goes_on (c ∷ x) [] h = absurd (subst is_below (sym h) tt)
goes_on [] (d ∷ k) h = omega arith
goes_on (c ∷ x) (d ∷ k) h = omega arith

pub Above-goes_on : (x : List ℕ) (es : List Entry) → Above x es
    → AllByRecursion (λ e. 0 < length e.0) es
Above-goes_on x [] h = tt
Above-goes_on x (e ∷ es) h = (goes_on x e.0 h.0, Above-goes_on x es h.1)

-- ---- what keys have in common

-- the key begins with the prefix
abbrev pub Front : List ℕ → List ℕ → Type 0
Front p k = (r : List ℕ) × (k ≡ p ++ r)

Front-trans : (p q k : List ℕ) → Front p q → Front q k → Front p k
Front-trans p q k a b = (a.0 ++ b.0, b.1 ∙ ap (λ x. x ++ b.0) a.1 ∙ append_assoc p a.0 b.0)

Front-cons : (x y : ℕ) (p k : List ℕ) → x ≡ y → Front p k → Front (x ∷ p) (y ∷ k)
Front-cons x y p k e f = (f.0, λ i. sym e i ∷ f.1 i)

common-left : (a b : List ℕ) → Front (common a b) a
common-left [] b = ([], refl)
common-left (x ∷ a) [] = (x ∷ a, refl)
common-left (x ∷ a) (y ∷ b) =
    elim (x == y) as (λ t. Front (cond t (x ∷ common a b) []) (x ∷ a)) [
      | true ↦ Front-cons x x _ _ refl (common-left a b)
      | false ↦ (x ∷ a, refl)
    ]

common-right : (a b : List ℕ) → Front (common a b) b
common-right [] b = (b, refl)
common-right (x ∷ a) [] = ([], refl)
common-right (x ∷ a) (y ∷ b) =
    elim (x == y) as (λ t. (x == y) ≡ t → Front (cond t (x ∷ common a b) []) (y ∷ b)) [
      | true ↦ λ e. Front-cons x y _ _ (eqb-true x y e) (common-right a b)
      | false ↦ λ e. (y ∷ b, refl)
    ] refl

abbrev pub AllFront : List ℕ → List Entry → Type 0
AllFront p es = AllByRecursion (λ e. Front p e.0) es

narrowed-front : (p : List ℕ) (es : List Entry)
    → Front (narrowed p es) p × AllFront (narrowed p es) es
narrowed-front p [] = (([], sym (append-nil p)), tt)
narrowed-front p (e ∷ es) =
    let n = narrowed (common p e.0) es in
    let rest = narrowed-front (common p e.0) es in (
      Front-trans n (common p e.0) p rest.0 (common-left p e.0),
      (Front-trans n (common p e.0) e.0 rest.0 (common-right p e.0), rest.1),
    )

pub common_prefix-front : (es : List Entry) → AllFront (common_prefix es) es
common_prefix-front [] = tt
common_prefix-front (e ∷ es) = narrowed-front e.0 es

pub drop_front : (p r : List ℕ) → drop (length p) (p ++ r) ≡ r
drop_front [] r = refl
drop_front (c ∷ p) r = drop_front p r

pub Front-drop : (p k : List ℕ) → Front p k → k ≡ p ++ drop (length p) k
Front-drop p k f = f.1 ∙ ap (λ r. p ++ r) (sym (ap (drop (length p)) f.1 ∙ drop_front p f.0))

less_behind : (p x y : List ℕ) → Front p x → Front p y → R x y ≡ Less
    → R (drop (length p) x) (drop (length p) y) ≡ Less
less_behind p x y f g h =
    sym (same_front p (drop (length p) x) (drop (length p) y))
    ∙ (λ i. R (sym (Front-drop p x f) i) (sym (Front-drop p y g) i))
    ∙ h

Above-cut : (p k : List ℕ) (es : List Entry) → Front p k → AllFront p es → Above k es
    → Above (drop (length p) k) (cut (length p) es)
Above-cut p k [] f g h = tt
Above-cut p k (e ∷ es) f g h = (less_behind p k e.0 f g.0 h.0, Above-cut p k es f g.1 h.1)

pub Rises-cut : (p : List ℕ) (es : List Entry) → AllFront p es → Rises es
    → Rises (cut (length p) es)
Rises-cut p [] f h = tt
Rises-cut p (e ∷ es) f h = (Above-cut p e.0 es f.0 f.1 h.0, Rises-cut p es f.1 h.1)

-- ---- groups

abbrev Groups : Type 0
Groups = List (ℕ × List Entry)

-- the first group is for a later byte, or for the same one, with later keys
abbrev FirstAbove : ℕ → List ℕ → Groups → Type 0
FirstAbove c k [] = Unit {0}
FirstAbove c k ((d, fs) ∷ gs) = (c < d) ⊎ ((c ≡ d) × Above k fs)

one_above : (c d : ℕ) (k j : List ℕ) (w : List Value) (gs : Groups)
    → (c < d) ⊎ ((c ≡ d) × (R k j ≡ Less)) → FirstAbove c k ((d, (j, w) ∷ []) ∷ gs)
one_above c d k j w gs (inl lt) = inl lt
one_above c d k j w gs (inr (e, l)) = inr (e, (l, tt))

more_above : (c d b : ℕ) (k j : List ℕ) (w : List Value) (fs : List Entry) (gs : Groups) → d ≡ b
    → (c < d) ⊎ ((c ≡ d) × (R k j ≡ Less)) → (c < b) ⊎ ((c ≡ b) × Above k fs)
    → FirstAbove c k ((b, (j, w) ∷ fs) ∷ gs)
more_above c d b k j w fs gs e (inl lt) rest = inl (omega (arith, lt, e))
more_above c d b k j w fs gs e (inr (same, l)) (inl lt) = inl lt
more_above c d b k j w fs gs e (inr (same, l)) (inr (also, above)) = inr (also, (l, above))

grouped-above : (c d : ℕ) (k j : List ℕ) (w : List Value) (gs : Groups)
    → (c < d) ⊎ ((c ≡ d) × (R k j ≡ Less)) → FirstAbove c k gs
    → FirstAbove c k (grouped d (j, w) gs)
grouped-above c d k j w [] less rest = one_above c d k j w [] less
grouped-above c d k j w ((b, fs) ∷ gs) less rest =
    elim (d == b) as
    (λ t. (d == b) ≡ t
    → FirstAbove c k (cond t ((b, (j, w) ∷ fs) ∷ gs) ((d, (j, w) ∷ []) ∷ (b, fs) ∷ gs))) [
      | true ↦ λ e. more_above c d b k j w fs gs (eqb-true d b e) less rest
      | false ↦ λ e. one_above c d k j w ((b, fs) ∷ gs) less
    ] refl

pub groups-above : (c : ℕ) (k : List ℕ) (es : List Entry) → Above (c ∷ k) es
    → FirstAbove c k (groups es)
groups-above c k [] h = tt
groups-above c k (([], v) ∷ es) h = absurd (subst is_below (sym h.0) tt)
groups-above c k ((d ∷ j, w) ∷ es) h =
    grouped-above c d k j w (groups es) (first_less c d k j h.0) (groups-above c k es h.1)

above_same : (d b : ℕ) (j : List ℕ) (fs : List Entry) → d ≡ b → (d < b) ⊎ ((d ≡ b) × Above j fs)
    → Above j fs
above_same d b j fs e (inl lt) = absurd (omega (arith, e, lt))
above_same d b j fs e (inr both) = both.1

grouped-rise : (d : ℕ) (j : List ℕ) (w : List Value) (gs : Groups) → FirstAbove d j gs
    → AllByRecursion (λ g. Rises g.1) gs → AllByRecursion (λ g. Rises g.1) (grouped d (j, w) gs)
grouped-rise d j w [] above h = ((tt, tt), tt)
grouped-rise d j w ((b, fs) ∷ gs) above h =
    elim (d == b) as
    (λ t. (d == b) ≡ t
    → AllByRecursion (λ g. Rises g.1)
    (cond t ((b, (j, w) ∷ fs) ∷ gs) ((d, (j, w) ∷ []) ∷ (b, fs) ∷ gs))) [
      | true ↦ λ e. ((above_same d b j fs (eqb-true d b e) above, h.0), h.1)
      | false ↦ λ e. ((tt, tt), h)
    ] refl

pub groups-rise : (es : List Entry) → Rises es → AllByRecursion (λ g. Rises g.1) (groups es)
groups-rise [] h = tt
groups-rise (([], v) ∷ es) h = groups-rise es h.1
groups-rise ((d ∷ j, w) ∷ es) h =
    grouped-rise d j w (groups es) (groups-above d j es h.0) (groups-rise es h.1)

-- ---- depth

abbrev pub Within : ℕ → List Entry → Type 0
Within n es = AllByRecursion (λ e. length e.0 ≤ n) es

pub Within-more : (m n : ℕ) (es : List Entry) → m ≤ n → Within m es → Within n es
Within-more m n [] le h = tt
Within-more m n (e ∷ es) le h = (omega (arith, h.0, le), Within-more m n es le h.1)

pub Within-longest : (es : List Entry) → Within (longest es) es
Within-longest [] = tt
Within-longest (e ∷ es) =
    (omega arith, Within-more (longest es) (longest (e ∷ es)) es (omega arith) (Within-longest es))

pub Within-cut : (m n : ℕ) (es : List Entry) → Within n es → Within n (cut m es)
Within-cut m n [] h = tt
Within-cut m n (e ∷ es) h = (omega (arith, h.0, length-drop m e.0), Within-cut m n es h.1)

grouped-within : (n d : ℕ) (j : List ℕ) (w : List Value) (gs : Groups) → length j ≤ n
    → AllByRecursion (λ g. Within n g.1) gs
    → AllByRecursion (λ g. Within n g.1) (grouped d (j, w) gs)
grouped-within n d j w [] le h = ((le, tt), tt)
grouped-within n d j w ((b, fs) ∷ gs) le h =
    elim (d == b) as
    (λ t. AllByRecursion (λ g. Within n g.1)
    (cond t ((b, (j, w) ∷ fs) ∷ gs) ((d, (j, w) ∷ []) ∷ (b, fs) ∷ gs))) [
      | true ↦ ((le, h.0), h.1)
      | false ↦ ((le, tt), h)
    ]

pub groups-within : (n : ℕ) (es : List Entry) → Within (suc n) es
    → AllByRecursion (λ g. Within n g.1) (groups es)
groups-within n [] h = tt
groups-within n (([], v) ∷ es) h = groups-within n es h.1
groups-within n ((d ∷ j, w) ∷ es) h =
    grouped-within n d j w (groups es) (omega (arith, h.0)) (groups-within n es h.1)

pub groups-ended : (es : List Entry) → Within 0 es → groups es ≡ []
groups-ended [] h = refl
groups-ended (([], v) ∷ es) h = groups-ended es h.1
groups-ended ((d ∷ j, w) ∷ es) h = absurd (omega (arith, h.0))

abbrev pub behind : List Entry → List Entry
behind es = cut (length (common_prefix es)) es

siblings-same : (f g : List Entry → Forest) (gs : Groups)
    → AllByRecursion (λ e. f (behind e.1) ≡ g (behind e.1)) gs → siblings f gs ≡ siblings g gs
siblings-same f g [] h = refl
siblings-same f g ((byte, es) ∷ gs) h =
    λ i. Branch byte (common_prefix es) (ending (behind es)) (h.0 i) (siblings-same f g gs h.1 i)

all_weaker : {X : Type 0} (P Q : X → Type 0) → ((x : X) → P x → Q x) → (xs : List X)
    → AllByRecursion P xs → AllByRecursion Q xs
all_weaker P Q f [] h = tt
all_weaker P Q f (x ∷ xs) h = (f x h.0, all_weaker P Q f xs h.1)

-- more depth changes nothing where no key is longer
pub nodes_below-suc : (n : ℕ) (es : List Entry) → Within n es
    → nodes_below (suc n) es ≡ nodes_below n es
unfolding nodes_below
nodes_below-suc zero es h = ap (siblings (nodes_below zero)) (groups-ended es h)
nodes_below-suc (suc n) es h =
    siblings-same (nodes_below (suc n)) (nodes_below n) (groups es)
    (all_weaker (λ g. Within n g.1)
    (λ g. nodes_below (suc n) (behind g.1) ≡ nodes_below n (behind g.1))
    (λ g w. nodes_below-suc n (behind g.1) (Within-cut (length (common_prefix g.1)) n g.1 w))
    (groups es) (groups-within n es h))

-- the nodes below a node by the groups of its entries, at the same depth
pub nodes_below-groups : (n : ℕ) (es : List Entry) → Within n es
    → nodes_below n es ≡ siblings (nodes_below n) (groups es)
unfolding nodes_below
nodes_below-groups n es h = sym (nodes_below-suc n es h)
