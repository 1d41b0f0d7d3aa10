-- The keys of an index rise along its nodes, and each key's values are the values of the node with
-- it.
use Rattle.std.proofs.Common.{◌≡◌, refl, sym, ap, ◌∙◌, ⊎_elim, ℕ, zero, suc, ◌+◌, ◌<◌, ◌≤◌, true}
use Rattle.std.proofs.Common.{false, cond, ◌==◌, ◌&&◌, nat_eq, List, [], ◌∷◌, ◌++◌, length, drop}
use Rattle.std.proofs.Common.{flat_map, Option, Some, None, arith, append_assoc}
use Rattle.std.proofs.lemmas.Bool.{cases_eq, eqb-true, eq-eqb, lt-ltb, le-ltb, false_from_ne_true}
use Rattle.std.proofs.lemmas.List.{append-nil, append_cancel_left}
use Rattle.std.specs.List.{AllByRecursion, starts_with}
use Rattle.std.specs.FinMap.{nat_cmp-IsAntisymmetric, slice_cmp-IsAntisymmetric}
use Rattle.std.specs.Ordering.{ordering_then, is_eq}
use Rattle.std.specs.declared.cmp.Ordering.TheVariants.{Less, Equal, Greater}
use Rattle.index_format.specs.Map.{Value}
use Rattle.index_format.specs.Node.{prefix, child, values}
use Rattle.index_format.proofs.TreeLemmas.{R, same_front}
use Rattle.index_read.specs.Keys.{Item, on_child, branches, key_bytes, items}
use Rattle.index_read.proofs.KeyLemmas.{Begins, items-begin}

-- ---- keys in order

less_first : (x z : ℕ) (a f : List ℕ) → x < z → R (x ∷ a) (z ∷ f) ≡ Less
less_first x z a f h =
    ap (λ t. ordering_then (cond t Less (cond (x == z) Equal Greater)) (R a f)) (lt-ltb x z h)

less_longer : (p : List ℕ) (c : ℕ) (r : List ℕ) → R p (p ++ c ∷ r) ≡ Less
less_longer p c r = ap (λ k. R k (p ++ c ∷ r)) (sym (append-nil p)) ∙ same_front p [] (c ∷ r)

less_behind : (p : List ℕ) (x z : ℕ) (a f : List ℕ) → x < z → R (p ++ x ∷ a) (p ++ z ∷ f) ≡ Less
less_behind p x z a f h = same_front p (x ∷ a) (z ∷ f) ∙ less_first x z a f h

abbrev pub AllAfter : List ℕ → List Item → Type 0
AllAfter k is = AllByRecursion (λ item. R k item.0 ≡ Less) is

abbrev pub ItemsRise : List Item → Type 0
ItemsRise [] = Unit {0}
ItemsRise (x ∷ is) = AllAfter x.0 is × ItemsRise is

all_append : {X : Type 0} (P : X → Type 0) (xs ys : List X) → AllByRecursion P xs
    → AllByRecursion P ys → AllByRecursion P (xs ++ ys)
all_append P [] ys h k = k
all_append P (x ∷ xs) ys h k = (h.0, all_append P xs ys h.1 k)

rise_append : (xs ys : List Item) → ItemsRise xs → ItemsRise ys
    → AllByRecursion (λ x. AllAfter x.0 ys) xs → ItemsRise (xs ++ ys)
rise_append [] ys h k cross = k
rise_append (x ∷ xs) ys h k cross =
    (all_append (λ item. R x.0 item.0 ≡ Less) xs ys h.0 cross.0, rise_append xs ys h.1 k cross.1)

-- each key goes on with a byte from this one on
abbrev pub BeginsFrom : List ℕ → ℕ → List Item → Type 0
BeginsFrom p byte is =
    AllByRecursion (λ item. (c : ℕ) × (rest : List ℕ) × (byte ≤ c) × (item.0 ≡ p ++ c ∷ rest)) is

from_begins : (p : List ℕ) (byte : ℕ) (is : List Item) → Begins (p ++ byte ∷ []) is
    → BeginsFrom p byte is
from_begins p byte [] h = tt
from_begins p byte (x ∷ is) h = (
  (byte, h.0.0, omega arith, h.0.1 ∙ append_assoc p (byte ∷ []) h.0.0),
  from_begins p byte is h.1,
)

from_later : (p : List ℕ) (byte : ℕ) (is : List Item) → BeginsFrom p (byte + 1) is
    → BeginsFrom p byte is
from_later p byte [] h = tt
from_later p byte (x ∷ is) h =
    ((h.0.0, h.0.1, omega (arith, h.0.2), h.0.3), from_later p byte is h.1)

from_child : (f : ℕ → List ℕ → List Item) (o : Option ℕ) (p : List ℕ) (byte : ℕ)
    → ((next : ℕ) (under : List ℕ) → Begins under (f next under))
    → BeginsFrom p byte (on_child o (λ next. f next (p ++ byte ∷ [])))
from_child f None p byte h = tt
from_child f (Some next) p byte h = from_begins p byte _ (h next (p ++ byte ∷ []))

pub branches-from : (f : ℕ → List ℕ → List Item) (b : List ℕ) (link : ℕ) (p : List ℕ) (byte n : ℕ)
    → ((next : ℕ) (under : List ℕ) → Begins under (f next under))
    → BeginsFrom p byte (branches f b link p byte n)
unfolding branches
branches-from f b link p byte zero h = tt
branches-from f b link p byte (suc n) h =
    all_append _ (on_child (child b link byte) (λ next. f next (p ++ byte ∷ [])))
    (branches f b link p (byte + 1) n) (from_child f (child b link byte) p byte h)
    (from_later p byte (branches f b link p (byte + 1) n)
    (branches-from f b link p (byte + 1) n h))

after_node : (p : List ℕ) (byte : ℕ) (is : List Item) → BeginsFrom p byte is → AllAfter p is
after_node p byte [] h = tt
after_node p byte (x ∷ is) h =
    (ap (R p) h.0.3 ∙ less_longer p h.0.0 h.0.1, after_node p byte is h.1)

after_byte : (p : List ℕ) (byte : ℕ) (key r : List ℕ) (is : List Item) → key ≡ (p ++ byte ∷ []) ++ r
    → BeginsFrom p (byte + 1) is → AllAfter key is
after_byte p byte key r [] e h = tt
after_byte p byte key r (x ∷ is) e h = (
  (λ i. R ((e ∙ append_assoc p (byte ∷ []) r) i) (h.0.3 i))
      ∙ less_behind p byte h.0.0 r h.0.1 (omega (arith, h.0.2)),
  after_byte p byte key r is e h.1,
)

cross : (p : List ℕ) (byte : ℕ) (xs ys : List Item) → Begins (p ++ byte ∷ []) xs
    → BeginsFrom p (byte + 1) ys → AllByRecursion (λ x. AllAfter x.0 ys) xs
cross p byte [] ys h k = tt
cross p byte (x ∷ xs) ys h k = (after_byte p byte x.0 h.0.0 ys h.0.1 k, cross p byte xs ys h.1 k)

child_begins : (f : ℕ → List ℕ → List Item) (o : Option ℕ) (p : List ℕ) (byte : ℕ)
    → ((next : ℕ) (under : List ℕ) → Begins under (f next under))
    → Begins (p ++ byte ∷ []) (on_child o (λ next. f next (p ++ byte ∷ [])))
child_begins f None p byte h = tt
child_begins f (Some next) p byte h = h next (p ++ byte ∷ [])

child_rises : (f : ℕ → List ℕ → List Item) (o : Option ℕ) (p : List ℕ) (byte : ℕ)
    → ((next : ℕ) (under : List ℕ) → ItemsRise (f next under))
    → ItemsRise (on_child o (λ next. f next (p ++ byte ∷ [])))
child_rises f None p byte h = tt
child_rises f (Some next) p byte h = h next (p ++ byte ∷ [])

branches-rise : (f : ℕ → List ℕ → List Item) (b : List ℕ) (link : ℕ) (p : List ℕ) (byte n : ℕ)
    → ((next : ℕ) (under : List ℕ) → Begins under (f next under))
    → ((next : ℕ) (under : List ℕ) → ItemsRise (f next under))
    → ItemsRise (branches f b link p byte n)
unfolding branches
branches-rise f b link p byte zero h r = tt
branches-rise f b link p byte (suc n) h r =
    let here = on_child (child b link byte) (λ next. f next (p ++ byte ∷ [])) in
    let later = branches f b link p (byte + 1) n in
    rise_append here later (child_rises f (child b link byte) p byte r)
    (branches-rise f b link p (byte + 1) n h r)
    (cross p byte here later (child_begins f (child b link byte) p byte h)
    (branches-from f b link p (byte + 1) n h))

pub items-rise : (b : List ℕ) (d link : ℕ) (key : List ℕ) → ItemsRise (items b d link key)
unfolding items
items-rise b zero link key = tt
items-rise b (suc d) link key =
    let whole = key ++ prefix b link in (
      after_node whole 0 _ (branches-from (items b d) b link whole 0 key_bytes (items-begin b d)),
      branches-rise (items b d) b link whole 0 key_bytes (items-begin b d) (items-rise b d),
    )

-- ---- the values of a key

same_key : (x y : List ℕ) → R x y ≡ Equal → x ≡ y
same_key = slice_cmp-IsAntisymmetric nat_cmp-IsAntisymmetric

pub equal_keys : (x y : List ℕ) → is_eq (R x y) ≡ true → x ≡ y
equal_keys x y h =
    elim (R x y) as (λ o. R x y ≡ o → is_eq o ≡ true → x ≡ y) [
      | Less ↦ λ e g. absurd (cc)
      | Equal ↦ λ e g. same_key x y e
      | Greater ↦ λ e g. absurd (cc)
    ] refl h

pub self_equal : (x : List ℕ) → is_eq (R x x) ≡ true
self_equal [] = refl
self_equal (c ∷ x) =
    ap (λ t. is_eq (ordering_then (cond t Less (cond (c == c) Equal Greater)) (R x x)))
    (le-ltb c c (omega arith))
    ∙ ap (λ t. is_eq (ordering_then (cond t Equal Greater) (R x x))) (eq-eqb c c refl)
    ∙ self_equal x

pub apart_keys : (x y : List ℕ) → (x ≡ y → ⊥) → is_eq (R x y) ≡ false
apart_keys x y h = false_from_ne_true (is_eq (R x y)) (λ e. h (equal_keys x y e))

unfoldable pub sel : List ℕ → List ℕ → List Item → List Value
sel b q is = flat_map (λ item. cond (is_eq (R q item.0)) (values b item.1) []) is

pub sel-append : (b q : List ℕ) (xs ys : List Item) → sel b q (xs ++ ys) ≡ sel b q xs ++ sel b q ys
unfolding sel
sel-append b q [] ys = refl
sel-append b q (x ∷ xs) ys =
    ap (λ r. cond (is_eq (R q x.0)) (values b x.1) [] ++ r) (sel-append b q xs ys)
    ∙ sym (append_assoc (cond (is_eq (R q x.0)) (values b x.1) []) (sel b q xs) (sel b q ys))

pub sel-none : (b q : List ℕ) (is : List Item) → AllByRecursion (λ item. q ≡ item.0 → ⊥) is
    → sel b q is ≡ []
unfolding sel
sel-none b q [] h = refl
sel-none b q (x ∷ is) h =
    ap (λ t. cond t (values b x.1) [] ++ sel b q is) (apart_keys q x.0 h.0) ∙ sel-none b q is h.1

pub all_weaker : {X : Type 0} (P Q : X → Type 0) → ((x : X) → P x → Q x) → (xs : List X)
    → AllByRecursion P xs → AllByRecursion Q xs
all_weaker P Q f [] h = tt
all_weaker P Q f (x ∷ xs) h = (f x h.0, all_weaker P Q f xs h.1)

-- the key goes on with the byte c, and the items with later ones
byte_apart : (p : List ℕ) (c d : ℕ) (t r : List ℕ) → p ++ c ∷ t ≡ p ++ d ∷ r → c ≡ d
byte_apart p c d t r e = let same = append_cancel_left p (c ∷ t) (d ∷ r) e in cc

sel-later : (b p t : List ℕ) (c byte : ℕ) (is : List Item) → c < byte → BeginsFrom p byte is
    → sel b (p ++ c ∷ t) is ≡ []
sel-later b p t c byte is lt h =
    sel-none b (p ++ c ∷ t) is
    (all_weaker _ _
    (λ item from e. omega (arith, lt, from.2, byte_apart p c from.0 t from.1 (e ∙ from.3)))
    is h)

sel-earlier : (b p t : List ℕ) (c byte : ℕ) (is : List Item) → (c ≡ byte → ⊥)
    → Begins (p ++ byte ∷ []) is → sel b (p ++ c ∷ t) is ≡ []
sel-earlier b p t c byte is ne h =
    sel-none b (p ++ c ∷ t) is
    (all_weaker _ _
    (λ item begins e. ne
    (byte_apart p c byte t begins.0
    (e ∙ begins.1 ∙ append_assoc p (byte ∷ []) begins.0))) is h)

-- of the branches only that of the key's byte has the key
pub sel-branches : (f : ℕ → List ℕ → List Item) (b : List ℕ) (link : ℕ) (p t : List ℕ)
    (c byte n : ℕ)
    → ((next : ℕ) (under : List ℕ) → Begins under (f next under)) → byte ≤ c → c < byte + n
    → sel b (p ++ c ∷ t) (branches f b link p byte n)
    ≡ sel b (p ++ c ∷ t) (on_child (child b link c) (λ next. f next (p ++ c ∷ [])))
unfolding branches
sel-branches f b link p t c byte zero h from to = absurd (omega (arith, from, to))
sel-branches f b link p t c byte (suc n) h from to =
    let here = on_child (child b link byte) (λ next. f next (p ++ byte ∷ [])) in
    let later = branches f b link p (byte + 1) n in
    let q = p ++ c ∷ t in
    sel-append b q here later
    ∙ ⊎_elim
    (λ same.
    ap (λ vs. sel b q here ++ vs)
    (sel-later b p t c (byte + 1) later (omega (arith, same))
    (branches-from f b link p (byte + 1) n h))
    ∙ append-nil (sel b q here)
    ∙ ap (λ k. sel b q (on_child (child b link k) (λ next. f next (p ++ k ∷ [])))) same)
    (λ other.
    ap (λ vs. vs ++ sel b q later)
    (sel-earlier b p t c byte here (λ e. other (sym e))
    (child_begins f (child b link byte) p byte h))
    ∙ sel-branches f b link p t c (byte + 1) n h (omega (arith, from, other)) (omega (arith, to)))
    (cases_eq byte c)

-- bytes that lead nowhere
pub sel-outside : (f : ℕ → List ℕ → List Item) (b : List ℕ) (link : ℕ) (p t : List ℕ) (c byte n : ℕ)
    → ((next : ℕ) (under : List ℕ) → Begins under (f next under)) → byte + n ≤ c
    → sel b (p ++ c ∷ t) (branches f b link p byte n) ≡ []
unfolding branches
sel-outside f b link p t c byte zero h out = sel-none b (p ++ c ∷ t) [] tt
sel-outside f b link p t c byte (suc n) h out =
    let here = on_child (child b link byte) (λ next. f next (p ++ byte ∷ [])) in
    let later = branches f b link p (byte + 1) n in
    sel-append b (p ++ c ∷ t) here later
    ∙ ap (λ vs. vs ++ sel b (p ++ c ∷ t) later)
    (sel-earlier b p t c byte here (λ e. omega (arith, e, out))
    (child_begins f (child b link byte) p byte h))
    ∙ sel-outside f b link p t c (byte + 1) n h (omega (arith, out))

pub starts_back : (p key : List ℕ) → starts_with nat_eq key p ≡ true
    → key ≡ p ++ drop (length p) key
starts_back [] key h = refl
starts_back (c ∷ p) [] h = absurd (cc)
starts_back (c ∷ p) (d ∷ key) h =
    elim (nat_eq c d) as
    (λ t. nat_eq c d ≡ t → (t && starts_with nat_eq key p) ≡ true
    → d ∷ key ≡ c ∷ (p ++ drop (length p) key)) [
      | true ↦ λ e g. λ i. sym (eqb-true c d e) i ∷ starts_back p key g i
      | false ↦ λ e g. absurd (cc)
    ] refl h

pub starts_front : (p k : List ℕ) → starts_with nat_eq (p ++ k) p ≡ true
starts_front [] k = refl
starts_front (c ∷ p) k =
    ap (λ b. b && starts_with nat_eq (p ++ k) p) (eq-eqb c c refl) ∙ starts_front p k
