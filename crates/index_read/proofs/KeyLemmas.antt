-- The nodes of an index with their keys.
use Rattle.std.proofs.Common.{◌≡◌, refl, sym, ap, subst, ◌∙◌, ⊎_elim, ℕ, zero, suc, ◌+◌, ◌-◌, ◌<◌}
use Rattle.std.proofs.Common.{◌≤◌, List, [], ◌∷◌, ◌++◌, length, take, get_or, Option, Some, None}
use Rattle.std.proofs.Common.{arith, append_assoc, length-append, slice_set}
use Rattle.std.proofs.Math.Seq.{set-append_seam, get_or-append_seam}
use Rattle.std.proofs.lemmas.Bool.{cases_eq}
use Rattle.std.proofs.lemmas.List.{append-nil, take_at, take_all, take-append-le}
use Rattle.std.proofs.lemmas.Grind.{take_at_read}
use Rattle.std.specs.List.{AllByRecursion}
use Rattle.index_format.specs.Link.{place_of}
use Rattle.index_format.specs.Node.{root, prefix, child}
use Rattle.index_format.specs.Check.{index_fault}
use Rattle.index_format.specs.Nodes.{IsNode, top, below}
use Rattle.index_nodes.specs.Fields.{link_of, IsNodeOf}
use Rattle.index_nodes.proofs.SoundNodes.{node_sound, child_below}
use Rattle.index_nodes.specs.declared.node.Node.{Node}
use Rattle.index_read.specs.declared.walk.Level.{Level}
use Rattle.index_read.specs.Keys.{Item, all_items, on_child, branches, key_bytes, items, piece}
use Rattle.index_read.specs.Keys.{key_of, level_items, items_left, IsLevel, AreLevels}
use Rattle.index_read.specs.Walks.{IsTop, IsWritten, front, level_of, after_byte}

-- ---- branches

pub branches_none : (f : ℕ → List ℕ → List Item) (b : List ℕ) (link : ℕ) (key : List ℕ) (byte n : ℕ)
    → ((k : ℕ) → byte ≤ k → child b link k ≡ None) → branches f b link key byte n ≡ []
unfolding branches
branches_none f b link key byte zero h = refl
branches_none f b link key byte (suc n) h =
    ap (λ o. on_child o (λ next. f next (key ++ byte ∷ [])) ++ branches f b link key (byte + 1) n)
    (h byte (omega arith))
    ∙ branches_none f b link key (byte + 1) n (λ k le. h k (omega (arith, le)))

pub branches_some : (f : ℕ → List ℕ → List Item) (b : List ℕ) (link : ℕ) (key : List ℕ)
    (byte n c next : ℕ)
    → byte ≤ c → c < byte + n → ((k : ℕ) → byte ≤ k → k < c → child b link k ≡ None)
    → child b link c ≡ Some next
    → branches f b link key byte n
    ≡ f next (key ++ c ∷ []) ++ branches f b link key (c + 1) (byte + n - (c + 1))
unfolding branches
branches_some f b link key byte zero c next from to none is = absurd (omega (arith, from, to))
branches_some f b link key byte (suc n) c next from to none is =
    let size : n ≡ byte + suc n - (byte + 1) = omega arith in
    ⊎_elim
    (λ here.
    ap (λ o. on_child o (λ next. f next (key ++ byte ∷ [])) ++ branches f b link key (byte + 1) n)
    (ap (child b link) here ∙ is)
    ∙ (λ i. f next (key ++ here i ∷ [])
    ++ branches f b link key (here i + 1)
    (subst (λ k. n ≡ byte + suc n - (k + 1)) here size i)))
    (λ later.
    let more : byte + 1 + n - (c + 1) ≡ byte + suc n - (c + 1) = omega arith in
    ap (λ o. on_child o (λ next. f next (key ++ byte ∷ [])) ++ branches f b link key (byte + 1) n)
    (none byte (omega arith) (omega (arith, from, later)))
    ∙ branches_some f b link key (byte + 1) n c next (omega (arith, from, later))
    (omega (arith, to)) (λ k le lt. none k (omega (arith, le)) lt) is
    ∙ ap (λ m. f next (key ++ c ∷ []) ++ branches f b link key (c + 1) m) more)
    (cases_eq byte c)

pub branches_same : (f g : ℕ → List ℕ → List Item) (b : List ℕ) (link : ℕ) (key : List ℕ)
    (byte n : ℕ)
    → ((k next : ℕ) (under : List ℕ) → child b link k ≡ Some next → f next under ≡ g next under)
    → branches f b link key byte n ≡ branches g b link key byte n
unfolding branches
branches_same f g b link key byte zero h = refl
branches_same f g b link key byte (suc n) h =
    λ i. on_child_same (child b link byte) (key ++ byte ∷ [])
    (λ next e. h byte next (key ++ byte ∷ []) e) i
    ++ branches_same f g b link key (byte + 1) n h i
  where
    on_child_same : (o : Option ℕ) (under : List ℕ)
        → ((next : ℕ) → o ≡ Some next → f next under ≡ g next under)
        → on_child o (λ next. f next under) ≡ on_child o (λ next. g next under)
    on_child_same None under e = refl
    on_child_same (Some next) under e = e next refl

-- ---- depth

pub items-depth : (b : List ℕ) → index_fault b ≡ None → (d e link : ℕ) (key : List ℕ)
    → IsNode b link → place_of link < d → place_of link < e
    → items b d link key ≡ items b e link key
unfolding items
items-depth b h zero e link key node p q = absurd (omega (arith, p))
items-depth b h (suc d) zero link key node p q = absurd (omega (arith, q))
items-depth b h (suc d) (suc e) link key node p q =
    ap (λ rest. (key ++ prefix b link, link) ∷ rest)
    (branches_same (items b d) (items b e) b link (key ++ prefix b link) 0 key_bytes
    (λ k next under is. let lt
    = child_below b h link k next node is in items-depth b h d e next under
    (below k next node is) (omega (arith, lt, p)) (omega (arith, lt, q))))

-- a node, and those below it
pub items-node : (b : List ℕ) → index_fault b ≡ None → (d link : ℕ) (key : List ℕ) → IsNode b link
    → place_of link < d
    → items b d link key
    ≡ (key ++ prefix b link, link)
    ∷ branches (items b (place_of link)) b link (key ++ prefix b link) 0 key_bytes
unfolding items
items-node b h zero link key node p = absurd (omega (arith, p))
items-node b h (suc d) link key node p =
    ap (λ rest. (key ++ prefix b link, link) ∷ rest)
    (branches_same (items b d) (items b (place_of link)) b link (key ++ prefix b link) 0 key_bytes
    (λ k next under is. let lt
    = child_below b h link k next node is in items-depth b h d (place_of link) next under
    (below k next node is) (omega (arith, lt, p)) lt))

-- ---- levels

key_of-push : (b : List ℕ) (ls : List Level) (l : Level)
    → key_of b (ls ++ l ∷ []) ≡ key_of b ls ++ piece b l
key_of-push b [] l = append-nil (piece b l)
key_of-push b (m ∷ ls) l =
    ap (λ k. piece b m ++ k) (key_of-push b ls l)
    ∙ sym (append_assoc (piece b m) (key_of b ls) (piece b l))

pub items_left-push : (b key : List ℕ) (ls : List Level) (l : Level)
    → items_left b key (ls ++ l ∷ [])
    ≡ level_items b ((key ++ key_of b ls) ++ piece b l) l ++ items_left b key ls
items_left-push b key [] l =
    sym (append-nil _)
    ∙ ap (λ k. level_items b (k ++ piece b l) l ++ []) (sym (append-nil key))
items_left-push b key (m ∷ ls) l =
    let own = level_items b (key ++ piece b m) m in
    let more = items_left b (key ++ piece b m) ls in
    ap (λ rest. rest ++ own) (items_left-push b (key ++ piece b m) ls l)
    ∙ ap (λ k. (level_items b (k ++ piece b l) l ++ more) ++ own)
    (append_assoc key (piece b m) (key_of b ls))
    ∙ append_assoc (level_items b ((key ++ (piece b m ++ key_of b ls)) ++ piece b l) l) more own

pub levels-pop : (b : List ℕ) (ls : List Level) (l : Level) → AreLevels b (ls ++ l ∷ [])
    → AreLevels b ls × IsLevel b l
levels-pop b [] l h = (tt, h.0)
levels-pop b (m ∷ ls) l h = let rest = levels-pop b ls l h.1 in ((h.0, rest.0), rest.1)

-- The level that a walk is on is at the last place.
top_place : (ls : List Level) (l : Level) → IsTop ls l → length ls - 1 ≡ length (front ls)
top_place ls l ends =
    let long = ap length ends ∙ length-append (front ls) (l ∷ []) in
    omega (arith, long)

-- It is read there.
pub top_read : (ls : List Level) (l d : Level) → IsTop ls l → get_or ls (length ls - 1) d ≡ l
top_read ls l d ends =
    ap (λ n. get_or ls n d) (top_place ls l ends)
    ∙ ap (λ ms. get_or ms (length (front ls)) d) ends
    ∙ get_or-append_seam (front ls) l [] d

-- A write there changes it.
pub top_write : (ls : List Level) (l m : Level) → IsTop ls l
    → slice_set ls (length ls - 1) m ≡ front ls ++ m ∷ []
top_write ls l m ends =
    ap (λ n. slice_set ls n m) (top_place ls l ends)
    ∙ ap (λ ms. slice_set ms (length (front ls)) m) ends
    ∙ set-append_seam (front ls) l [] m

pub levels-push : (b : List ℕ) (ls : List Level) (l : Level) → AreLevels b ls → IsLevel b l
    → AreLevels b (ls ++ l ∷ [])
levels-push b [] l h is = (is, tt)
levels-push b (m ∷ ls) l h is = (h.0, levels-push b ls l h.1 is)

pub level-at : (b : List ℕ) (ls : List Level) (at : ℕ) (l : Level) → AreLevels b ls → at < length ls
    → l ≡ get_or ls at l → IsLevel b l
level-at b [] at l h lt e = absurd (omega (arith, lt))
level-at b (m ∷ ls) zero l h lt e = subst (IsLevel b) (sym e) h.0
level-at b (m ∷ ls) (suc at) l h lt e = level-at b ls at l h.1 (omega (arith, lt)) e

-- ---- what is written

-- The last level isn't written.
pub written-before : (b key : List ℕ) (count : ℕ) (ls : List Level) (l : Level)
    → IsWritten b key count (ls ++ l ∷ []) → count ≤ length ls → IsWritten b key count ls
written-before b key count ls l w le = record {
  key_is = w.key_is ∙ ap (key_of b) (take-append-le count ls (l ∷ []) le);
  within = le;
}

-- The last level is written.
written-whole : (b key : List ℕ) (count : ℕ) (ls : List Level) (l : Level)
    → IsWritten b key count (ls ++ l ∷ []) → length ls < count → key ≡ key_of b ls ++ piece b l
written-whole b key count ls l w gt =
    w.key_is
    ∙ ap (key_of b) (take_all count (ls ++ l ∷ []) (omega (arith, gt, length-append ls (l ∷ []))))
    ∙ key_of-push b ls l

pub written-size : (b key : List ℕ) (count : ℕ) (ls : List Level) (l : Level)
    → IsWritten b key count (ls ++ l ∷ []) → length ls < count → length (piece b l) ≤ length key
written-size b key count ls l w gt =
    let size = ap length (written-whole b key count ls l w gt) in
    omega (arith, size, length-append (key_of b ls) (piece b l))

pub written-dropped : (b key : List ℕ) (count : ℕ) (ls : List Level) (l : Level) (n : ℕ)
    → IsWritten b key count (ls ++ l ∷ []) → length ls < count → n ≡ length key - length (piece b l)
    → IsWritten b (take n key) (length ls) ls
written-dropped b key count ls l n w gt is =
    let whole = written-whole b key count ls l w gt in
    let size = ap length whole in
    record {
      key_is =
          ap (take n) whole
          ∙ take_at (key_of b ls) (piece b l) n
          (omega (arith, is, size, length-append (key_of b ls) (piece b l)))
          ∙ ap (key_of b) (sym (take_all (length ls) ls (omega arith)));
      within = omega arith;
    }

-- The walk went on from a level to a child.
pub written-on : (b key : List ℕ) (count : ℕ) (ls : List Level) (l m n : Level)
    → piece b l ≡ piece b m → IsWritten b key count (ls ++ l ∷ [])
    → IsWritten b key count ((ls ++ m ∷ []) ++ n ∷ [])
written-on b key count ls l m n e w =
    let few : count ≤ length (ls ++ m ∷ [])
    = omega (arith, w.within, length-append ls (l ∷ []), length-append ls (m ∷ [])) in
    record {
      key_is =
          w.key_is
          ∙ same count ls
          ∙ ap (key_of b) (sym (take-append-le count (ls ++ m ∷ []) (n ∷ []) few));
      within = omega (arith, few, length-append (ls ++ m ∷ []) (n ∷ []));
    }
  where
    same : (count : ℕ) (ls : List Level)
        → key_of b (take count (ls ++ l ∷ [])) ≡ key_of b (take count (ls ++ m ∷ []))
    same zero ls = refl
    same (suc count) [] = ap (λ p. p ++ key_of b (take count [])) e
    same (suc count) (k ∷ ls) = ap (λ rest. piece b k ++ rest) (same count ls)

pub written-same : (b key other : List ℕ) (count n : ℕ) (ls : List Level) → other ≡ key → n ≡ count
    → IsWritten b key count ls → IsWritten b other n ls
written-same b key other count n ls e f w = record {
  key_is = e ∙ w.key_is ∙ ap (λ m. key_of b (take m ls)) (sym f);
  within = omega (arith, f, w.within);
}

-- One level more is written.
pub written-more : (b key : List ℕ) (count : ℕ) (ls : List Level) (l : Level)
    → key ≡ key_of b (take count ls) → count < length ls → l ≡ get_or ls count l
    → key ++ piece b l ≡ key_of b (take (count + 1) ls)
written-more b key count ls l is lt e =
    ap (λ k. k ++ piece b l) is
    ∙ sym (key_of-push b (take count ls) l)
    ∙ ap (λ m. key_of b (take count ls ++ m ∷ [])) e
    ∙ ap (key_of b) (sym (take_at_read ls count l lt).1)

-- All levels are written.
pub written-all : (b key : List ℕ) (count : ℕ) (ls : List Level) → key ≡ key_of b (take count ls)
    → length ls ≤ count → key ≡ key_of b ls
written-all b key count ls is le = is ∙ ap (key_of b) (take_all count ls le)

pub whole-written : (b key : List ℕ) (count : ℕ) (ls : List Level) → key ≡ key_of b ls
    → count ≡ length ls → IsWritten b key count ls
whole-written b key count ls is size = record {
  key_is = is ∙ ap (key_of b) (sym (take_all count ls (omega (arith, size))));
  within = omega (arith, size);
}

-- ---- keys below a node

abbrev pub Begins : List ℕ → List Item → Type 0
Begins p is = AllByRecursion (λ item. (rest : List ℕ) × (item.0 ≡ p ++ rest)) is

pub begins-append : (p : List ℕ) (xs ys : List Item) → Begins p xs → Begins p ys
    → Begins p (xs ++ ys)
begins-append p [] ys h k = k
begins-append p (x ∷ xs) ys h k = (h.0, begins-append p xs ys h.1 k)

pub begins-shorter : (p q : List ℕ) (is : List Item) → Begins (p ++ q) is → Begins p is
begins-shorter p q [] h = tt
begins-shorter p q (x ∷ is) h =
    ((q ++ h.0.0, h.0.1 ∙ append_assoc p q h.0.0), begins-shorter p q is h.1)

child-begins : (f : ℕ → List ℕ → List Item) (o : Option ℕ) (key : List ℕ) (byte : ℕ)
    → ((next : ℕ) (under : List ℕ) → Begins under (f next under))
    → Begins key (on_child o (λ next. f next (key ++ byte ∷ [])))
child-begins f None key byte h = tt
child-begins f (Some next) key byte h = begins-shorter key (byte ∷ []) _ (h next (key ++ byte ∷ []))

pub branches-begin : (f : ℕ → List ℕ → List Item) (b : List ℕ) (link : ℕ) (key : List ℕ)
    (byte n : ℕ)
    → ((next : ℕ) (under : List ℕ) → Begins under (f next under))
    → Begins key (branches f b link key byte n)
unfolding branches
branches-begin f b link key byte zero h = tt
branches-begin f b link key byte (suc n) h =
    begins-append key (on_child (child b link byte) (λ next. f next (key ++ byte ∷ [])))
    (branches f b link key (byte + 1) n) (child-begins f (child b link byte) key byte h)
    (branches-begin f b link key (byte + 1) n h)

pub items-begin : (b : List ℕ) (d link : ℕ) (key : List ℕ) → Begins key (items b d link key)
unfolding items
items-begin b zero link key = tt
items-begin b (suc d) link key = (
  (prefix b link, refl),
  begins-shorter key (prefix b link) _
      (branches-begin (items b d) b link (key ++ prefix b link) 0 key_bytes
      (items-begin b d)),
)

-- ---- a step to a child

module _ (b : List ℕ) (accepted : index_fault b ≡ None) (ps : List Level) (l : Level)
    (levels : AreLevels b (ps ++ l ∷ [])) where
  abbrev key : List ℕ
  key = key_of b ps ++ piece b l

  popped : AreLevels b ps × IsLevel b l
  popped = levels-pop b ps l levels

  pub nothing_left : ((k : ℕ) → l.next ≤ k → child b (link_of l.node) k ≡ None)
      → items_left b [] (ps ++ l ∷ []) ≡ items_left b [] ps
  nothing_left h =
      items_left-push b [] ps l
      ∙ ap (λ rest. rest ++ items_left b [] ps)
      (branches_none (items b (place_of (link_of l.node))) b (link_of l.node) key l.next
      (key_bytes - l.next) h)

  module _ (byte at : ℕ) (n : Node) (is : child b (link_of l.node) byte ≡ Some at)
      (from : l.next ≤ byte)
      (first : (k : ℕ) → l.next ≤ k → k < byte → child b (link_of l.node) k ≡ None)
      (ascii : byte ≤ 127) (name : link_of n ≡ at) (node : IsNodeOf b n) where
    abbrev under : List ℕ
    under = key ++ byte ∷ []

    abbrev new : List ℕ
    new = under ++ prefix b (link_of n)

    abbrev own : Level
    own = level_of n (Some byte)

    abbrev others : List Level
    others = ps ++ after_byte l byte ∷ []

    child_items : items b (place_of (link_of l.node)) at under
        ≡ (new, link_of n) ∷ level_items b new own
    child_items =
        let lt = child_below b accepted (link_of l.node) byte at popped.1.node.node is in
        items-node b accepted (place_of (link_of l.node)) at under
        (below byte at popped.1.node.node is) lt
        ∙ ap (λ k. (under ++ prefix b k, k)
        ∷ branches (items b (place_of k)) b k (under ++ prefix b k) 0 key_bytes) (sym name)

    new_key : new ≡ key_of b others ++ piece b own
    new_key =
        append_assoc key (byte ∷ []) (prefix b (link_of n))
        ∙ ap (λ k. k ++ byte ∷ prefix b (link_of n)) (sym (key_of-push b ps (after_byte l byte)))

    pub comes_left : items_left b [] (ps ++ l ∷ [])
        ≡ (key_of b ((ps ++ after_byte l byte ∷ []) ++ level_of n (Some byte) ∷ []), link_of n)
        ∷ items_left b [] ((ps ++ after_byte l byte ∷ []) ++ level_of n (Some byte) ∷ [])
    comes_left =
        let f = items b (place_of (link_of l.node)) in
        let rest = key_bytes - (byte + 1) in
        let more = items_left b [] ps in
        let inside : l.next + (key_bytes - l.next) ≡ key_bytes = omega (arith, popped.1.next) in
        let count : l.next + (key_bytes - l.next) - (byte + 1) ≡ rest
        = ap (λ k. k - (byte + 1)) inside in
        items_left-push b [] ps l
        ∙ ap (λ is. is ++ more)
        (branches_some f b (link_of l.node) key l.next (key_bytes - l.next) byte at from
        (omega (arith, inside, ascii)) first is)
        ∙ ap (λ k. (f at under ++ branches f b (link_of l.node) key (byte + 1) k) ++ more) count
        ∙ append_assoc (f at under) (branches f b (link_of l.node) key (byte + 1) rest) more
        ∙ ap (λ is. is ++ (branches f b (link_of l.node) key (byte + 1) rest ++ more)) child_items
        ∙ ap (λ is. ((new, link_of n) ∷ level_items b new own) ++ is)
        (sym (items_left-push b [] ps (after_byte l byte)))
        ∙ ap (λ k. (k, link_of n) ∷ (level_items b k own ++ items_left b [] others)) new_key
        ∙ ap (λ is. (key_of b others ++ piece b own, link_of n) ∷ is)
        (sym (items_left-push b [] others own))
        ∙ ap (λ k. (k, link_of n) ∷ items_left b [] (others ++ own ∷ []))
        (sym (key_of-push b others own))

    pub comes_levels : AreLevels b ((ps ++ after_byte l byte ∷ []) ++ level_of n (Some byte) ∷ [])
    comes_levels =
        levels-push b others own
        (levels-push b ps (after_byte l byte) popped.0
        (record { node = popped.1.node; next = omega (arith, ascii) }))
        (record { node = node; next = omega arith })

-- ---- the root

pub root_items : (b : List ℕ) → index_fault b ≡ None → (n : Node) (levels : List Level)
    → link_of n ≡ root b → levels ≡ level_of n None ∷ []
    → all_items b ≡ (key_of b levels, link_of n) ∷ items_left b [] levels
root_items b accepted n levels name are =
    let node : IsNode b (root b) = top in
    let sound = node_sound b accepted (root b) node in
    items-node b accepted (length b + 1) (root b) [] node (omega (arith, sound.within))
    ∙ ap (λ k. (prefix b k, k) ∷ branches (items b (place_of k)) b k (prefix b k) 0 key_bytes)
    (sym name)
    ∙ ap (λ k. (k, link_of n) ∷ items_left b [] (level_of n None ∷ []))
    (sym (append-nil (prefix b (link_of n))))
    ∙ ap (λ ls. (key_of b ls, link_of n) ∷ items_left b [] ls) (sym are)
