-- Lists that are kept by slots.
use Rattle.std.proofs.Common.{◌≡◌, ℕ, zero, suc, ◌<◌, List, [], ◌∷◌, ◌++◌, length, map, set}
use Rattle.std.proofs.Common.{get_or, sym, refl, ap, ◌∙◌, subst, arith}
use Rattle.std.specs.Prelude.{All, slice_index_or}
use Rattle.std.specs.Global.{Vec}
use Rattle.std.proofs.lemmas.List.{get_or_default, get_or_append_left, get_or_push, map-set}
use Rattle.std.proofs.lemmas.List.{length-map, get_or-map}
use Rattle.relation_order.specs.Sets.{has, goes, successors}
use Rattle.relation_order.specs.Search.{Inside}
use Rattle.plan_order.specs.Lists.{items_of}
use Rattle.plan_order.specs.Slots.{at_slots}

-- the list at a slot
pub slots-get : (kept : List (Vec ℕ)) (slots : List ℕ) (place slot : ℕ) (v : Vec ℕ)
    → All (λ s. s < length kept) slots → place < length (at_slots kept slots)
    → slot ≡ get_or slots place slot → v ≡ get_or kept slot v
    → v.items ≡ successors (at_slots kept slots) place
slots-get [] slots place slot v low l is at = absurd (omega arith)
slots-get (first ∷ rest) slots place slot v low l is at = go slots place l is
  where
    within : slot < length (first ∷ rest)
    within =
        subst (λ s. s < length (first ∷ rest)) (sym is)
        (low place slot
        (omega (arith, l, length-map slots (λ s. get_or (first ∷ rest) s first))))

    go : (ss : List ℕ) (k : ℕ) → k < length (at_slots (first ∷ rest) ss) → slot ≡ get_or ss k slot
        → v.items ≡ successors (at_slots (first ∷ rest) ss) k
    go [] k l is = absurd (omega arith)
    go (s ∷ ss) zero l is =
        ap (λ (u : Vec ℕ). u.items)
        (at ∙ get_or_default (first ∷ rest) slot v first within
        ∙ ap (λ i. get_or (first ∷ rest) i first) is)
    go (s ∷ ss) (suc k) l is = go ss k (omega arith) is

-- a list that is kept next, and a slot for it
pub slots-put : (kept : List (Vec ℕ)) (slots : List ℕ) (place slot : ℕ) (v : Vec ℕ)
    → All (λ s. s < length kept) slots → place < length (at_slots kept slots)
    → length kept ≡ slot
    → at_slots (kept ++ v ∷ []) (set slots place slot) ≡ set (at_slots kept slots) place v
slots-put [] slots place slot v low l is = absurd (omega arith)
slots-put (first ∷ rest) slots place slot v low l is =
    map-set (λ s. get_or (first ∷ rest ++ v ∷ []) s first) slots place slot
    ∙ ap (set (map (λ s. get_or (first ∷ rest ++ v ∷ []) s first) slots) place)
    (get_or_push (first ∷ rest) v first slot is)
    ∙ ap (λ ls. set ls place v) (same slots low)
  where
    same : (ss : List ℕ) → All (λ s. s < length (first ∷ rest)) ss
        → map (λ s. get_or (first ∷ rest ++ v ∷ []) s first) ss
        ≡ map (λ s. get_or (first ∷ rest) s first) ss
    same [] low = refl
    same (s ∷ ss) low =
        ap (λ u. u ∷ map (λ i. get_or (first ∷ rest ++ v ∷ []) i first) ss)
        (get_or_append_left (first ∷ rest) (v ∷ []) first s (low 0 0 (omega arith)))
        ∙ ap (λ us. get_or (first ∷ rest) s first ∷ us)
        (same ss (λ k d l. low (suc k) d (omega arith)))

-- an empty list at each slot
pub slots-empty : (v : Vec ℕ) (slots : List ℕ) → v.items ≡ [] → (x : ℕ)
    → successors (at_slots (v ∷ []) slots) x ≡ []
slots-empty v slots none x = go slots x
  where
    one : (s : ℕ) → get_or (v ∷ []) s v ≡ v
    one zero = refl
    one (suc s) = refl

    go : (ss : List ℕ) (x : ℕ) → successors (at_slots (v ∷ []) ss) x ≡ []
    go [] x = refl
    go (s ∷ ss) zero = ap (λ (u : Vec ℕ). u.items) (one s) ∙ none
    go (s ∷ ss) (suc x) = go ss x

pub inside-empty : (n : ℕ) (lists : List (Vec ℕ)) → ((x : ℕ) → successors lists x ≡ [])
    → Inside n lists
inside-empty n lists none k d l j e low =
    let z : length (get_or lists k d).items ≡ 0
    = ap length (sym (get_or-map (λ (u : Vec ℕ). u.items) lists k d [] l) ∙ none k) in
    absurd (omega (arith, low, z))

pub successors-inside : (n : ℕ) (lists : List (Vec ℕ)) (x : ℕ) → Inside n lists → x < length lists
    → All (λ y. y < n) (successors lists x)
successors-inside n [] x inside l = absurd (omega arith)
successors-inside n (v ∷ vs) zero inside l = inside 0 v l
successors-inside n (v ∷ vs) (suc x) inside l =
    successors-inside n vs x (λ k d m. inside (suc k) d (omega arith)) (omega arith)

-- ---- copies

-- the same items go to the same items
pub goes-same : (lists copies : List (Vec ℕ)) → items_of copies ≡ items_of lists
    → goes copies ≡ goes lists
goes-same lists copies same = ap (λ ls x y. has (slice_index_or ls x []) y) same

pub length-same : (lists copies : List (Vec ℕ)) → items_of copies ≡ items_of lists
    → length copies ≡ length lists
length-same lists copies same =
    sym (length-map copies (λ (u : Vec ℕ). u.items)) ∙ ap length same
    ∙ length-map lists (λ (u : Vec ℕ). u.items)

pub inside-same : (n : ℕ) (lists copies : List (Vec ℕ)) → items_of copies ≡ items_of lists
    → Inside n lists → Inside n copies
inside-same n lists copies same inside k d l =
    let l' : k < length lists = omega (arith, l, length-same lists copies same) in
    subst (All (λ y. y < n))
    (sym (get_or-map (λ (u : Vec ℕ). u.items) lists k d [] l')
    ∙ ap (λ xs. get_or xs k []) (sym same)
    ∙ get_or-map (λ (u : Vec ℕ). u.items) copies k d [] l)
    (inside k d l')
